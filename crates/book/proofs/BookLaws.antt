-- The size of a part, and the slots of a well-formed book, one at a time: read and replaced.
use Prim.Native.Nat.{ℕ, zero, suc, ◌*◌, ◌≤◌}
use mathlib.Core.Path.{◌≡◌, refl, ap, ◌∙◌}
use mathlib.Core.List.{List, [], ◌∷◌}
use lib.ListN.{get_or, set, length-set}
use Rattle.bank.specs.Bank.{Bank, Slot, invalid, valid}
use Rattle.bank.specs.Totals.{total}
use Rattle.bank.specs.WellFormed.{FineBank}
use Rattle.book.specs.Book.{part_size, FineSlot, Book, FineSlots, FineBook, with_active}

pub part_size_lem : part_size ≡ 131072
unfolding part_size
part_size_lem = refl

-- where a part begins, in the number that the code has
pub part_times : (i : ℕ) → i * part_size ≡ i * 131072
part_times i = ap (λ (n : ℕ). i * n) part_size_lem

pub fine_at : (ss : List Slot) (i : ℕ) → FineSlots ss → FineSlot (get_or ss i invalid)
fine_at [] i f = tt
fine_at (s ∷ ss) zero f = f.0
fine_at (s ∷ ss) (suc i) f = fine_at ss i f.1

pub fine_set : (ss : List Slot) (i : ℕ) (x : Slot) → FineSlots ss → FineSlot x → FineSlots (set ss i x)
fine_set [] i x f g = tt
fine_set (s ∷ ss) zero x f g = (g, f.1)
fine_set (s ∷ ss) (suc i) x f g = (f.0, fine_set ss i x f.1 g)

pub fine_with : (b : Book) (k : Bank) → FineBook b → FineBank k → total k ≤ part_size → FineBook (with_active b k)
fine_with b k f g t =
    record {
      low = f.low;
      high = f.high;
      inside = f.inside;
      long = length-set b.slots b.active (valid k) ∙ f.long;
      slots_fine = fine_set b.slots b.active (valid k) f.slots_fine (g, t);
    }
