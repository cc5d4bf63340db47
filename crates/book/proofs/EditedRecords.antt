-- What edits come to: the number of an insert, and a bank's records after an edit, their size and that they are well-formed.
use Prim.Native.Nat.{ℕ, ◌+◌, ◌≤◌}
use mathlib.Core.Path.{◌≡◌, refl}
use mathlib.Core.List.{List, [], ◌∷◌}
use native.Mathlib.Omega.{arith}
use lib.Dec.{leb}
use borrow.Author.Tests.{leb-true}
use Rattle.buffers.proofs.Laws.{by_test}
use Rattle.bank.specs.Record.{Record, size_of, sizes}
use Rattle.bank.specs.WellFormed.{FineRecords}
use Rattle.records.specs.Match.{removed, fresh}
use Rattle.records.proofs.RecordLists.{sizes_append, fine_append, fine_removed, sizes_removed, fine_fresh}
use Rattle.book.specs.Book.{part_size}
use Rattle.book.specs.Edit.{Manner, plain, barrel, Edit, insert, remove, ByteEdit, attributes_of, edited_by, grows, over_ceiling, refused_insert}

-- the number of an insert: the one inversion of `refused_insert`
pub by_refused : (P : ℕ → Type 0) (m : Manner) (long reached : ℕ) → P 15 → P 8 → (reached ≤ part_size → P 0) → P (refused_insert m long reached)
unfolding refused_insert
by_refused P m long reached f e h =
    by_test P (over_ceiling m long) _ _ (λ t. f) (λ t. by_test P (leb reached part_size) _ _ (λ t. h (leb-true _ _ t)) (λ t. e))

pub has_room : (m : Manner) (long reached : ℕ) → 0 ≡ refused_insert m long reached → reached ≤ part_size
has_room m long reached = by_refused (λ (n : ℕ). 0 ≡ n → reached ≤ part_size) m long reached (λ q. absurd (omega arith)) (λ q. absurd (omega arith)) (λ h q. h)

-- the records

pub no_attributes : (m : Manner) → attributes_of m ≡ 0
no_attributes plain = refl
no_attributes barrel = refl

pub sizes_edited : (e : Edit) (rs : List Record) → sizes (edited_by e rs) ≡ sizes rs + grows e
unfolding sizes edited_by grows
sizes_edited (insert m key value typ) rs =
    omega (arith, sizes_append (removed key typ rs) (fresh (attributes_of m) key value typ ∷ []), sizes_removed key typ rs)
sizes_edited (remove key typ) rs = omega (arith, sizes_removed key typ rs)

pub fine_edited : (e : Edit) (rs : List Record) → ByteEdit e → grows e ≤ 131072 → FineRecords rs → FineRecords (edited_by e rs)
unfolding size_of edited_by grows
fine_edited (insert m key value typ) rs y h f =
    fine_append (removed key typ rs) (fresh (attributes_of m) key value typ ∷ []) (fine_removed key typ rs f)
    (fine_fresh (attributes_of m) key value typ (omega (arith, no_attributes m)) y.0 y.1 (omega arith) (omega arith), tt)
fine_edited (remove key typ) rs y h f = fine_removed key typ rs f
