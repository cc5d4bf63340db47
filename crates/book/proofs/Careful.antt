-- To be read: nothing cites it. The careful commit beside the old one (02, N4), on any book: but for 12 the two are one (`same`); where the old one
-- is refused by 12, so is it, and changes nothing (`same_12`); so what it accepts, it does as the old one (`accepted_same`).
use Prim.Native.Nat.{ℕ}
use mathlib.Core.Path.{◌≡◌, refl, ap}
use mathlib.Core.Logic.{◌≢◌}
use mathlib.Core.Bool.{Bool, true, false}
use Rattle.std.specs.Prelude.{Option, None}
use native.Mathlib.Omega.{arith}
use lib.Dec.{ltb}
use borrow.Author.Tests.{le-leb, lt-leb, ltb-true, ltb-false}
use Rattle.bank.specs.Bank.{Bank, Slot, empty, invalid, valid, bank_size}
use Rattle.bank.specs.Totals.{live_total}
use Rattle.records.specs.Figures.{system_used, common_used}
use Rattle.tally.specs.declared.Caller.{Caller}
use Rattle.book.specs.Book.{Book, active_slot}
use Rattle.book.specs.Commit.{old, careful, Judged, refuse, in_place, move, judge, carefully, judge_as, due, judge_bank}
use Rattle.book.specs.Call.{commit, committed, number, Outcome, stay, overflows, by_slot, move_in, commit_as, commit_bank, commit_to, step}

-- an outcome of the old commit, and the careful one's
data Beside (b : Book) : Outcome → Outcome → Type 0 where
  refuses : (n : ℕ) → Beside b (stay b (committed n None 0 0)) (stay b (committed n None 0 0))
  accepts : (o : Outcome) → number o.answer ≡ 0 → Beside b o o
  exceeds : (k : Bank) (e : Option ℕ) → Beside b (overflows b k e) (stay b (committed 12 None 0 0))

module _ (b : Book) where
  beside_judged : (k : Bank) (j : Judged) → Beside b (commit_as b k j) (commit_as b k (carefully (live_total k) k.header.size j))
  unfolding carefully commit_as move_in
  beside_judged k (refuse n) = refuses n
  beside_judged k in_place = accepts _ refl
  beside_judged k move = go (ltb k.header.size (live_total k)) refl
    where
      go : (t : Bool) → ltb k.header.size (live_total k) ≡ t
          → Beside b (commit_as b k move) (commit_as b k (carefully (live_total k) k.header.size move))
      go true e = rw (e, lt-leb _ _ (ltb-true _ _ e)) (exceeds k _)
      go false e = rw (e, le-leb _ _ (ltb-false _ _ e)) (accepts _ refl)

  module _ (caller : Caller) (room : ℕ) where
    beside_slot : (s : Slot) → Beside b (by_slot b (commit old caller room) (commit_bank b old) s) (by_slot b (commit careful caller room) (commit_bank b careful) s)
    unfolding by_slot commit_bank judge_bank judge_as
    beside_slot empty = refuses 7
    beside_slot invalid = refuses 7
    beside_slot (valid k) = beside_judged k (judge k.header (system_used k.records) (common_used k.records) (due k))

    beside : Beside b (step b (commit old caller room)) (step b (commit careful caller room))
    unfolding step commit_to
    beside = go (ltb room bank_size) refl
      where
        go : (t : Bool) → ltb room bank_size ≡ t → Beside b (step b (commit old caller room)) (step b (commit careful caller room))
        go true e = rw e (refuses 5)
        go false e = rw e (beside_slot (active_slot b))

    pub same : number (step b (commit old caller room)).answer ≢ 12 → step b (commit careful caller room) ≡ step b (commit old caller room)
    same h = go _ _ beside h
      where
        go : (o c : Outcome) → Beside b o c → number o.answer ≢ 12 → c ≡ o
        go o c (refuses n) h = refl
        go o c (accepts x e) h = refl
        go o c (exceeds k e) h = absurd (h refl)

    pub same_12 : number (step b (commit old caller room)).answer ≡ 12 → step b (commit careful caller room) ≡ stay b (committed 12 None 0 0)
    same_12 h = go _ _ beside h
      where
        go : (o c : Outcome) → Beside b o c → number o.answer ≡ 12 → c ≡ stay b (committed 12 None 0 0)
        go o c (refuses n) h = ap (λ (k : ℕ). stay b (committed k None 0 0)) h
        go o c (accepts x e) h = absurd (omega arith)
        go o c (exceeds k e) h = refl

    pub accepted_same : number (step b (commit careful caller room)).answer ≡ 0 → step b (commit careful caller room) ≡ step b (commit old caller room)
    accepted_same h = same (λ q. omega (arith, ap (λ (o : Outcome). number o.answer) (same_12 q), h))
