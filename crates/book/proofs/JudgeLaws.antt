-- What a commit's judgement of a bank can be: the one inversion of `judge`, and of `carefully` on top of it.
use Prim.Native.Nat.{ℕ, ◌≤◌, ◌<◌}
use mathlib.Core.Path.{◌≡◌, subst}
use mathlib.Core.Logic.{◌≢◌}
use mathlib.Core.Bool.{Bool, true, false}
use native.Mathlib.Omega.{arith}
use lib.Dec.{ltb, eqb}
use borrow.Author.Tests.{ltb-true, ltb-false, eqb-false}
use Rattle.buffers.proofs.Laws.{by_test}
use Rattle.bank.specs.declared.header.StoreHeader.{StoreHeader}
use Rattle.bank.specs.Bank.{Bank}
use Rattle.bank.specs.Totals.{total, live_total}
use Rattle.records.specs.Figures.{system_used, common_used}
use Rattle.book.specs.Commit.{Way, old, careful, Judged, refuse, in_place, move, judge, carefully, judge_as, due, judge_bank}

-- the numbers by which a book refuses: none is 0, and none 6
pub record Number (k : ℕ) : Type 0 where
  pub not_0 : k ≢ 0
  pub not_6 : k ≢ 6

pub above_6 : (k : ℕ) → 6 < k → Number k
above_6 k h = record { not_0 = λ e. omega arith; not_6 = λ e. omega arith }

-- where a move is decided on, what it is known to fit by
pub data Decided (h : StoreHeader) (d : Bool) (Fits : Type 0) : Judged → Type 0 where
  refuses : (n : ℕ) → Number n → Decided h d Fits (refuse n)
  stays : d ≡ false → Decided h d Fits in_place
  moves : d ≡ true → h.generation ≢ 4294967295 → Fits → Decided h d Fits move

decided : (h : StoreHeader) (system common : ℕ) (d : Bool) → Decided h d (Unit {0}) (judge h system common d)
unfolding judge
decided h system common d =
    by_test P (ltb h.system_size system) _ _ (λ t. refuses 9 (above_6 9 (omega arith)))
    (λ t. by_test P (ltb h.common_size common) _ _ (λ t. refuses 10 (above_6 10 (omega arith)))
    (λ t. by_test P d _ _
    (λ t. by_test P (eqb h.generation 4294967295) _ _ (λ l. refuses 11 (above_6 11 (omega arith))) (λ l. moves t (eqb-false _ _ l) tt))
    (λ t. stays t)))
  where
    P : Judged → Type 0
    P = Decided h d (Unit {0})

decided_carefully : (h : StoreHeader) (d : Bool) (live size : ℕ) (j : Judged) → Decided h d (Unit {0}) j
    → Decided h d (live ≤ size) (carefully live size j)
unfolding carefully
decided_carefully h d live size j (refuses n x) = refuses n x
decided_carefully h d live size j (stays x) = stays x
decided_carefully h d live size j (moves x l f) =
    by_test (Decided h d (live ≤ size)) (ltb size live) _ _ (λ t. refuses 12 (above_6 12 (omega arith))) (λ t. moves x l (ltb-false _ _ t))

-- of a bank

-- a careful commit moves where the live records fit
abbrev pub Fits : Way → Bank → Type 0
Fits old k = Unit {0}
Fits careful k = live_total k ≤ k.header.size

pub decided_bank : (way : Way) (k : Bank) → Decided k.header (due k) (Fits way k) (judge_bank way k)
unfolding judge_bank judge_as
decided_bank old k = decided k.header (system_used k.records) (common_used k.records) (due k)
decided_bank careful k =
    decided_carefully k.header (due k) (live_total k) k.header.size _ (decided k.header (system_used k.records) (common_used k.records) (due k))

pub not_due : (k : Bank) → due k ≡ false → total k ≤ k.usable
unfolding due
not_due k e = ltb-false _ _ e

pub is_due : (k : Bank) → due k ≡ true → k.usable < total k
unfolding due
is_due k e = ltb-true _ _ e

module _ (way : Way) (k : Bank) where
  pub in_place_fits : judge_bank way k ≡ in_place → total k ≤ k.usable
  in_place_fits e = go (subst (Decided k.header (due k) (Fits way k)) e (decided_bank way k))
    where
      go : Decided k.header (due k) (Fits way k) in_place → total k ≤ k.usable
      go (stays d) = not_due k d

  pub move_grows : judge_bank way k ≡ move → k.header.generation ≢ 4294967295
  move_grows e = go (subst (Decided k.header (due k) (Fits way k)) e (decided_bank way k))
    where
      go : Decided k.header (due k) (Fits way k) move → k.header.generation ≢ 4294967295
      go (moves d l f) = l
