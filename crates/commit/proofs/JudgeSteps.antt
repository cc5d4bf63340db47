-- Two steps of the judgement: a bank that stays where it is, and a careful commit's refusal of a move. They are to be read: nothing cites them.
use Prim.Native.Nat.{ℕ, ◌≤◌, ◌<◌}
use mathlib.Core.Path.{◌≡◌}
use mathlib.Core.Bool.{Bool, false}
use borrow.Author.Tests.{lt-ltb, le-ltb}
use Rattle.bank.specs.declared.header.StoreHeader.{StoreHeader}
use Rattle.book.specs.Commit.{Judged, refuse, in_place, move, judge, carefully}

pub judge_stays : (h : StoreHeader) (system common : ℕ) (d : Bool) → system ≤ h.system_size → common ≤ h.common_size → d ≡ false → in_place ≡ judge h system common d
unfolding judge
judge_stays h system common d p q r = simp (le-ltb _ _ p, le-ltb _ _ q, r)

pub careful_12 : (live size : ℕ) (j : Judged) → j ≡ move → size < live → refuse 12 ≡ carefully live size j
unfolding carefully
careful_12 live size j e h = simp (e, lt-ltb _ _ h)
