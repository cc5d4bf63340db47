-- `delete_all`: whatever records stand there, a law's `ToDelete` is what is left from `at` on; `begin`, `turn` and `done` are start, turn and end.
use native.Mathlib.Omega.{arith}
use Prim.Native.Nat.{◌-◌}
use mathlib.Core.Path.{◌∙◌}
use lib.ListN.{length}
use borrow.Rule.Slice.PartMut.{same_len_mid}
use Rattle.records.proofs.RecordWalk.{turn, done}
use Rattle.records.proofs.edit.delete_all.Goals as goal

pub delete-at-requires : goal.delete-at-requires
delete-at-requires c = (turn (c.loop-at.invariant.2 c.requires.0 c.requires.1) c.loop-at-test.true).test

pub overflow_add-at : goal.overflow_add-at
overflow_add-at c = let t = turn (c.loop-at.invariant.2 c.requires.0 c.requires.1) c.loop-at-test.true in omega (arith, t.within, c.delete-at.ensures.0)

pub loop-at-preserved : goal.loop-at-preserved
loop-at-preserved c = let now = c.loop-at in let n = c.delete-at in (
  same_len_mid now.at (length now.work - now.at) now.work n.new.s n.auto.s ∙ now.invariant.0,
  now.invariant.1,
  λ rs h. (turn (now.invariant.2 rs h) c.loop-at-test.true).next n.result n.new.s n.ensures.0 n.ensures.1,
)

pub returns : goal.returns
returns c = λ rs h. done (c.loop-at.invariant.2 rs h) c.loop-at-test.false
