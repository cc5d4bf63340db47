-- `store`: the entries from i on, put over what is there, are all of them put over what the head left (`Writing`): `writing_none`,
-- `writing_more` and `written` are start, turn and end.
use mathlib.Core.Path.{◌≡◌, refl}
use native.Mathlib.Omega.{arith}
use Rattle.state_bytes.proofs.LoopLaws.{writing_more, written}
use Rattle.state_bytes.proofs.store.Goals as goal

pub loop-i-preserved : goal.loop-i-preserved
loop-i-preserved c = writing_more c.loop-i.invariant _ _ c.loop-i-test.true c.from.ensures c.put-in-loop-i.ensures

pub returns : goal.returns
returns c = let e : c.loop-i.i ≡ 16 = omega (arith, c.loop-i.invariant.high, c.loop-i-test.false) in
    written c.loop-i.invariant c.args.state c.args.bytes.now e refl c.requires c.put.ensures
