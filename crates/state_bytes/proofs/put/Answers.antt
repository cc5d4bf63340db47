-- `put`: the first i numbers are put over what was there; `put_none`, `put_more` and `put_all` are start, turn and end.
use Rattle.state_bytes.proofs.LoopLaws.{put_none, put_more}
use Rattle.state_bytes.proofs.put.Goals as goal

pub loop-i-init : goal.loop-i-init
loop-i-init g c = put_none c.args.at c.args.numbers.now c.args.bytes.now

pub loop-i-preserved : goal.loop-i-preserved
loop-i-preserved g c = put_more _ _ _ _ _ _ _ _ c.told-numbers c.loop-i-test.true c.requires c.loop-i.invariant c.to_le_bytes.ensures c.copy_from_slice.ensures.after
