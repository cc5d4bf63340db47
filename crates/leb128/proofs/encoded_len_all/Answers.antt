use native.Mathlib.Omega.{arith}
use Rattle.leb128.proofs.Numbers.{sizes_more, sizes_none}
use Rattle.leb128.proofs.encoded_len_all.Goals as goal

pub loop-n-preserved : goal.loop-n-preserved
loop-n-preserved c = (omega (arith, sizes_more c.args.ns.now c.loop-n.n-index (omega arith)), omega arith)

pub returns : goal.returns
returns c = let e = sizes_none c.args.ns.now c.loop-n.n-index (omega arith) in (omega arith, omega arith)
