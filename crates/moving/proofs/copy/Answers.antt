-- `copy`: w is as it was with the first i bytes put over it from `to` on; by `ReadFirst` the next byte is still as it was (`copy_more`).
use native.Mathlib.Omega.{arith}
use mathlib.Core.Path.{sym}
use Rattle.buffers.proofs.OverLaws.{over_none}
use Rattle.moving.proofs.CopyLaws.{copy_more}
use Rattle.moving.proofs.copy.Goals as goal

pub loop-i-init : goal.loop-i-init
loop-i-init c = sym (over_none c.args.to c.args.w.now)

pub loop-i-preserved : goal.loop-i-preserved
loop-i-preserved c = let a = c.args in
    let p = c.requires in
    let l = c.loop-i in
    copy_more a.from a.to a.n a.w.now p.2 p.0 p.1 l.i l.w (omega arith) l.invariant
