use native.Mathlib.Omega.{arith}
use mathlib.Core.Path.{sym, ◌∙◌}
use lib.ListN.{length-set}
use Rattle.leb128.proofs.Forms.{size_small, size_large, size_some}
use Rattle.leb128.proofs.Numbers.{encode_more, encode_last}
use Rattle.leb128.proofs.encode.Goals as goal

pub bounds-out-p : goal.bounds-out-p
bounds-out-p c = omega (arith, size_some c.loop-left.left)

pub loop-left-preserved : goal.loop-left-preserved
loop-left-preserved c = let l = c.loop-left in
    (l.invariant.0 ∙ encode_more l.p l.left l.out (omega arith) (omega arith), omega (arith, size_large l.left (omega arith)), length-set l.out l.p _ ∙ l.invariant.2)

pub bounds-out-p-2 : goal.bounds-out-p-2
bounds-out-p-2 c = omega (arith, size_some c.loop-left.left)

pub returns : goal.returns
returns c = let l = c.loop-left in
    (omega (arith, size_small l.left (omega arith)), sym (l.invariant.0 ∙ encode_last l.p l.left l.out (omega arith) (omega (arith, size_some l.left))))
