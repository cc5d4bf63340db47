use Rattle.leb128.proofs.DecodeLoop.{GroupsPassed}
use Rattle.leb128.proofs.decode.Given as goal

abbrev pub invariant-loop-i : goal.invariant-loop-i
invariant-loop-i l = GroupsPassed l.s l.value l.scale l.i
