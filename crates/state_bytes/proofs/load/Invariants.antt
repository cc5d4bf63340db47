use Rattle.state_bytes.proofs.LoopLaws.{Reading}
use Rattle.state_bytes.proofs.load.Given as goal

abbrev pub invariant-loop-i : goal.invariant-loop-i
invariant-loop-i l = Reading l.bytes l.banks l.i
