use Rattle.state_bytes.proofs.LoopLaws.{Writing}
use Rattle.state_bytes.proofs.store.Given as goal

abbrev pub invariant-loop-i : goal.invariant-loop-i
invariant-loop-i l = Writing l.state.banks l.initial.bytes l.bytes l.i
