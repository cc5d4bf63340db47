use lib.ListN.{drop}
use Rattle.buffers.specs.Bytes.{eq_bytes}
use Rattle.buffers.proofs.LoopSteps.{Both}
use Rattle.buffers.proofs.short_same.Given as goal

abbrev pub invariant-loop-i : goal.invariant-loop-i
invariant-loop-i l = Both (eq_bytes l.a l.b) l.ok (eq_bytes (drop l.i l.a) (drop l.i l.b))
