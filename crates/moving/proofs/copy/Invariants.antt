use mathlib.Core.Path.{◌≡◌}
use lib.ListN.{take, drop}
use Rattle.buffers.specs.Bytes.{over}
use Rattle.moving.proofs.copy.Given as goal

abbrev pub invariant-loop-i : goal.invariant-loop-i
invariant-loop-i l = l.w ≡ over l.to (take l.i (take l.n (drop l.from l.initial.w))) l.initial.w
