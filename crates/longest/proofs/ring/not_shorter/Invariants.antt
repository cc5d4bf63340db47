use mathlib.Core.Path.{◌≡◌}
use Rattle.longest.specs.Ring.{held, trimmed}
use Rattle.longest.proofs.ring.not_shorter.Given as goal

abbrev pub invariant-loop-i : goal.invariant-loop-i
invariant-loop-i l = trimmed l.seconds (held l.places l.head l.len) ≡ trimmed l.seconds (held l.places l.head l.i)
