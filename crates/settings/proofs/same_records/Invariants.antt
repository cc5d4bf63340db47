use mathlib.Core.Path.{◌≡◌}
use Prim.Native.Nat.{◌-◌, ◌≤◌}
use Rattle.bank.specs.Read.{walk_from}
use Rattle.settings.specs.Same.{same_walks}
use Rattle.settings.proofs.same_records.Given as goal

abbrev pub invariant-loop-at : goal.invariant-loop-at
invariant-loop-at l = (l.at ≤ 65536) × (same_walks (walk_from l.one l.size 24) (walk_from l.other l.size 24) ≡ same_walks (walk_from l.one l.size l.at) (walk_from l.other l.size l.at))

abbrev pub decreases-loop-at : goal.decreases-loop-at
decreases-loop-at l = 65536 - l.at
