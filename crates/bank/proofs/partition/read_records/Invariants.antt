use mathlib.Core.Path.{◌≡◌}
use Prim.Native.Nat.{◌-◌, ◌≤◌}
use Rattle.bank.specs.Read.{walk_from}
use Rattle.bank.specs.Answer.{walked}
use Rattle.bank.proofs.partition.read_records.Given as goal

abbrev pub invariant-loop-at : goal.invariant-loop-at
invariant-loop-at l = (l.at ≤ 65536) × (l.count ≤ l.at) × (walked 0 (walk_from l.nvr l.size 24) ≡ walked l.count (walk_from l.nvr l.size l.at))

abbrev pub decreases-loop-at : goal.decreases-loop-at
decreases-loop-at l = 65536 - l.at
