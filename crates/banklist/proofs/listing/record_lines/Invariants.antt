use Prim.Native.Nat.{◌-◌}
use Rattle.banklist.proofs.RecordLoop.{ToList}
use Rattle.banklist.proofs.listing.record_lines.Given as goal

abbrev pub invariant-loop-at : goal.invariant-loop-at
invariant-loop-at l = ToList l.nvr l.initial.w l.total l.w l.at l.index

abbrev pub decreases-loop-at : goal.decreases-loop-at
decreases-loop-at l = l.total - l.at
