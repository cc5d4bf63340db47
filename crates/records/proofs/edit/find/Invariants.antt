use Prim.Native.Nat.{◌-◌}
use mathlib.Core.List.{List}
use Rattle.bank.specs.Record.{Record}
use Rattle.records.specs.Match.{found_in}
use Rattle.records.specs.Records.{Holds}
use Rattle.records.proofs.RecordWalk.{Look}
use Rattle.records.proofs.edit.find.Given as goal

abbrev pub invariant-loop-at : goal.invariant-loop-at
invariant-loop-at l = (rs : List Record) → Holds l.work l.records.start l.records.end rs → Look l.key l.typ l.work l.at l.records.end (found_in l.key l.typ l.records.start rs)

abbrev pub decreases-loop-at : goal.decreases-loop-at
decreases-loop-at l = l.records.end - l.at
