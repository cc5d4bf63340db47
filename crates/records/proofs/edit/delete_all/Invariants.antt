use Prim.Native.Nat.{◌-◌, ◌≤◌}
use mathlib.Core.Path.{◌≡◌}
use mathlib.Core.List.{List}
use lib.ListN.{length}
use Rattle.buffers.specs.Bytes.{over}
use Rattle.bank.specs.Record.{Record, records_bytes}
use Rattle.records.specs.Match.{removed}
use Rattle.records.specs.Records.{Holds}
use Rattle.records.proofs.RecordWalk.{ToDelete}
use Rattle.records.proofs.edit.delete_all.Given as goal

abbrev pub invariant-loop-at : goal.invariant-loop-at
invariant-loop-at l = (length l.work ≡ length l.initial.work) × (l.records.end ≤ length l.initial.work) × ((rs : List Record) → Holds l.initial.work l.records.start l.records.end rs → ToDelete l.key l.typ l.work l.at l.records.end (over l.records.start (records_bytes (removed l.key l.typ rs)) l.initial.work))

abbrev pub decreases-loop-at : goal.decreases-loop-at
decreases-loop-at l = l.records.end - l.at
