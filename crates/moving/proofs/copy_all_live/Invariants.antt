use Prim.Native.Nat.{◌-◌, ◌+◌, ◌≤◌}
use mathlib.Core.Path.{◌≡◌}
use mathlib.Core.List.{List}
use lib.ListN.{length}
use Rattle.buffers.specs.Bytes.{over}
use Rattle.bank.specs.Record.{Record, live, records_bytes}
use Rattle.bank.specs.Totals.{select}
use Rattle.records.specs.Records.{Holds}
use Rattle.moving.proofs.LiveLaws.{ToMove}
use Rattle.moving.proofs.copy_all_live.Given as goal

abbrev pub invariant-loop-at : goal.invariant-loop-at
invariant-loop-at l = (length l.w ≡ length l.initial.w) × (l.records.end ≤ length l.initial.w) × ((rs : List Record) → Holds l.initial.w l.records.start l.records.end rs → ToMove l.w l.at l.records.end l.p (l.to + length (records_bytes (select live rs))) (over l.to (records_bytes (select live rs)) l.initial.w))

abbrev pub decreases-loop-at : goal.decreases-loop-at
decreases-loop-at l = l.records.end - l.at
