use lib.ListN.{length, take, drop}
use mathlib.Core.Path.{◌≡◌}
use Prim.Native.Nat.{◌-◌, ◌≤◌}
use mathlib.Core.List.{List}
use Rattle.buffers.specs.Bytes.{over}
use Rattle.bank.specs.Record.{Record, records_bytes}
use Rattle.bank.specs.Raw.{Raw}
use Rattle.bank.proofs.NormalizeLaws.{ToNormalize}
use Rattle.bank.proofs.partition.normalize_all.Given as goal

abbrev pub invariant-loop-at : goal.invariant-loop-at
invariant-loop-at l = (length l.s ≡ length l.initial.s) × (l.at ≤ l.total) × ((rs : List Record) → Raw (take (l.total - 24) (drop 24 l.initial.s)) rs → ToNormalize l.total (over 24 (records_bytes rs) l.initial.s) l.s l.at)

abbrev pub decreases-loop-at : goal.decreases-loop-at
decreases-loop-at l = l.total - l.at
