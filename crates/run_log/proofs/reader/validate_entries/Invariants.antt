use Prim.Native.Nat.{◌-◌}
use mathlib.Core.Path.{◌≡◌}
use Rattle.run_log.specs.Output.{answer_of}
use Rattle.run_log.specs.RunLog.{read_entries}
use Rattle.run_log.proofs.Reading.{answer_from}
use Rattle.run_log.proofs.reader.validate_entries.Given as goal

abbrev pub invariant-loop-i : goal.invariant-loop-i
invariant-loop-i l = answer_of 3 (read_entries l.count 0 l.s) ≡ answer_from l.i (read_entries (l.count - l.i) l.last l.rest)
