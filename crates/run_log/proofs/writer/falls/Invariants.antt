use mathlib.Core.Path.{◌≡◌}
use lib.ListN.{drop}
use Rattle.run_log.proofs.Writing.{entries_fall}
use Rattle.run_log.proofs.writer.falls.Given as goal

abbrev pub invariant-loop-start : goal.invariant-loop-start
invariant-loop-start l = entries_fall 0 l.entries ≡ entries_fall l.last (drop l.start-index l.entries)
