use mathlib.Core.Path.{◌≡◌}
use Rattle.nvram.specs.Soundness.{summary_at, soundness}
use Rattle.nvram.specs.Layout.{view_slots}
use Rattle.nvram.proofs.TableLaws.{walk_from}
use Rattle.nvram.proofs.sound.check_slots.Given as goal

abbrev pub invariant-loop-i : goal.invariant-loop-i
invariant-loop-i l = soundness (summary_at l.counting l.active) (view_slots l.n l.banks l.work) ≡ walk_from l.n l.banks l.work l.counting l.active l.summary l.i
