-- `check_all`: refused where the numbers are out of range (`view_beyond`); else as `check_slots` answers (`view_slots_lem`).
use mathlib.Core.Path.{sym, ◌∙◌}
use Rattle.nvram.proofs.SoundLaws.{soundness_none}
use Rattle.nvram.proofs.TableLaws.{view_beyond, few, room, view_slots_lem}
use Rattle.nvram.proofs.sound.check_all.Goals as goal

pub returns-then-not-is_in_range : goal.returns-then-not-is_in_range
returns-then-not-is_in_range c = soundness_none _ (view_beyond _ _ (sym c.if-not-is_in_range.ensures))

pub check_slots-requires : goal.check_slots-requires
check_slots-requires c = let e = sym c.if-not-is_in_range.ensures in let a = c.args in (few a.state a.work.now e, room a.state a.work.now e)

pub returns : goal.returns
returns c = c.check_slots.ensures ∙ view_slots_lem _ _ (sym c.if-not-is_in_range.ensures) _
