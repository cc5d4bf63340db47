-- `check_slot`: a slot that is not Valid holds nothing or is refused (`slot_blank`, `slot_not_blank`); a Valid one goes by its header (`slot_head`),
-- of which a fault is refused (`soundness_none`).
use mathlib.Core.Path.{sym, ap, ◌∙◌}
use Rattle.nvram.specs.Soundness.{soundness}
use Rattle.nvram.proofs.KindLaws.{is_valid, not_valid}
use Rattle.nvram.proofs.SoundLaws.{soundness_none, slot_blank, slot_not_blank, slot_head, head_bad}
use Rattle.nvram.proofs.sound.check_slot.Goals as goal

pub returns-then-is_blank : goal.returns-then-is_blank
returns-then-is_blank c = slot_blank _ _ _ (not_valid _ c.if-ne.ensures) (sym c.if-is_blank.ensures)

pub returns-else-is_blank : goal.returns-else-is_blank
returns-else-is_blank c = slot_not_blank _ _ _ (not_valid _ c.if-ne.ensures) (sym c.if-is_blank.ensures)

pub returns-in_default : goal.returns-in_default
returns-in_default c = soundness_none _ (sym (slot_head _ _ (is_valid _ c.if-ne.ensures) _ c.parse.ensures) ∙ head_bad _ _ _ c.in_default.not-Ok)

pub returns : goal.returns
returns c = c.check_bank.ensures ∙ ap (soundness _) (slot_head _ _ (is_valid _ c.if-ne.ensures) _ (sym c.in-Ok.is ∙ c.parse.ensures))
