-- `check_bank`: refused where the entry and the part don't go with the header (`head_unfit`); else by the check of the records (`head_fit`), whose
-- figures get the header (`records_some`).
use native.Mathlib.Omega.{arith}
use mathlib.Core.Path.{sym, ap, ◌∙◌}
use Rattle.nvram.specs.Soundness.{slot_summary, soundness}
use Rattle.nvram.proofs.SoundLaws.{soundness_none, head_unfit, head_fit, total_high, records_none, records_some}
use Rattle.nvram.proofs.sound.check_bank.Goals as goal

pub returns-then-not-fits : goal.returns-then-not-fits
returns-then-not-fits c = soundness_none _ (head_unfit _ _ _ (sym c.if-not-fits.ensures))

pub slice_bounds-records-end : goal.slice_bounds-records-end
slice_bounds-records-end c = let a = c.args in omega (arith, total_high a.header a.entry a.part.now (sym c.if-not-fits.ensures))

pub returns-in_default : goal.returns-in_default
returns-in_default c = let a = c.args in
    records_none a.header a.counting a.entry.usable _ c.in_default.ensures
    ∙ ap (soundness (slot_summary a.counting)) (head_fit _ _ _ (sym c.if-not-fits.ensures))

pub returns : goal.returns
returns c = let a = c.args in
    records_some a.header a.counting a.entry.usable _ _ c.in-Some.ensures
    ∙ ap (soundness (slot_summary a.counting)) (head_fit _ _ _ (sym c.if-not-fits.ensures))
