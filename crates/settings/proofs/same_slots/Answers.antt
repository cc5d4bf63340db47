-- `same_slots`: a bank without a header is not Valid (`no_one`, `no_other`); headers that differ decide (`headers_other`); else both walks go up to the
-- same size (`headers_same`).
use mathlib.Core.Path.{sym, ap, ◌∙◌}
use mathlib.Core.Bool.{not}
use Rattle.bank.proofs.ReadBank.{head_fine}
use Rattle.settings.proofs.Equal.{header_same}
use Rattle.settings.proofs.SideBySide.{no_one, no_other, headers_other, headers_same}
use Rattle.settings.proofs.same_slots.Goals as goal

pub returns-in_default : goal.returns-in_default
returns-in_default c = no_one _ _ _ (sym c.parse.ensures ∙ c.in_default.is)

pub returns-in_default-parse : goal.returns-in_default-parse
returns-in_default-parse c = no_other _ _ _ (sym c.parse-2.ensures ∙ c.in_default-parse.is)

pub returns-then-ne : goal.returns-then-ne
returns-then-ne c =
    headers_other _ _ _ _ (sym c.parse.ensures ∙ c.in-Ok.is) (sym c.parse-2.ensures ∙ c.in-Ok-parse.is) (ap not (header_same _ _) ∙ sym c.ne.ensures ∙ c.if-ne.true)

pub same_records-requires : goal.same_records-requires
same_records-requires c = (head_fine _ _ c.fits-one (sym c.parse.ensures ∙ c.in-Ok.is)).size_high

pub returns : goal.returns
returns c =
    c.same_records.ensures
    ∙ headers_same _ _ _ _ (sym c.parse.ensures ∙ c.in-Ok.is) (sym c.parse-2.ensures ∙ c.in-Ok-parse.is) (ap not (header_same _ _) ∙ sym c.ne.ensures ∙ c.if-ne.false)
