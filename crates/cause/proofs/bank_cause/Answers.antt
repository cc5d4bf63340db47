-- `bank_cause`: too few bytes are Short; else the bank is the first 65,536 (`lent_first`). Whatever the reader stops for is Named (`told_named`).
use mathlib.Core.Path.{◌∙◌}
use Rattle.bank.proofs.PartitionLaws.{lent_short, lent_first}
use Rattle.cause.specs.declared.Cause.TheVariants.{Short}
use Rattle.cause.specs.Cause.{bank_cause, cause_of}
use Rattle.cause.proofs.NamedLaws.{told_named}
use Rattle.cause.proofs.bank_cause.Goals as goal

pub returns-in_default : goal.returns-in_default
unfolding cause_of
returns-in_default c =
    let t = told_named c.args.nvr.now Short (lent_short Short bank_cause c.args.nvr.now c.in_default.ensures.cases) in
    record { value = t.0; named = t.1 }

pub returns : goal.returns
unfolding cause_of
returns c =
    let t = told_named c.args.nvr.now _ (c.of_bank.ensures ∙ lent_first Short bank_cause c.args.nvr.now c.in-Some.bank.now c.in-Some.ensures.cases) in
    record { value = t.0; named = t.1 }
