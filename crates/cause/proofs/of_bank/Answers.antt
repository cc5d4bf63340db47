-- `of_bank`: by the header. The cause of one that was read is the walk's (`good_cause`); `head_fine` and `at_within` give what the walk and its cause
-- require.
use mathlib.Core.Path.{sym, ap, ◌∙◌}
use Rattle.std.specs.Prelude.{Err}
use Rattle.bank.proofs.ReadBank.{head_fine}
use Rattle.bank.proofs.PartitionLaws.{at_within}
use Rattle.cause.proofs.CauseLaws.{size_cause, version_cause, empty_cause, signature_cause, good_cause}
use Rattle.cause.proofs.of_bank.Goals as goal

pub read_records-requires : goal.read_records-requires
read_records-requires c = (head_fine c.args.nvr.now _ c.fits-nvr (sym c.parse.ensures ∙ c.in-Ok.is)).size_high

pub of_walk-requires : goal.of_walk-requires
of_walk-requires c = at_within c.args.nvr.now _ (sym c.parse.ensures ∙ c.in-Ok.is) c.read_records.result c.read_records.ensures c.fits-nvr c.told-nvr

pub returns-in-Ok : goal.returns-in-Ok
returns-in-Ok c = c.of_walk.ensures ∙ good_cause c.args.nvr.now _ (sym c.parse.ensures ∙ c.in-Ok.is) c.read_records.result c.read_records.ensures

pub returns-in-Err-Size : goal.returns-in-Err-Size
returns-in-Err-Size c = size_cause c.args.nvr.now (sym c.parse.ensures ∙ c.in-Err-Size.is ∙ ap Err c.in-Err-Size.field-0-is)

pub returns-in-Err-Version : goal.returns-in-Err-Version
returns-in-Err-Version c = version_cause c.args.nvr.now (sym c.parse.ensures ∙ c.in-Err-Version.is ∙ ap Err c.in-Err-Version.field-0-is)

pub returns-in-Err-Signature : goal.returns-in-Err-Signature
returns-in-Err-Signature c =
    empty_cause c.args.nvr.now (sym c.parse.ensures ∙ c.in-Err-Signature.is ∙ ap Err c.in-Err-Signature.field-0-is) (sym c.all_ff.ensures ∙ c.if-all_ff.true)

pub returns-in-Err-Signature-2 : goal.returns-in-Err-Signature-2
returns-in-Err-Signature-2 c =
    signature_cause c.args.nvr.now (sym c.parse.ensures ∙ c.in-Err-Signature.is ∙ ap Err c.in-Err-Signature.field-0-is)
    (sym c.all_ff.ensures ∙ c.if-all_ff.false)
