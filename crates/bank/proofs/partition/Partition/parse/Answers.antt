use Rattle.bank.proofs.PartitionLaws.{parsed_short, parsed_long}
use mathlib.Core.Path.{ap, ◌∙◌}
use Rattle.std.specs.Prelude.{Some}
use Rattle.bank.specs.declared.partition.Slot.{Slot}
use Rattle.bank.proofs.partition.Partition.parse.Goals as goal

pub returns-in_err-bank : goal.returns-in_err-bank
returns-in_err-bank c = c.from_residual.ensures ∙ parsed_short c.args.nvr.now c.in_err-bank.ensures.cases

pub returns : goal.returns
returns c = ap (λ (x : Slot). Some x) c.read.ensures ∙ parsed_long c.args.nvr.now _ c.in_ok-bank.ensures.cases
