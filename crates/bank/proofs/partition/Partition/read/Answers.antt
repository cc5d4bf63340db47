-- `Partition::read`: a header that was read is `read_partition`'s; what a fault makes of the bank is `read_fault`.
use Rattle.bank.proofs.PartitionLaws.{read_fault}
use mathlib.Core.Path.{sym, ◌∙◌}
use Rattle.bank.proofs.partition.Partition.read.Goals as goal

pub returns-in-Err : goal.returns-in-Err
returns-in-Err c =
    sym (read_fault c.args.nvr.now _ (sym c.parse.ensures ∙ c.in-Err.is) ∙ simp (sym c.ne.ensures ∙ c.if-ne.true, sym c.all_ff.ensures ∙ c.if-all_ff.true))

pub returns-in-Err-2 : goal.returns-in-Err-2
returns-in-Err-2 c =
    sym (read_fault c.args.nvr.now _ (sym c.parse.ensures ∙ c.in-Err.is) ∙ simp (sym c.ne.ensures ∙ c.if-ne.true, sym c.all_ff.ensures ∙ c.if-all_ff.false))

pub returns-in-Err-2-2 : goal.returns-in-Err-2-2
returns-in-Err-2-2 c = sym (read_fault c.args.nvr.now _ (sym c.parse.ensures ∙ c.in-Err.is) ∙ simp (sym c.ne.ensures ∙ c.if-ne.false))
