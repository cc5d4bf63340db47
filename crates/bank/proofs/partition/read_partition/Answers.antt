-- `read_partition`: Invalid where the stop spoils the bank (`read_spoiled`), else Valid (`read_kept`); `at_within` and `blank_within` give what
-- `usable` requires.
use mathlib.Core.Path.{sym, ◌∙◌}
use Rattle.bank.proofs.ReadBank.{head_fine}
use Rattle.bank.proofs.PartitionLaws.{read_spoiled, read_kept, at_within, blank_within}
use Rattle.bank.proofs.partition.read_partition.Goals as goal

pub read_records-walked-requires : goal.read_records-walked-requires
read_records-walked-requires c = let a = c.args in
    (head_fine a.nvr.now a.header c.fits-nvr c.requires).size_high

pub returns-then-spoils : goal.returns-then-spoils
returns-then-spoils c = let a = c.args in
    read_spoiled a.nvr.now a.header c.requires c.read_records-walked.result c.read_records-walked.ensures (sym c.spoils.ensures ∙ c.if-spoils.true)

pub usable-requires : goal.usable-requires
usable-requires c = let a = c.args in let w = c.read_records-walked in (
  (head_fine a.nvr.now a.header c.fits-nvr c.requires).size_high,
  at_within a.nvr.now a.header c.requires w.result w.ensures c.fits-nvr c.told-nvr,
  blank_within a.nvr.now a.header c.requires w.result w.ensures c.fits-nvr c.told-nvr,
)

pub returns : goal.returns
returns c = let a = c.args in
    read_kept a.nvr.now a.header c.requires c.read_records-walked.result c.read_records-walked.ensures _ (sym c.spoils.ensures ∙ c.if-spoils.false) c.usable.ensures
