-- `put_listing`: too few bytes are `short` (`too_few`); else the bank stands in front (`in_front`), and by what the reader answers (`said`) its lines
-- are put.
use mathlib.Core.Path.{sym, ◌∙◌}
use Rattle.bank.specs.declared.partition.Slot.TheVariants.{Empty, Invalid}
use Rattle.bank.specs.Read.{read_bank}
use Rattle.text.specs.Text.{field, line}
use Rattle.banklist.proofs.ListingLaws.{said, too_few, in_front}
use Rattle.banklist.proofs.listing.put_listing.Goals as goal

pub put_all-requires : goal.put_all-requires
unfolding field line
put_all-requires c = rw (too_few c.args.nvr.now c.in_default.ensures.cases) at c.requires

pub returns-in_default : goal.returns-in_default
unfolding field line
returns-in_default c = rw (too_few c.args.nvr.now c.in_default.ensures.cases) c.put_all.ensures

pub put_all-requires-in-Empty : goal.put_all-requires-in-Empty
unfolding field line
put_all-requires-in-Empty c = let s = c.args.nvr.now in
    let b = c.in-Some.bank.now in
    rw (in_front s b c.in-Some.ensures.cases, said (read_bank b) Empty (sym c.in-Empty.is ∙ c.read.ensures)) at c.requires

pub returns-in-Empty : goal.returns-in-Empty
unfolding field line
returns-in-Empty c = let s = c.args.nvr.now in
    let b = c.in-Some.bank.now in
    rw (in_front s b c.in-Some.ensures.cases, said (read_bank b) Empty (sym c.in-Empty.is ∙ c.read.ensures)) c.put_all-in-Empty.ensures

pub put_all-requires-in-Invalid : goal.put_all-requires-in-Invalid
unfolding field line
put_all-requires-in-Invalid c = let s = c.args.nvr.now in
    let b = c.in-Some.bank.now in
    rw (in_front s b c.in-Some.ensures.cases, said (read_bank b) Invalid (sym c.in-Invalid.is ∙ c.read.ensures)) at c.requires

pub returns-in-Invalid : goal.returns-in-Invalid
unfolding field line
returns-in-Invalid c = let s = c.args.nvr.now in
    let b = c.in-Some.bank.now in
    rw (in_front s b c.in-Some.ensures.cases, said (read_bank b) Invalid (sym c.in-Invalid.is ∙ c.read.ensures)) c.put_all-in-Invalid.ensures

pub bank_lines-requires : goal.bank_lines-requires
bank_lines-requires c = let s = c.args.nvr.now in
    let b = c.in-Some.bank.now in
    let k = said (read_bank b) _ (sym c.in-Valid.is ∙ c.read.ensures) in
    (k.bank, k.read, k.is, rw (in_front s b c.in-Some.ensures.cases, k.lists) at c.requires)

pub returns-in-Valid : goal.returns-in-Valid
returns-in-Valid c = let s = c.args.nvr.now in
    let b = c.in-Some.bank.now in
    let k = said (read_bank b) _ (sym c.in-Valid.is ∙ c.read.ensures) in
    rw (in_front s b c.in-Some.ensures.cases, k.lists) (c.bank_lines.ensures k.bank k.read)
