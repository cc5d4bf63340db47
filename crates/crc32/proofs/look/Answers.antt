use borrow.Author.Rules.{rules}
use Rattle.crc32.specs.Table.{table_entry}
use Rattle.crc32.proofs.look.Goals as goal

pub returns : goal.returns
unfolding table_entry
returns c = search rules
