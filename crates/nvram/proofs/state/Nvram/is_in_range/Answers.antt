use Rattle.std.proofs.Common.{rules}
use Rattle.book.specs.Book.{part_size}
use Rattle.nvram.proofs.state.Nvram.is_in_range.Goals as goal

pub returns-then-self : goal.returns-then-self
unfolding part_size
returns-then-self c = search rules
