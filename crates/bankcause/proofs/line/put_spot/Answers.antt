-- `put_spot`: `first` and `last` give each number its room, and `join` makes the line of the two.
use Rattle.text.specs.Text.{line}
use Rattle.text.proofs.PutLaws.{join, fields, first, next, last}
use Rattle.bankcause.proofs.line.put_spot.Goals as goal

pub put_number-requires : goal.put_number-requires
put_number-requires c = first (fields _ c.requires)

pub put_number-requires-2 : goal.put_number-requires-2
put_number-requires-2 c = last (next c.put_number.ensures (fields _ c.requires))

pub returns : goal.returns
unfolding line
returns c = join c.put_number.ensures c.put_number-2.ensures
