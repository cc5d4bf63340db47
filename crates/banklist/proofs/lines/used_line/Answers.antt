-- `used_line`: field by field; `first`, `next` and `last` give each its room, and `join` makes the line of them.
use Rattle.text.specs.Text.{field, line}
use Rattle.text.proofs.PutLaws.{join, fields, first, next, last}
use Rattle.banklist.specs.Listing.{used_line}
use Rattle.banklist.proofs.lines.used_line.Goals as goal

pub put_all-requires : goal.put_all-requires
unfolding used_line field
put_all-requires c = first (fields _ c.requires)

pub put_number-requires : goal.put_number-requires
unfolding used_line field
put_number-requires c = first (next c.put_all.ensures (fields _ c.requires))

pub put_all-requires-2 : goal.put_all-requires-2
unfolding used_line field
put_all-requires-2 c = first (next c.put_number.ensures (next c.put_all.ensures (fields _ c.requires)))

pub put_number-requires-2 : goal.put_number-requires-2
unfolding used_line field
put_number-requires-2 c = last (next c.put_all-2.ensures (next c.put_number.ensures (next c.put_all.ensures (fields _ c.requires))))

pub returns : goal.returns
unfolding used_line field line
returns c = join c.put_all.ensures (join c.put_number.ensures (join c.put_all-2.ensures c.put_number-2.ensures))
