-- `bank_line`: field by field; `first`, `next` and `last` give each its room, and `join` makes the line of them.
use Rattle.text.specs.Text.{field, line}
use Rattle.text.proofs.PutLaws.{join, fields, first, next, last}
use Rattle.banklist.specs.Listing.{bank_line}
use Rattle.banklist.proofs.lines.bank_line.Goals as goal

pub put_all-requires : goal.put_all-requires
unfolding bank_line field
put_all-requires c = first (fields _ c.requires)

pub put_number-requires : goal.put_number-requires
unfolding bank_line field
put_number-requires c = rw c.from.ensures (first (next c.put_all.ensures (fields _ c.requires)))

pub put_number-requires-2 : goal.put_number-requires-2
unfolding bank_line field
put_number-requires-2 c = let size = rw c.from.ensures at c.put_number.ensures in
    rw c.from-2.ensures (first (next size (next c.put_all.ensures (fields _ c.requires))))

pub put_number-requires-3 : goal.put_number-requires-3
unfolding bank_line field
put_number-requires-3 c = let size = rw c.from.ensures at c.put_number.ensures in
    let generation = rw c.from-2.ensures at c.put_number-2.ensures in
    rw c.from-3.ensures (first (next generation (next size (next c.put_all.ensures (fields _ c.requires)))))

pub put_number-requires-4 : goal.put_number-requires-4
unfolding bank_line field
put_number-requires-4 c = let size = rw c.from.ensures at c.put_number.ensures in
    let generation = rw c.from-2.ensures at c.put_number-2.ensures in
    let system = rw c.from-3.ensures at c.put_number-3.ensures in
    rw c.from-4.ensures (last (next system (next generation (next size (next c.put_all.ensures (fields _ c.requires))))))

pub returns : goal.returns
unfolding bank_line field line
returns c = let size = rw c.from.ensures at c.put_number.ensures in
    let generation = rw c.from-2.ensures at c.put_number-2.ensures in
    let system = rw c.from-3.ensures at c.put_number-3.ensures in
    let common = rw c.from-4.ensures at c.put_number-4.ensures in
    join c.put_all.ensures (join size (join generation (join system common)))
