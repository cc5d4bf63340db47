-- `record_line`: field by field; `first`, `next` and `last` give each its room, and `join` makes the line of them.
use Rattle.text.specs.Text.{line}
use Rattle.text.proofs.PutLaws.{join, fields, first, next, last}
use Rattle.text.proofs.TextLaws.{be_bytes}
use Rattle.banklist.specs.Listing.{fields_line}
use Rattle.banklist.proofs.lines.record_line.Goals as goal

pub put_number-requires : goal.put_number-requires
unfolding fields_line
put_number-requires c = first (fields _ c.requires)

pub put_hex-requires : goal.put_hex-requires
unfolding fields_line
put_hex-requires c = first (next c.put_number.ensures (fields _ c.requires))

pub put_type-requires : goal.put_type-requires
unfolding fields_line
put_type-requires c = rw c.typ.ensures (first (next c.put_hex.ensures (next c.put_number.ensures (fields _ c.requires))))

pub put_key-requires : goal.put_key-requires
unfolding fields_line
put_key-requires c = first (next (rw c.typ.ensures at c.put_type.ensures) (next c.put_hex.ensures (next c.put_number.ensures (fields _ c.requires))))

pub put_number-requires-2 : goal.put_number-requires-2
unfolding fields_line
put_number-requires-2 c = let typ = rw c.typ.ensures at c.put_type.ensures in
    rw c.from.ensures (first (next c.put_key.ensures (next typ (next c.put_hex.ensures (next c.put_number.ensures (fields _ c.requires))))))

pub put_hex-requires-2 : goal.put_hex-requires-2
unfolding fields_line
put_hex-requires-2 c = let typ = rw c.typ.ensures at c.put_type.ensures in
    let value = rw c.from.ensures at c.put_number-2.ensures in
    rw (c.to_be_bytes.ensures, be_bytes c.args.h.crc)
    (last (next value (next c.put_key.ensures (next typ (next c.put_hex.ensures (next c.put_number.ensures (fields _ c.requires)))))))

pub returns : goal.returns
unfolding fields_line line
returns c = let typ = rw c.typ.ensures at c.put_type.ensures in
    let value = rw c.from.ensures at c.put_number-2.ensures in
    let crc = rw (c.to_be_bytes.ensures, be_bytes c.args.h.crc) at c.put_hex-2.ensures in
    join c.put_number.ensures (join c.put_hex.ensures (join typ (join c.put_key.ensures (join value crc))))
