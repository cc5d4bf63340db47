-- `bank_lines`: three parts one behind the other are the bank's lines (`all_put`), each with the room that those before it leave (`room_first`,
-- `room_records`, `room_last`).
use mathlib.Core.Path.{◌≡◌}
use Rattle.banklist.proofs.BankLaws.{total_is, room_first, room_records, room_last, all_put}
use Rattle.banklist.proofs.listing.bank_lines.Goals as goal

pub bank_line-requires : goal.bank_line-requires
bank_line-requires c = let q = c.requires in room_first q.0 q.2 q.3

pub record_lines-requires : goal.record_lines-requires
record_lines-requires c = let b = c.requires in (b.0, b.1, total_is b.0 b.2 b.3, room_records b.0 b.2 b.3 c.bank_line.ensures)

pub used_line-requires : goal.used_line-requires
used_line-requires c = let q = c.requires in
    room_last q.0 q.2 q.3 c.bank_line.ensures (c.record_lines.ensures q.0 q.1)

pub returns : goal.returns
returns c = let q = c.requires in
    λ b e. let z : b ≡ q.0 = cc in
    rw z (all_put q.0 q.2 q.3 c.bank_line.ensures (c.record_lines.ensures q.0 q.1) c.used_line.ensures)
