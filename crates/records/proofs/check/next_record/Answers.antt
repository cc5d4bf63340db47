-- `next_record`: its tests in the order of `is_record`; the first three fail against a fact of `Strict` (`no_next`), the others have a law each
-- (`next_beyond`, `next_open`, `next_spoilt`), and a record that passes all ends where `next_end` says.
use native.Mathlib.Omega.{arith}
use Rattle.bank.specs.Number.{u16_at}
use Rattle.bank.proofs.FieldLaws.{name_is}
use Rattle.records.proofs.RecordSteps.{no_next, next_beyond, next_open, next_spoilt, next_end}
use Rattle.records.proofs.check.next_record.Goals as goal

pub returns-then-rest-lt-HEADER_SIZE : goal.returns-then-rest-lt-HEADER_SIZE
returns-then-rest-lt-HEADER_SIZE c = let a = c.args in no_next a.s.now a.at (λ k. omega (arith, k.stands.ends))

pub returns-then-from_le_bytes : goal.returns-then-from_le_bytes
unfolding u16_at
returns-then-from_le_bytes c = let a = c.args in no_next a.s.now a.at (λ k. c.if-from_le_bytes.true (omega (arith, k.stands.starts, k.reserved, c.from_le_bytes.ensures)))

pub returns-then-header-lt1 : goal.returns-then-header-lt1
returns-then-header-lt1 c = let a = c.args in let h = c.parse-header in no_next a.s.now a.at (λ k. omega (arith, k.stands.named, name_is _ c.if-rest-lt-HEADER_SIZE.false h.result h.ensures))

pub returns-then-s-end : goal.returns-then-s-end
returns-then-s-end c = let a = c.args in let h = c.parse-header in let n = c.size in
    next_beyond a.s.now a.at c.if-rest-lt-HEADER_SIZE.false h.result h.ensures n.result n.ensures c.if-s-end.true

pub returns-then-s-value-ne0 : goal.returns-then-s-value-ne0
returns-then-s-value-ne0 c = let a = c.args in let h = c.parse-header in let n = c.size in
    next_open a.s.now a.at c.if-rest-lt-HEADER_SIZE.false h.result h.ensures n.result n.ensures c.if-s-value-ne0.true

pub returns-then-stored-sum : goal.returns-then-stored-sum
unfolding u16_at
returns-then-stored-sum c = let a = c.args in let h = c.parse-header in let n = c.size in let sum = c.crc32-sum in let stored = c.parse-stored in let start = c.from_le_bytes.ensures in
    next_end a.s.now a.at c.if-rest-lt-HEADER_SIZE.false h.result h.ensures n.result n.ensures sum.result sum.ensures stored.result stored.ensures (omega (arith, start, c.if-from_le_bytes.false)) (omega (arith, start, c.if-from_le_bytes.false)) c.if-header-lt1.false c.if-s-end.false c.if-s-value-ne0.false c.if-stored-sum.true

pub returns-else-stored-sum : goal.returns-else-stored-sum
returns-else-stored-sum c = let a = c.args in let h = c.parse-header in let n = c.size in let sum = c.crc32-sum in let stored = c.parse-stored in
    next_spoilt a.s.now a.at c.if-rest-lt-HEADER_SIZE.false h.result h.ensures n.result n.ensures sum.result sum.ensures stored.result stored.ensures c.if-stored-sum.false
