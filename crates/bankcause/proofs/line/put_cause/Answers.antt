-- `put_cause`: by the cause. A word, with the place of a header's fault, is one text; behind a record's, `put_spot` puts place and index.
use Rattle.text.specs.Text.{digit, decimal_by, decimal, field, line}
use Rattle.text.proofs.PutLaws.{join, back}
use Rattle.bankcause.specs.Line.{cause_line}
use Rattle.bankcause.proofs.line.put_cause.Goals as goal

pub put_spot-requires : goal.put_spot-requires
unfolding cause_line field line
put_spot-requires c = back _ c.put_all-in-Name.ensures (rw c.in-Name.is at c.requires)

pub put_spot-requires-in-Crc : goal.put_spot-requires-in-Crc
unfolding cause_line field line
put_spot-requires-in-Crc c = back _ c.put_all-in-Crc.ensures (rw c.in-Crc.is at c.requires)

pub returns-in-Signature : goal.returns-in-Signature
unfolding cause_line field line decimal decimal_by digit
returns-in-Signature c = rw c.in-Signature.is c.put_all-in-Signature.ensures

pub returns-in-Name : goal.returns-in-Name
unfolding cause_line field line
returns-in-Name c = rw c.in-Name.is (join c.put_all-in-Name.ensures c.put_spot.ensures)

pub returns-in-Crc : goal.returns-in-Crc
unfolding cause_line field line
returns-in-Crc c = rw c.in-Crc.is (join c.put_all-in-Crc.ensures c.put_spot-in-Crc.ensures)
