-- `checksum`: that of no bytes is 0 (`empty_checksum`).
use Rattle.settings.proofs.StopLaws.{empty_checksum}
use Rattle.settings.proofs.checksum.Goals as goal

pub returns-then-value-eq0 : goal.returns-then-value-eq0
returns-then-value-eq0 c = empty_checksum c.args.value.now c.if-value-eq0.true
