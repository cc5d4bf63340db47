-- `early_bytes`: the four entries looked up, joined by exclusive or, are the shares of the four bytes: `early`.
use native.Mathlib.Omega.{arith}
use Rattle.crc32.proofs.Shares.{early}
use Rattle.crc32.proofs.early_bytes.Goals as goal

pub returns : goal.returns
returns c = let a = c.args in
    early a.t.now a.after a.crc a.word.now (omega arith) c.from_le_bytes.result (omega (arith, c.from_le_bytes.ensures)) c.look.result c.look-2.result c.look-3.result c.look-4.result c.look.ensures c.look-2.ensures c.look-3.ensures c.look-4.ensures
