use Rattle.bank.specs.Number.{u32_at}
use native.Mathlib.Omega.{arith}
use Rattle.bank.proofs.number.u32_at.Goals as goal

pub returns : goal.returns
unfolding u32_at
returns c = omega (arith, c.from_le_bytes.ensures)
