-- `write`: the output's front is the bank's bytes (`front_written`); the rest of the contract is what is returned.
use Prim.Native.Nat.{◌*◌}
use mathlib.Core.Path.{refl}
use native.Mathlib.Omega.{arith}
use Rattle.requests.proofs.RequestLaws.{front_written}
use Rattle.requests.proofs.write.Goals as goal

pub returns : goal.returns
returns c =
    let a = c.args in
    let p = c.requires in
    (refl, refl, front_written (a.i * 131072) a.size a.work.now a.output.now _ (omega (arith, p)) (omega (arith, p)) c.copy.ensures)
