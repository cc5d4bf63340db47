-- `normalize`: both lengths read are those of the record (`name_is`, `value_is`), so that the closing byte is at 35 + name length.
use native.Mathlib.Omega.{arith}
use mathlib.Core.Path.{◌≡◌, ap}
use Prim.Native.Nat.{ℕ, ◌-◌, ◌+◌}
use lib.ListN.{length-set, set}
use Rattle.bank.specs.Record.{name_at}
use Rattle.bank.proofs.FieldLaws.{name_is, value_is}
use Rattle.bank.proofs.partition.normalize.Goals as goal

pub bounds-s-closing : goal.bounds-s-closing
bounds-s-closing c = let s = c.args.s.now in let h = c.parse-header in
    omega (arith, length-set s 3 0, c.size-closing.ensures, name_is s (omega arith) h.result h.ensures)

pub returns : goal.returns
returns c = let s = c.args.s.now in let h = c.parse-header in
    let n = name_is s (omega arith) h.result h.ensures in
    let v = value_is s (omega arith) h.result h.ensures in
    let e : c.size-closing.result - 1 ≡ 35 + name_at s = omega (arith, n, c.size-closing.ensures) in
    (omega (arith, n, v, c.size.ensures), ap (λ (i : ℕ). set (set s 3 0) i 0) e)
