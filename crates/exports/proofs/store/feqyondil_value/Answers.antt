-- `feqyondil_value`: no value where the bytes hold no state (`calls_6`), else the contract of `value` on the state loaded (`keeps`).
use mathlib.Core.Path.{refl, sym, ◌∙◌}
use mathlib.Core.List.{[]}
use native.Mathlib.Omega.{arith}
use Rattle.buffers.proofs.Laws.{onto_fits}
use Rattle.book.specs.Call.{fetch}
use Rattle.exports.specs.Store.{var_type_of}
use Rattle.exports.proofs.StoreLaws.{calls_6, keeps}
use Rattle.exports.proofs.store.feqyondil_value.Goals as goal

pub returns-in_default : goal.returns-in_default
returns-in_default c =
    let a = c.args in
    calls_6 (fetch a.key.now (var_type_of a.typ)) a.state.now a.work.now a.out.now 0 [] _ (sym c.load.ensures ∙ c.in_default.is)
    (refl, refl, sym (onto_fits [] a.out.now (omega arith)))

pub returns : goal.returns
returns c =
    let a = c.args in
    let t = c.var_type.ensures in
    keeps (fetch a.key.now (var_type_of a.typ)) a.state.now a.work.now a.out.now _ [] _ _ (sym c.load.ensures ∙ c.in-Some.is)
    _ _ (refl, refl, c.copy.ensures) _ (λ i. omega (arith, c.type_inv.state i)) (rw t at c.value-value.ensures)
