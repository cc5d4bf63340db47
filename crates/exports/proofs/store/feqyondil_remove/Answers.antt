-- `feqyondil_remove`: 6 where the bytes hold no state (`calls_6`), else the contract of `remove_variable`, which leaves the state, so that its bytes
-- need no store (`keeps`).
use mathlib.Core.Path.{refl, sym, ◌∙◌}
use mathlib.Core.List.{[]}
use native.Mathlib.Omega.{arith}
use Rattle.book.specs.Edit.{remove}
use Rattle.book.specs.Call.{edit}
use Rattle.exports.specs.Store.{var_type_of}
use Rattle.exports.proofs.StoreLaws.{calls_6, keeps}
use Rattle.exports.proofs.store.feqyondil_remove.Goals as goal

pub returns-in_default : goal.returns-in_default
returns-in_default c =
    let a = c.args in
    calls_6 (edit (remove a.key.now (var_type_of a.typ))) a.state.now a.work.now [] _ [] [] (sym c.load.ensures ∙ c.in_default.is) (c.number.ensures, refl, refl)

pub returns : goal.returns
returns c =
    let a = c.args in
    let t = c.var_type.ensures in
    keeps (edit (remove a.key.now (var_type_of a.typ))) a.state.now a.work.now [] _ [] [] _ (sym c.load.ensures ∙ c.in-Some.is)
    _ [] (c.number_of.ensures, refl, refl) _ (λ i. omega (arith, c.type_inv.state i)) (rw t at c.remove_variable.ensures)
