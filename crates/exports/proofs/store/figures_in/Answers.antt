-- `figures_in`: 6 where the bytes hold no state (`calls_6`), else the contract of `of_active` on the state loaded (`keeps`).
use mathlib.Core.Path.{refl, sym, ap, ◌∙◌}
use mathlib.Core.List.{[]}
use native.Mathlib.Omega.{arith}
use Rattle.std.specs.Prelude.{Err}
use Rattle.std.proofs.lemmas.Result.{err_from_is_err_and}
use Rattle.book.specs.Call.{figures}
use Rattle.exports.proofs.StoreLaws.{not_loaded, loaded, calls_6, keeps}
use Rattle.exports.proofs.store.figures_in.Goals as goal

pub returns-in_err-loaded : goal.returns-in_err-loaded
returns-in_err-loaded c =
    let a = c.args in
    let p = err_from_is_err_and c.from_residual.result c.from_residual.ensures.1 in
    let q = not_loaded _ _ _ _ refl (sym c.state_in.ensures ∙ c.in_err-loaded.was) (p.1 ∙ ap Err p.2) in
    rw q.0 (calls_6 figures a.state.now a.work.now [] _ _ [] q.1 (refl, refl, refl))

pub returns : goal.returns
returns c =
    let a = c.args in
    keeps figures a.state.now a.work.now [] _ _ [] _ (loaded _ _ _ refl (sym c.state_in.ensures ∙ c.in_ok-loaded.was))
    _ [] (refl, refl, refl) _ (λ i. omega (arith, c.type_inv.state i)) c.of_active.ensures
