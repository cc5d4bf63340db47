-- `lookup_in`: 6 where the bytes hold no state (`calls_6`), else the contract of `get_variable` on the state loaded (`keeps`).
use mathlib.Core.Path.{◌≡◌, refl, sym, ap, ◌∙◌}
use mathlib.Core.List.{[]}
use native.Mathlib.Omega.{arith}
use Rattle.std.specs.Prelude.{Option, Result, Ok, Err}
use Rattle.std.proofs.lemmas.Result.{err_from_is_err_and}
use Rattle.refusal.specs.declared.Refusal.{Refusal}
use Rattle.refusal.specs.Refusal.{number_of}
use Rattle.records.specs.declared.edit.Found.{Found}
use Rattle.book.specs.Call.{lookup, number}
use Rattle.variables.specs.LookupAnswer.{lookup_answer}
use Rattle.exports.specs.Store.{var_type_of}
use Rattle.exports.proofs.StoreLaws.{not_loaded, loaded, calls_6, keeps}
use Rattle.exports.proofs.store.lookup_in.Goals as goal

same_number : (x : Result (Option Found) Refusal) → number_of x ≡ number (lookup_answer x)
same_number (Ok f) = refl
same_number (Err r) = refl

pub returns-in_err-loaded : goal.returns-in_err-loaded
returns-in_err-loaded c =
    let a = c.args in
    let p = err_from_is_err_and c.from_residual.result c.from_residual.ensures.1 in
    let q = not_loaded _ _ _ _ refl (sym c.state_in.ensures ∙ c.in_err-loaded.was) (p.1 ∙ ap Err p.2) in
    rw q.0 (calls_6 (lookup a.key.now (var_type_of a.typ)) a.state.now a.work.now [] _ _ [] q.1 (refl, refl, refl))

pub returns : goal.returns
returns c =
    let a = c.args in
    let t = c.var_type.ensures in
    keeps (lookup a.key.now (var_type_of a.typ)) a.state.now a.work.now [] _ _ [] _ (loaded _ _ _ refl (sym c.state_in.ensures ∙ c.in_ok-loaded.was))
    _ [] (same_number c.get_variable.result, refl, refl) _ (λ i. omega (arith, c.type_inv.state i)) (rw t at c.get_variable.ensures)
