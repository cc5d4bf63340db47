-- `whole_image_in`: 6 where the bytes hold no state (`calls_6`), else the contract of `serialize` on the state loaded (`keeps`).
use mathlib.Core.Path.{refl, sym, ap, ◌∙◌}
use native.Mathlib.Omega.{arith}
use lib.ListN.{length}
use Rattle.std.specs.Prelude.{Err}
use Rattle.std.proofs.lemmas.Result.{err_from_is_err_and}
use Rattle.book.specs.Call.{whole_image}
use Rattle.exports.proofs.StoreLaws.{not_loaded, loaded, calls_6, keeps}
use Rattle.exports.proofs.store.whole_image_in.Goals as goal

pub returns-in_err-loaded : goal.returns-in_err-loaded
returns-in_err-loaded c =
    let a = c.args in
    let p = err_from_is_err_and c.from_residual.result c.from_residual.ensures.1 in
    let q = not_loaded _ _ _ _ refl (sym c.state_in.ensures ∙ c.in_err-loaded.was) (p.1 ∙ ap Err p.2) in
    rw q.0
    (calls_6 (whole_image (length a.output.now)) a.state.now a.work.now a.output.now _ _ _ q.1 (record { returned = refl; fields = refl; bytes = refl; rest = refl }))

pub returns : goal.returns
returns c =
    let a = c.args in
    let d = c.serialize.ensures in
    keeps (whole_image (length a.output.now)) a.state.now a.work.now a.output.now _ _ _ _ (loaded _ _ _ refl (sym c.state_in.ensures ∙ c.in_ok-loaded.was))
    _ _ (record { returned = refl; fields = refl; bytes = refl; rest = d.1 }) _ (λ i. omega (arith, c.type_inv.state i)) d.0
