-- `insert_as`: 6 where the bytes hold no state (`calls_6`), else the contract of `insert_variable` on the state that was loaded, stored again
-- (`calls`); there is room to store it since it was read (`read_is`).
use mathlib.Core.Path.{refl, sym, ap, ◌∙◌}
use mathlib.Core.List.{[]}
use Rattle.std.specs.Prelude.{Err}
use Rattle.std.proofs.lemmas.Result.{err_from_is_err_and}
use Rattle.book.specs.Edit.{insert}
use Rattle.book.specs.Call.{edit}
use Rattle.variables.specs.Manner.{manner_of}
use Rattle.state_bytes.proofs.StateLaws.{read_is}
use Rattle.exports.specs.Store.{var_type_of}
use Rattle.exports.proofs.StoreLaws.{not_loaded, loaded, calls_6, calls}
use Rattle.exports.proofs.store.insert_as.Goals as goal

pub returns-in_err-loaded : goal.returns-in_err-loaded
returns-in_err-loaded c =
    let a = c.args in
    let p = err_from_is_err_and c.from_residual.result c.from_residual.ensures.1 in
    let q = not_loaded _ _ _ _ refl (sym c.state_in.ensures ∙ c.in_err-loaded.was) (p.1 ∙ ap Err p.2) in
    rw q.0 (calls_6 (edit (insert (manner_of a.manner) a.key.now a.value.now (var_type_of a.typ))) a.state.now a.work.now [] _ [] [] q.1 (refl, refl, refl))

pub store-requires : goal.store-requires
store-requires c = (read_is _ _ (loaded _ _ _ refl (sym c.state_in.ensures ∙ c.in_ok-loaded.was))).room

pub returns : goal.returns
returns c =
    let a = c.args in
    let t = c.var_type.ensures in
    calls (edit (insert (manner_of a.manner) a.key.now a.value.now (var_type_of a.typ))) a.state.now a.work.now [] _ [] [] _ (loaded _ _ _ refl (sym c.state_in.ensures ∙ c.in_ok-loaded.was))
    _ [] (refl, refl, refl) _ _ _ (rw t at c.insert_variable-edited.ensures) c.store.ensures
