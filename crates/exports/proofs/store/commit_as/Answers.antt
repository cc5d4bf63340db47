-- `commit_as`: 6 where the bytes hold no state (`calls_6`), else the contract of `apply` on the state that was loaded, stored again
-- (`calls`); there is room to store it since it was read (`read_is`).
use mathlib.Core.Path.{refl, sym, ◌∙◌}
use lib.ListN.{length}
use Rattle.book.specs.Call.{commit}
use Rattle.requests.specs.Applied.{applied}
use Rattle.commit.specs.Active.{way_of}
use Rattle.state_bytes.proofs.StateLaws.{read_is}
use Rattle.exports.specs.Store.{caller_of}
use Rattle.exports.proofs.StoreLaws.{calls_6, calls}
use Rattle.exports.proofs.store.commit_as.Goals as goal

pub returns-in_default : goal.returns-in_default
returns-in_default c =
    let a = c.args in
    calls_6 (commit (way_of a.way) (caller_of a.caller) (length a.output.now)) a.state.now a.work.now a.output.now _ _ _ (sym c.load.ensures ∙ c.in_default.is)
    (record { returned = c.number.ensures; fields = refl; bytes = refl; rest = refl })

pub store-requires : goal.store-requires
store-requires c = (read_is _ _ (sym c.load.ensures ∙ c.in-Some.is)).room

pub returns : goal.returns
returns c =
    let a = c.args in
    let d = c.apply-answer in
    calls (commit (way_of a.way) (caller_of a.caller) (length a.output.now)) a.state.now a.work.now a.output.now _ _ _ _ (sym c.load.ensures ∙ c.in-Some.is)
    (applied d.result) _ (record { returned = c.number_of.ensures; fields = c.requests.ensures; bytes = refl; rest = d.ensures.1 }) _ _ _ (rw c.caller_of.ensures at d.ensures.0) c.store.ensures
