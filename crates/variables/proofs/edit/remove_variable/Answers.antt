-- `remove_variable`: `at_hand` says that the records stand where `ready` answers; 6 and 7 are `refused`, and what deleting leaves is `removes`.
use mathlib.Core.Path.{ap, ◌∙◌}
use native.Mathlib.Omega.{arith}
use Rattle.std.specs.Prelude.{Err}
use Rattle.std.proofs.lemmas.Result.{err_from_is_err_and}
use Rattle.book.specs.Edit.{remove}
use Rattle.book.specs.Call.{edit}
use Rattle.nvram.proofs.ReadyLaws.{Standing, records, here, standing, refused}
use Rattle.variables.proofs.EditLaws.{removes}
use Rattle.variables.proofs.edit.remove_variable.Goals.{In_ok-from}
use Rattle.variables.proofs.edit.remove_variable.Goals as goal

at_hand : (c : In_ok-from) → Standing c.args.state c.args.work.now c.in_ok-from.from c.in_ok-from.to
at_hand c = standing (λ i. omega (arith, c.slice_known-1.given i)) (c.well_formed.0.1.1.1.1.1.0.1.0.1) c.ready.ensures _ c.in_ok-from.was

pub delete_all-requires : goal.delete_all-requires
delete_all-requires c = let k = at_hand (goal.at.delete_all-requires c).In_ok-from in (records k, here k)

pub returns-in_err-from : goal.returns-in_err-from
returns-in_err-from c =
    let p = err_from_is_err_and c.from_residual.result c.from_residual.ensures.1 in
    rw (p.1 ∙ ap Err p.2)
    (refused (λ i. omega (arith, c.slice_known-1.given i)) (c.well_formed.0.1.1.1.1.1.0.1.0.1) c.ready.ensures _ (edit (remove c.args.key.now c.args.typ)) tt c.in_err-from.was)

pub returns : goal.returns
returns c = let k = at_hand (goal.at.returns c).In_ok-from in removes k c.args.key.now c.args.typ _ (c.delete_all.ensures _ (here k))
