-- `get_variable`: 6 and 7 are `refused`; else the records stand where `ready` answers, and what is found there is `finds`.
use mathlib.Core.Path.{ap, ◌∙◌}
use native.Mathlib.Omega.{arith}
use Rattle.std.specs.Prelude.{Err}
use Rattle.std.proofs.lemmas.Result.{err_from_is_err_and}
use Rattle.book.specs.Call.{lookup}
use Rattle.nvram.proofs.ReadyLaws.{Standing, records, here, standing, refused}
use Rattle.variables.proofs.LookupLaws.{finds}
use Rattle.variables.proofs.lookup.get_variable.Goals.{In_ok-from}
use Rattle.variables.proofs.lookup.get_variable.Goals as goal

at_hand : (c : In_ok-from) → Standing c.args.state c.args.work.now c.in_ok-from.from c.in_ok-from.to
at_hand c = standing (λ i. omega (arith, c.type_inv.work i)) (c.well_formed.0.1.1.1.1.1.0.1.0.1) c.ready.ensures _ c.in_ok-from.was

pub find-requires : goal.find-requires
find-requires c = let k = at_hand c in (records k, here k)

pub returns-in_err-from : goal.returns-in_err-from
returns-in_err-from c =
    let p = err_from_is_err_and c.from_residual.result c.from_residual.ensures.1 in
    rw (p.1 ∙ ap Err p.2)
    (refused (λ i. omega (arith, c.type_inv.work i)) (c.well_formed.0.1.1.1.1.1.0.1.0.1) c.ready.ensures _ (lookup c.args.key.now c.args.typ) tt c.in_err-from.was)

pub returns : goal.returns
returns c = let k = at_hand (goal.at.returns c).In_ok-from in finds k c.args.key.now c.args.typ _ (c.find.ensures _ (here k))
