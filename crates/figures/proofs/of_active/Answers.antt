-- `of_active`: refusals 6 and 7 in that order by `check_refuses` and `refuses_7`; a Valid slot's figures are those that the check answers (`sums`).
use mathlib.Core.Bool.{true}
use mathlib.Core.Path.{ap, ◌∙◌}
use native.Mathlib.Omega.{arith}
use Rattle.std.specs.Prelude.{Ok, Err}
use Rattle.std.proofs.lemmas.Result.{err_from_is_err_and}
use Rattle.book.specs.Call.{figures}
use Rattle.nvram.proofs.CheckLaws.{check_refuses}
use Rattle.figures.proofs.FiguresLaws.{refuses_7, sums}
use Rattle.figures.proofs.of_active.Goals as goal

pub returns-in_err-summary : goal.returns-in_err-summary
returns-in_err-summary c =
    let p = err_from_is_err_and c.from_residual.result c.from_residual.ensures.1 in
    rw (p.1 ∙ ap Err p.2)
    (check_refuses c.args.state c.args.work.now (λ i. omega (arith, c.type_inv.work i)) (c.well_formed.0.1.1.1.1.1.0.1.0.1) true _ c.check.ensures _ figures c.in_err-summary.was)

pub returns-in-Some : goal.returns-in-Some
returns-in-Some c =
    sums c.args.state c.args.work.now (λ i. omega (arith, c.type_inv.work i)) (c.well_formed.0.1.1.1.1.1.0.1.0.1) c.check.ensures _ (c.in_ok-summary.was ∙ ap Ok c.in-Some.is)

pub returns-in-None : goal.returns-in-None
returns-in-None c =
    refuses_7 c.args.state c.args.work.now (λ i. omega (arith, c.type_inv.work i)) (c.well_formed.0.1.1.1.1.1.0.1.0.1) c.check.ensures (c.in_ok-summary.was ∙ ap Ok c.in-None.is)
