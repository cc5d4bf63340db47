-- `entry_of`: total and usable of a Valid slot that is well-formed fit 32 bits.
use native.Mathlib.Omega.{arith}
use mathlib.Core.Path.{sym, ◌∙◌}
use Rattle.opening.proofs.LoadLaws.{told_valid, told_empty, told_invalid, cast_fits}
use Rattle.opening.proofs.entry_of.Goals as goal

pub overflow_cast-kind : goal.overflow_cast-kind
overflow_cast-kind c = omega (arith, (cast_fits c.args.slot c.in-Valid.p c.in-Valid.is c.requires).0)

pub overflow_cast-kind-in-Valid : goal.overflow_cast-kind-in-Valid
overflow_cast-kind-in-Valid c = omega (arith, (cast_fits c.args.slot c.in-Valid.p c.in-Valid.is c.requires).1)

pub returns-in-Valid : goal.returns-in-Valid
returns-in-Valid c = λ k e. sym (told_valid c.args.slot c.in-Valid.p c.in-Valid.is k e).1

pub returns-in-Empty : goal.returns-in-Empty
returns-in-Empty c = λ k e. told_empty k (sym e ∙ c.in-Empty.is)

pub returns-in-Invalid : goal.returns-in-Invalid
returns-in-Invalid c = λ k e. told_invalid k (sym e ∙ c.in-Invalid.is)
