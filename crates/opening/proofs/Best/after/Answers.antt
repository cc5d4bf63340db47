-- `Best::after`: only a Valid slot of a greater generation takes over.
use mathlib.Core.Path.{◌∙◌}
use borrow.Author.Tests.{lt-ltb, le-ltb}
use Rattle.opening.proofs.LoadLaws.{active_valid, active_other}
use Rattle.opening.proofs.Best.after.Goals as goal

pub returns-then-self-p : goal.returns-then-self-p
returns-then-self-p c = λ k rest e.
    active_valid c.args.slot _ c.in-Valid.is c.args.i _ _ k rest e ∙ simp (lt-ltb _ _ c.if-self-p.true)

pub returns-else-self-p : goal.returns-else-self-p
returns-else-self-p c = λ k rest e.
    active_valid c.args.slot _ c.in-Valid.is c.args.i _ _ k rest e ∙ simp (le-ltb _ _ c.if-self-p.false)

pub returns-in_default : goal.returns-in_default
returns-in_default c = active_other c.args.slot c.in_default.not-Valid c.args.i _ _
