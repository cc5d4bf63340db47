-- `fresh_size`: 15 over the ceiling; then 8 just where total and record together are over 131,072, as a sum that is cut off is.
use Prim.Native.Nat.{◌+◌}
use mathlib.Core.Path.{sym, ◌∙◌}
use native.Mathlib.Omega.{arith}
use Rattle.nvram.specs.Ready.{active_entry}
use Rattle.variables.specs.Manner.{manner_of}
use Rattle.variables.proofs.EditLaws.{answers_15, answers_8, answers_0}
use Rattle.variables.proofs.edit.fresh_size.Goals as goal

pub returns-then-over_ceiling-clause-number : goal.returns-then-over_ceiling-clause-number
returns-then-over_ceiling-clause-number c = answers_15 (manner_of c.args.manner) c.args.value _ (sym c.over_ceiling.ensures ∙ c.if-over_ceiling.true)

pub returns-then-left-size-clause-number : goal.returns-then-left-size-clause-number
returns-then-left-size-clause-number c =
    let a = c.args in
    answers_8 (manner_of a.manner) a.value ((active_entry a.state).total + (37 + a.key + a.value)) (sym c.over_ceiling.ensures ∙ c.if-over_ceiling.false) (omega (arith, c.saturating_add.ensures, c.saturating_add-size.ensures))

pub returns-clause-number : goal.returns-clause-number
returns-clause-number c =
    let a = c.args in
    answers_0 (manner_of a.manner) a.value ((active_entry a.state).total + (37 + a.key + a.value)) (sym c.over_ceiling.ensures ∙ c.if-over_ceiling.false) (omega (arith, c.saturating_add.ensures, c.saturating_add-size.ensures))
