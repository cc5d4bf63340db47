use mathlib.Core.Path.{refl}
use borrow.Author.Tests.{ne_eqb}
use Rattle.bank.specs.Record.{deleted_state}
use Rattle.bank.proofs.variable.Variable.deleted.Goals as goal

pub returns-then-state-eq-ADDED : goal.returns-then-state-eq-ADDED
unfolding deleted_state
returns-then-state-eq-ADDED c = rw c.if-state-eq-ADDED.true refl

pub returns-else-state-eq-ADDED : goal.returns-else-state-eq-ADDED
unfolding deleted_state
returns-else-state-eq-ADDED c = simp (ne_eqb _ _ c.if-state-eq-ADDED.false)
