-- `same`: first other lengths (`other_length`), no bytes (`eq_none`) and another first byte (`eq_more` at 0); then std's comparison (`eq_bytes_each`),
-- or that of few.
use native.Mathlib.Omega.{arith}
use mathlib.Core.Path.{refl, sym, ◌∙◌}
use borrow.Author.Tests.{ne_eqb}
use Rattle.buffers.proofs.Chains.{eq_bytes_each}
use Rattle.buffers.proofs.LoopSteps.{test_fails, other_length, eq_more, eq_none}
use Rattle.buffers.proofs.same.Goals as goal

pub returns-then-a-b : goal.returns-then-a-b
returns-then-a-b c = other_length c.args.a.now c.args.b.now c.if-a-b.true

pub returns-then-a-eq0 : goal.returns-then-a-eq0
returns-then-a-eq0 c = let s = c.args in sym (eq_none s.a.now s.b.now c.if-a-b.false 0 (omega arith))

pub returns-then-a-b-2 : goal.returns-then-a-b-2
returns-then-a-b-2 c = let s = c.args in test_fails refl (eq_more s.a.now s.b.now c.if-a-b.false 0 (omega arith)) (ne_eqb _ _ c.if-a-b-2.true)

pub returns-then-a-gt-IN_LINE : goal.returns-then-a-gt-IN_LINE
returns-then-a-gt-IN_LINE c = c.eq.ensures ∙ eq_bytes_each c.args.a.now c.args.b.now
