use mathlib.Core.Path.{sym, ◌∙◌}
use Rattle.rate.specs.Answer.{to_thirds}
use Rattle.rate.proofs.Signs.{kept}
use Rattle.rate.proofs.to_thirds.Goals as goal

pub returns-then-not-is_rate : goal.returns-then-not-is_rate
unfolding to_thirds
returns-then-not-is_rate c = rw (sym c.is_rate.ensures ∙ c.if-not-is_rate.true)

pub returns : goal.returns
unfolding to_thirds
returns c = let x = c.thirds in rw (sym c.is_rate.ensures ∙ c.if-not-is_rate.false, kept x.result x.type_inv, x.ensures)
