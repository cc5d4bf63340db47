use mathlib.Core.Path.{sym, ◌∙◌}
use Rattle.rate.proofs.Thirds.{rate_range}
use Rattle.rate.proofs.signed.Signed.new.Goals as goal

pub invariant_of-result : goal.invariant_of-result
invariant_of-result c = record { in_range = rate_range c.args.rate (sym c.is_rate.ensures ∙ c.if-not-is_rate.false) }
