use Rattle.rate.specs.Rate.{is_rate}
use Rattle.rate.proofs.Rate.is_rate.Goals as goal

pub returns : goal.returns
unfolding is_rate
returns c = rw (c.in_range.ensures, c.magnitude.ensures.0)
