use mathlib.Core.Path.{refl}
use Rattle.exports.specs.Rates.{rate_in}
use Rattle.exports.proofs.rates.rate_in.Goals as goal

pub returns : goal.returns
unfolding rate_in
returns c = refl
