use mathlib.Core.Path.{sym}
use Rattle.rate.proofs.Carry.{unit_is}
use Rattle.rate.proofs.PlaceLaws.{four}
use Rattle.exports.specs.Rates.{rate_numbers}
use borrow.Author.Rules.{rules}
use Rattle.exports.proofs.rates.numbers.Goals as goal

pub returns : goal.returns
unfolding rate_numbers
returns c = let r = c.args.rate in rw (c.from.ensures, unit_is r.minus, sym (four r.places (search rules)))
