use mathlib.Core.Path.{◌≡◌}
use lib.ListN.{length}
use borrow.Author.Tests.{eq-eqb}
use Rattle.rate.specs.Rate.{in_range}
use borrow.Author.Rules.{rules}
use Rattle.rate.proofs.places.in_range.Goals as goal

pub returns : goal.returns
unfolding in_range
returns c = let l : length c.args.numbers ≡ 4 = search rules in rw (eq-eqb _ _ l)
