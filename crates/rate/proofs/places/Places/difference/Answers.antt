use mathlib.Core.Path.{◌∙◌}
use Rattle.rate.specs.Rate.{magnitude}
use Rattle.rate.proofs.PlaceLaws.{less_day}
use Rattle.rate.proofs.places.Places.difference.Goals as goal

pub returns : goal.returns
returns c = let x = c.complement in
    c.carrying_add.ensures.places ∙ less_day (magnitude c.args.self.numbers) (magnitude c.args.other.numbers) (magnitude x.result.numbers) x.ensures c.requires
