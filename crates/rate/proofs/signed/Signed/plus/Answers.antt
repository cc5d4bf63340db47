use mathlib.Core.Path.{◌≡◌, sym, ◌∙◌}
use native.Mathlib.Omega.{arith}
use Prim.Native.Nat.{◌<◌}
use Rattle.rate.specs.Rate.{magnitude}
use Rattle.rate.proofs.PlaceLaws.{range_shows, magnitude_below}
use Rattle.rate.proofs.Sums.{as_placed, same_over, same_signs, first_greater, second_greater, equal}
use Rattle.rate.proofs.signed.Signed.plus.Goals as goal

pub returns-then-over : goal.returns-then-over
returns-then-over c = let a = c.args in
    same_over a.self.minus a.other.minus (magnitude a.self.places.numbers) (magnitude a.other.places.numbers) c.if-self-other.true (sym c.carrying_add-over.ensures.over ∙ c.if-over.true)

pub returns-else-over : goal.returns-else-over
returns-else-over c = let a = c.args in
    let s = c.carrying_add-over.ensures in
    as_placed c.rate.ensures.0 (c.rate.ensures.1 ∙ s.places)
    ∙ same_signs a.self.minus a.other.minus (magnitude a.self.places.numbers) (magnitude a.other.places.numbers) c.if-self-other.true c.requires (sym s.over ∙ c.if-over.false)

pub returns-in-Less : goal.returns-in-Less
returns-in-Less c = let a = c.args in
    let p = a.self.places.numbers in
    let q = a.other.places.numbers in
    let less : magnitude p < magnitude q = grind (arith, c.in-Less.ensures, c.magnitude.ensures.0, c.magnitude-2.ensures.0) in
    as_placed c.rate-in-Less.ensures.0 c.rate-in-Less.ensures.1
    ∙ second_greater a.self.minus a.other.minus (magnitude p) (magnitude q) c.if-self-other.false less (magnitude_below q (range_shows q a.other.places.in_range)) c.difference.ensures

pub returns-in-Equal : goal.returns-in-Equal
returns-in-Equal c = let a = c.args in
    let p = a.self.places.numbers in
    let q = a.other.places.numbers in
    let same : magnitude p ≡ magnitude q = grind (arith, c.in-Equal.ensures, c.magnitude.ensures.0, c.magnitude-2.ensures.0) in
    equal a.self.minus a.other.minus (magnitude p) (magnitude q) c.if-self-other.false same

pub returns-in-Greater : goal.returns-in-Greater
returns-in-Greater c = let a = c.args in
    let p = a.self.places.numbers in
    let q = a.other.places.numbers in
    let more : magnitude q < magnitude p = grind (arith, c.in-Greater.ensures, c.magnitude.ensures.0, c.magnitude-2.ensures.0) in
    as_placed c.rate-in-Greater.ensures.0 c.rate-in-Greater.ensures.1
    ∙ first_greater a.self.minus a.other.minus (magnitude p) (magnitude q) c.if-self-other.false more (magnitude_below p (range_shows p a.self.places.in_range)) c.difference-in-Greater.ensures
