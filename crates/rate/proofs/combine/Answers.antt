use mathlib.Core.Path.{◌≡◌, ◌∙◌}
use lib.IntN.{ℤ, ◌+ℤ◌}
use Rattle.std.proofs.lemmas.Result.{err_from_is_err_and}
use Rattle.rate.specs.Rate.{magnitude, signed}
use Rattle.rate.specs.Answer.{operation_of, on_thirds}
use Rattle.rate.proofs.Sums.{operation}
use Rattle.rate.proofs.Thirds.{rate_shows, thirds_is}
use Rattle.rate.proofs.Answers.{first_refused, second_refused, both_taken}
use Rattle.rate.proofs.combine.Goals.{in-Add, in-Subtract}
use Rattle.rate.proofs.combine.Goals as goal

pub returns-in_err-a : goal.returns-in_err-a
unfolding on_thirds
returns-in_err-a c =
    let p = err_from_is_err_and c.from_residual.result c.from_residual.ensures.1 in
    let e = c.in_err-a.ensures in
    rw (p.1, p.2, e.1) (first_refused c.args.a c.args.b _ e.0)

pub returns-in_err-b : goal.returns-in_err-b
unfolding on_thirds
returns-in_err-b c =
    let p = err_from_is_err_and c.from_residual-in_err-b.result c.from_residual-in_err-b.ensures.1 in
    let e = c.in_err-b.ensures in
    rw (p.1, p.2, e.1) (second_refused c.args.a c.args.b _ e.0)

pub plus-requires : goal.plus-requires
plus-requires c = let e = c.in_ok-a.ensures in
    rw (e.1.0, e.1.1) (rate_shows c.args.a e.0).some

pub returns : goal.returns
unfolding on_thirds
returns c = let a = c.args in
    let e = c.in_ok-a.ensures in
    let f = c.in_ok-b.ensures in
    let s = c.match-operation.plus in
    let b = c.in_ok-b.b in
    let second : (x : ℤ) → x +ℤ signed s.minus (magnitude s.places.numbers) ≡ operation_of a.operation x (signed b.minus (magnitude b.places.numbers)) =
    λ x. elim c.match-operation.branch [
      | in-Add w ↦ rw (w.in-Add.is, w.plus-is) (operation x b.minus (magnitude b.places.numbers)).0
      | in-Subtract w ↦ rw (w.in-Subtract.is, w.plus-is, w.negated.ensures.0, w.negated.ensures.1) (operation x b.minus (magnitude b.places.numbers)).1
    ] in
    c.plus.ensures
    ∙ rw (second, thirds_is a.a e.1.0 e.1.1, thirds_is a.b f.1.0 f.1.1) (both_taken a.a a.b _ e.0 f.0)
