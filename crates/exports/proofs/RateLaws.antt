-- Rates as numbers: an accepted answer can be lent again and is the same rate, so that its numbers mean what was worked out.
use Prim.Native.Nat.{ℕ}
use native.Mathlib.Omega.{arith}
use mathlib.Core.Path.{◌≡◌, refl, sym}
use mathlib.Core.List.{List}
use mathlib.Core.Bool.{Bool, true, false, not}
use lib.Dec.{eqb}
use lib.IntN.{ℤ}
use Rattle.rate.specs.declared.Rate.{Rate}
use Rattle.std.specs.Prelude.{Result, Ok, Err}
use Rattle.refusal.specs.declared.Refusal.{Refusal}
use Rattle.refusal.specs.Refusal.{number}
use Rattle.rate.specs.Rate.{thirds, is_rate}
use Rattle.rate.specs.Answer.{on_thirds, from_thirds}
use Rattle.rate.proofs.PlaceLaws.{four}
use Rattle.rate.proofs.Thirds.{rate_shows}
use Rattle.rate.proofs.Answers.{Means, given, sum_shows}
use Rattle.exports.specs.Rates.{rate_in, sign_number, rate_numbers, TellsRate}

-- each refusal's number is another than 0
number_some : (e : Refusal) → number e ≡ 0 → ⊥
number_some e h = grind (arith, h)

sign_back : (minus : Bool) → not (eqb (sign_number minus) 0) ≡ minus
sign_back false = refl
sign_back true = refl

numbers_back : (r : Rate) → is_rate r ≡ true → rate_in (rate_numbers r) ≡ r
unfolding rate_in rate_numbers
numbers_back r h = rw (sign_back r.minus, sym (four r.places (rate_shows r h).range.places))

-- an answer that is told as 0 and these numbers
told : {q : List ℕ} {z : ℤ} (x : Result Rate Refusal) → TellsRate x 0 q → ((r : Rate) → x ≡ Ok r → Means z r) → Means z (rate_in q)
told (Ok r) t m = let k = m r refl in rw (t.1, numbers_back r k.good) k
told (Err e) t m = absurd (number_some e (sym t.0))

-- of a sum and a difference the thirds are the sum and the difference
pub told_sum : (f : ℤ → ℤ → ℤ) (a b q : List ℕ) → TellsRate (on_thirds f (rate_in a) (rate_in b)) 0 q
    → Means (f (thirds (rate_in a)) (thirds (rate_in b))) (rate_in q)
told_sum f a b q t = told _ t (λ r e. (sum_shows f (rate_in a) (rate_in b) r e).gives.means)

pub told_thirds : (z : ℤ) (q : List ℕ) → TellsRate (from_thirds z) 0 q → Means z (rate_in q)
told_thirds z q t = told _ t (λ r e. (given z r e).means)
