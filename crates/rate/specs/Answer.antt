-- What the calls on rates answer (02, N8): each works with whole thirds, and refuses by 19.
use Rattle.std.specs.Prelude.{◌&&◌, cond, ltb, Result, Ok, Err, ℤ, nat_abs, ◌+ℤ◌, ◌-ℤ◌}
use Rattle.std.specs.declared.cmp.Ordering.{Ordering}
use Rattle.std.specs.Ordering.{int_cmp}
use Rattle.refusal.specs.declared.Refusal.{Refusal}
use Rattle.refusal.specs.declared.Refusal.TheVariants.{RateRange}
use Rattle.rate.specs.declared.Rate.{Rate}
use Rattle.rate.specs.declared.Operation.{Operation}
use Rattle.rate.specs.declared.Operation.TheVariants.{Add, Subtract}
use Rattle.rate.specs.Rate.{thirds, is_rate, day_thirds, rate_of}

-- the rate of a number of thirds, where four places hold it
unfoldable pub from_thirds : ℤ → Result Rate Refusal
from_thirds z = cond (ltb (nat_abs z) day_thirds) (Ok (rate_of z)) (Err RateRange)

-- of two rates, the rate of what comes of their thirds: of their sum or difference
unfoldable pub on_thirds : (ℤ → ℤ → ℤ) → Rate → Rate → Result Rate Refusal
on_thirds f a b = cond (is_rate a && is_rate b) (from_thirds (f (thirds a) (thirds b))) (Err RateRange)

abbrev pub operation_of : Operation → ℤ → ℤ → ℤ
operation_of Add = ◌+ℤ◌
operation_of Subtract = ◌-ℤ◌

-- the order of two rates is that of their thirds
unfoldable pub order_of : Rate → Rate → Result Ordering Refusal
order_of a b = cond (is_rate a && is_rate b) (Ok (int_cmp (thirds a) (thirds b))) (Err RateRange)

-- the whole thirds of a rate
unfoldable pub to_thirds : Rate → Result ℤ Refusal
to_thirds r = cond (is_rate r) (Ok (thirds r)) (Err RateRange)
