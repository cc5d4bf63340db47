-- A rate and its whole thirds: each number of thirds below 24 hours, either way, has one rate.
use Prim.Native.Nat.{ℕ, zero, suc, ◌<◌}
use mathlib.Core.Path.{◌≡◌, sym, ap, ◌∙◌}
use mathlib.Core.Bool.{Bool, true, false, ◌&&◌, not, true≢false}
use native.Mathlib.Omega.{arith}
use lib.Dec.{eqb}
use lib.IntN.{ℤ, pos, negsuc, nat_abs}
use lib.Signed.{lt_z}
use mathlib.Core.List.{List}
use borrow.Author.Tests.{le-ltb, ne_eqb}
use Rattle.buffers.proofs.Laws.{and_both}
use Rattle.rate.specs.declared.Rate.{Rate}
use Rattle.rate.specs.Rate.{magnitude, signed, thirds, in_range, is_rate, rate_of}
use Rattle.rate.proofs.Signs.{abs_signed, sign_signed, signed_abs}
use Rattle.rate.proofs.PlaceLaws.{InRange, range_shows, places_range, magnitude_below, magnitude_places, places_magnitude}

pub rate_range : (r : Rate) → is_rate r ≡ true → in_range r.places ≡ true
unfolding is_rate
rate_range r h = (and_both _ _ h).0

pub thirds_is : (r : Rate) {m : Bool} {p : List ℕ} → m ≡ r.minus → p ≡ r.places → signed m (magnitude p) ≡ thirds r
unfolding thirds
thirds_is r e f = rw (e, f)

-- what being a rate shows: what has a minus is not zero
pub record IsRate (r : Rate) : Type 0 where
  pub range : InRange r.places
  pub some : r.minus ≡ true → 0 < magnitude r.places

pub rate_shows : (r : Rate) → is_rate r ≡ true → IsRate r
unfolding is_rate
rate_shows r h =
    let b = and_both _ _ h in
    record { range = range_shows r.places b.0; some = go r.minus (magnitude r.places) b.1 }
  where
    go : (m : Bool) (n : ℕ) → not (m && eqb n 0) ≡ true → m ≡ true → 0 < n
    go false n h e = absurd (true≢false (sym e))
    go true zero h e = absurd (true≢false (sym h))
    go true (suc n) h e = omega arith

pub thirds_below : (r : Rate) → is_rate r ≡ true → nat_abs (thirds r) < 5184000
unfolding thirds
thirds_below r h = rw (abs_signed r.minus (magnitude r.places)) (magnitude_below r.places (rate_shows r h).range)

plus_or_some : (z : ℤ) → not (lt_z z (pos 0) && eqb (nat_abs z) 0) ≡ true
plus_or_some (pos n) = rw (le-ltb n 0 (omega arith))
plus_or_some (negsuc n) = rw (ne_eqb (suc n) 0 (λ e. omega arith))

-- each number has a rate with these thirds
module _ (z : ℤ) (h : nat_abs z < 5184000) where
  pub thirds_rate : thirds (rate_of z) ≡ z
  unfolding thirds rate_of
  thirds_rate = rw (magnitude_places (nat_abs z) h) (signed_abs z)

  pub rate_is : is_rate (rate_of z) ≡ true
  unfolding is_rate rate_of
  rate_is = rw (places_range (nat_abs z), magnitude_places (nat_abs z) h) (plus_or_some z)

-- and no rate but that one
pub rate_thirds : (r : Rate) → is_rate r ≡ true → rate_of (thirds r) ≡ r
unfolding thirds rate_of
rate_thirds r h =
    let s = rate_shows r h in
    rw (abs_signed r.minus (magnitude r.places), sign_signed r.minus (magnitude r.places) s.some, places_magnitude r.places s.range)

-- two rates with equal thirds are the same rate
pub one_form : (a b : Rate) → is_rate a ≡ true → is_rate b ≡ true → thirds a ≡ thirds b → a ≡ b
one_form a b g h e = sym (rate_thirds a g) ∙ ap rate_of e ∙ rate_thirds b h
