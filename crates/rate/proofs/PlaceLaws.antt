-- Four places: those in range are the places of their thirds, and of no other number below 24 hours.
use Prim.Native.Nat.{ℕ, ◌+◌, ◌-◌, ◌*◌, ◌/◌, ◌%◌, ◌≤◌, ◌<◌}
use mathlib.Core.Path.{◌≡◌, refl, sym}
use mathlib.Core.List.{List, [], ◌∷◌}
use mathlib.Core.Bool.{true}
use native.Mathlib.Omega.{arith}
use native.Mathlib.Nat.{mod-eq_of_lt}
use lib.Arith.{digits_div, digits_mod}
use lib.ListN.{length, get_or}
use borrow.Author.Tests.{ltb-true, lt-ltb, eqb-true}
use Rattle.buffers.proofs.Laws.{and_both}
use Rattle.rate.specs.Rate.{magnitude, in_range, places_of}

pub four : (p : List ℕ) → length p ≡ 4 → p ≡ get_or p 0 0 ∷ get_or p 1 0 ∷ get_or p 2 0 ∷ get_or p 3 0 ∷ []
four [] l = absurd (omega arith)
four (a ∷ []) l = absurd (omega arith)
four (a ∷ b ∷ []) l = absurd (omega arith)
four (a ∷ b ∷ c ∷ []) l = absurd (omega arith)
four (a ∷ b ∷ c ∷ d ∷ []) l = refl
four (a ∷ b ∷ c ∷ d ∷ e ∷ p) l = absurd (omega arith)

-- what being in range shows
pub record InRange (p : List ℕ) : Type 0 where
  pub places : length p ≡ 4
  pub hours : get_or p 0 0 < 24
  pub minutes : get_or p 1 0 < 60
  pub seconds : get_or p 2 0 < 60
  pub last : get_or p 3 0 < 60

pub range_shows : (p : List ℕ) → in_range p ≡ true → InRange p
unfolding in_range
range_shows p h =
    let a = and_both _ _ h in
    let b = and_both _ _ a.0 in
    let c = and_both _ _ b.0 in
    let d = and_both _ _ c.0 in
    record {
      places = eqb-true _ _ d.0;
      hours = ltb-true _ _ d.1;
      minutes = ltb-true _ _ c.1;
      seconds = ltb-true _ _ b.1;
      last = ltb-true _ _ a.1;
    }

ranged : (h m s t : ℕ) → h < 24 → m < 60 → s < 60 → t < 60 → in_range (h ∷ m ∷ s ∷ t ∷ []) ≡ true
unfolding in_range
ranged h m s t a b c d = simp (lt-ltb _ _ a, lt-ltb _ _ b, lt-ltb _ _ c, lt-ltb _ _ d)

pub places_range : (n : ℕ) → in_range (places_of n) ≡ true
unfolding places_of
places_range n =
    ranged (n / 60 / 60 / 60 % 24) (n / 60 / 60 % 60) (n / 60 % 60) (n % 60) (omega arith) (omega arith) (omega arith) (omega arith)

-- 24 hours more have the same places
pub places_day : (n : ℕ) → places_of (n + 5184000) ≡ places_of n
unfolding places_of
places_day n =
    let a : (n + 5184000) / 60 / 60 / 60 % 24 ≡ n / 60 / 60 / 60 % 24 = omega arith in
    let b : (n + 5184000) / 60 / 60 % 60 ≡ n / 60 / 60 % 60 = omega arith in
    let c : (n + 5184000) / 60 % 60 ≡ n / 60 % 60 = omega arith in
    let d : (n + 5184000) % 60 ≡ n % 60 = omega arith in
    rw (a, b, c, d)

-- what is missing to the last third of 24 hours
module _ (p : List ℕ) (h : InRange p) where
  pub complement_range : in_range ((23 - get_or p 0 0) ∷ (59 - get_or p 1 0) ∷ (59 - get_or p 2 0) ∷ (59 - get_or p 3 0) ∷ []) ≡ true
  complement_range =
      ranged (23 - get_or p 0 0) (59 - get_or p 1 0) (59 - get_or p 2 0) (59 - get_or p 3 0) (omega arith) (omega arith) (omega arith) (omega arith)

  pub complement_sum : magnitude ((23 - get_or p 0 0) ∷ (59 - get_or p 1 0) ∷ (59 - get_or p 2 0) ∷ (59 - get_or p 3 0) ∷ []) + magnitude p ≡ 5183999
  unfolding magnitude
  complement_sum = omega (arith, h.hours, h.minutes, h.seconds, h.last)

-- places and thirds

pub magnitude_below : (p : List ℕ) → InRange p → magnitude p < 5184000
unfolding magnitude
magnitude_below p h = omega arith

pub magnitude_places : (n : ℕ) → n < 5184000 → magnitude (places_of n) ≡ n
unfolding magnitude places_of
magnitude_places n h = omega arith

pub places_magnitude : (p : List ℕ) → InRange p → places_of (magnitude p) ≡ p
unfolding places_of magnitude
places_magnitude p h =
    let x = get_or p 0 0 * 60 + get_or p 1 0 in
    let y = x * 60 + get_or p 2 0 in
    simp (digits_div y h.last, digits_mod y h.last, digits_div x h.seconds, digits_mod x h.seconds, digits_div (get_or p 0 0) h.minutes, digits_mod (get_or p 0 0) h.minutes, mod-eq_of_lt h.hours)
    (sym (four p h.places))

-- less the lesser: with the complement c of q, 24 hours go over
pub less_day : (p q c : ℕ) → c + q ≡ 5183999 → q ≤ p → places_of (p + c + 1) ≡ places_of (p - q)
less_day p q c k l = let e : p + c + 1 ≡ p - q + 5184000 = omega arith in rw e (places_day (p - q))
