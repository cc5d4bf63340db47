-- Daily rates in sixtieths (02, N8): hours, minutes, seconds and thirds, with a sign beside them. One third is 1/60 second.
use Rattle.std.specs.Prelude.{ℕ, ◌+◌, ◌*◌, ◌/◌, ◌%◌, List, [], ◌∷◌, Bool, true, false, ◌&&◌, not, eqb, ltb, ℤ, pos, neg_ℤ, nat_abs, length, get_or}
use Rattle.std.specs.Int.Signed.{lt_z}
use Rattle.rate.specs.declared.Rate.{Rate}

-- the whole thirds of four places
unfoldable pub magnitude : List ℕ → ℕ
magnitude p = ((get_or p 0 0 * 60 + get_or p 1 0) * 60 + get_or p 2 0) * 60 + get_or p 3 0

-- and with a sign, of which true is minus
unfoldable pub signed : Bool → ℕ → ℤ
signed false n = pos n
signed true n = neg_ℤ (pos n)

-- what a rate means: its whole thirds, a signed whole number
unfoldable pub thirds : Rate → ℤ
thirds r = signed r.minus (magnitude r.places)

-- four places: hours run 0 to 23, the others 0 to 59
unfoldable pub in_range : List ℕ → Bool
in_range p = eqb (length p) 4 && ltb (get_or p 0 0) 24 && ltb (get_or p 1 0) 60 && ltb (get_or p 2 0) 60 && ltb (get_or p 3 0) 60

-- and minus zero doesn't exist
unfoldable pub is_rate : Rate → Bool
is_rate r = in_range r.places && not (r.minus && eqb (magnitude r.places) 0)

-- the thirds of 24 hours: a rate has fewer, either way
abbrev pub day_thirds : ℕ
day_thirds = 5184000

-- the places of a number of thirds, whose hours begin again at 24
unfoldable pub places_of : ℕ → List ℕ
places_of n = n / 60 / 60 / 60 % 24 ∷ n / 60 / 60 % 60 ∷ n / 60 % 60 ∷ n % 60 ∷ []

-- the rate of a number of thirds, which is the only one (proofs/Thirds.antt: `thirds_rate`, `rate_thirds`)
unfoldable pub rate_of : ℤ → Rate
rate_of z = record { minus = lt_z z (pos 0); places = places_of (nat_abs z) }
