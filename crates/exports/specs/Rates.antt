-- A rate and an order of two as the numbers that cross to C (02, N8).
use Rattle.std.specs.Prelude.{ℕ, ◌≡◌, List, [], ◌∷◌, Bool, not, cond, eqb, ℤ, pos, get_or, Result, Ok, Err}
use Rattle.std.specs.declared.cmp.Ordering.{Ordering}
use Rattle.std.specs.declared.cmp.Ordering.TheVariants.{Less, Equal, Greater}
use Rattle.refusal.specs.declared.Refusal.{Refusal}
use Rattle.refusal.specs.Refusal.{number_of}
use Rattle.rate.specs.declared.Rate.{Rate}

-- of five numbers: the sign, of which 0 is plus and every other number minus, and the four places
unfoldable pub rate_in : List ℕ → Rate
rate_in ns = record { minus = not (eqb (get_or ns 0 0) 0); places = get_or ns 1 0 ∷ get_or ns 2 0 ∷ get_or ns 3 0 ∷ get_or ns 4 0 ∷ [] }

-- 1 for minus
abbrev pub sign_number : Bool → ℕ
sign_number minus = cond minus 1 0

unfoldable pub rate_numbers : Rate → List ℕ
rate_numbers r = sign_number r.minus ∷ r.places

-- zeros beside a refusal
abbrev pub rate_fields : Result Rate Refusal → List ℕ
rate_fields (Ok r) = rate_numbers r
rate_fields (Err e) = 0 ∷ 0 ∷ 0 ∷ 0 ∷ 0 ∷ []

-- a call whose answer is x returns r and leaves the numbers q
abbrev pub TellsRate : Result Rate Refusal → ℕ → List ℕ → Type 0
TellsRate x r q = (r ≡ number_of x) × (q ≡ rate_fields x)

abbrev pub order_field : Result Ordering Refusal → List ℕ
order_field (Err e) = 0 ∷ []
order_field (Ok Less) = 1 ∷ []
order_field (Ok Equal) = 2 ∷ []
order_field (Ok Greater) = 3 ∷ []

abbrev pub thirds_field : Result ℤ Refusal → List ℤ
thirds_field (Ok z) = z ∷ []
thirds_field (Err e) = pos 0 ∷ []

-- the same of an order, and of thirds
abbrev pub TellsOrder : Result Ordering Refusal → ℕ → List ℕ → Type 0
TellsOrder o r q = (r ≡ number_of o) × (q ≡ order_field o)

abbrev pub TellsThirds : Result ℤ Refusal → ℕ → List ℤ → Type 0
TellsThirds x r q = (r ≡ number_of x) × (q ≡ thirds_field x)
