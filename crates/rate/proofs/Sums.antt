-- Sums by signs and places: what the code answers at each exit is what comes of the thirds. `placed_thirds` is to be read: nothing cites it.
use Prim.Native.Nat.{ℕ, ◌+◌, ◌-◌, ◌≤◌, ◌<◌}
use mathlib.Core.Path.{◌≡◌, refl, sym, ap, ◌∙◌}
use mathlib.Core.List.{List, [], ◌∷◌}
use mathlib.Core.Bool.{Bool, beq, true, false, not, true≢false}
use native.Mathlib.Omega.{arith}
use lib.Dec.{leb}
use lib.IntN.{ℤ, pos, nat_abs, ◌+ℤ◌, +ℤ_comm}
use lib.Signed.{lt_z}
use borrow.Author.Tests.{lt-ltb, le-ltb, leb-true, leb-false}
use Rattle.std.specs.Prelude.{Result, Ok, Err}
use Rattle.refusal.specs.declared.Refusal.{Refusal}
use Rattle.refusal.specs.declared.Refusal.TheVariants.{RateRange}
use Rattle.rate.specs.declared.Rate.{Rate}
use Rattle.rate.specs.Rate.{signed, places_of, rate_of}
use Rattle.rate.specs.declared.Operation.TheVariants.{Add, Subtract}
use Rattle.rate.specs.Answer.{from_thirds, operation_of}
use Rattle.rate.proofs.Signs.{abs_signed, sign_signed, signed_not, signed_add, signed_take}

-- a rate by its sign and places
abbrev pub placed : Bool → List ℕ → Result Rate Refusal
placed minus p = Ok (record { minus = minus; places = p })

pub as_placed : {r : Rate} {m : Bool} {p : List ℕ} → r.minus ≡ m → r.places ≡ p → ◌≡◌ {A = Result Rate Refusal} (Ok r) (placed m p)
as_placed e f = λ i. Ok (record { minus = e i; places = f i })

-- places are answered for their thirds; what has a minus is not zero

placed_from : (m : Bool) (n : ℕ) → (m ≡ true → 0 < n) → n < 5184000 → placed m (places_of n) ≡ from_thirds (signed m n)
unfolding from_thirds rate_of
placed_from m n some h = rw (abs_signed m n, sign_signed m n some, lt-ltb _ _ h)

pub placed_thirds : (z : ℤ) → nat_abs z < 5184000 → placed (lt_z z (pos 0)) (places_of (nat_abs z)) ≡ from_thirds z
unfolding from_thirds rate_of
placed_thirds z h = rw (lt-ltb _ _ h)

-- two signs

alike : (m n : Bool) → beq m n ≡ true → m ≡ n
alike false false e = refl
alike false true e = absurd (true≢false (sym e))
alike true false e = absurd (true≢false (sym e))
alike true true e = refl

unlike : (m n : Bool) → beq m n ≡ false → (not m ≡ n) × (not n ≡ m)
unlike false false e = absurd (true≢false e)
unlike false true e = (refl, refl)
unlike true false e = (refl, refl)
unlike true true e = absurd (true≢false e)

-- p and q thirds of one sign: their sum is carried through

module _ (m n : Bool) (p q : ℕ) (e : beq m n ≡ true) where
  pub same_over : leb 5184000 (p + q + 0) ≡ true → Err RateRange ≡ from_thirds (signed m p +ℤ signed n q)
  unfolding from_thirds
  same_over o =
      let k : 5184000 ≤ p + q = omega (arith, leb-true _ _ o) in
      rw (sym (alike m n e), signed_add m p q, abs_signed m (p + q), le-ltb _ _ k)

  pub same_signs : (m ≡ true → 0 < p) → leb 5184000 (p + q + 0) ≡ false → placed m (places_of (p + q + 0)) ≡ from_thirds (signed m p +ℤ signed n q)
  same_signs some o =
      let k : p + q < 5184000 = omega (arith, leb-false _ _ o) in
      let f : p + q + 0 ≡ p + q = omega arith in
      rw (f, sym (alike m n e), signed_add m p q) (placed_from m (p + q) (λ t. omega (arith, some t)) k)

-- of two signs: the lesser is taken from the greater

no_sign : (m : Bool) → signed false 0 ≡ signed m 0
unfolding signed
no_sign false = refl
no_sign true = refl

lessened : (m : Bool) (p q : ℕ) → q < p → p < 5184000 → placed m (places_of (p - q)) ≡ from_thirds (signed m p +ℤ signed (not m) q)
lessened m p q l h =
    let f : p - q + q ≡ p = omega arith in
    let g : p - q < 5184000 = omega arith in
    let k : 0 < p - q = omega arith in
    placed_from m (p - q) (λ t. k) g ∙ ap from_thirds (sym (signed_take m (p - q) q)) ∙ ap (λ (n : ℕ). from_thirds (signed m n +ℤ signed (not m) q)) f

module _ (m n : Bool) (p q : ℕ) (e : beq m n ≡ false) where
  pub first_greater : {d : List ℕ} → q < p → p < 5184000 → d ≡ places_of (p - q) → placed m d ≡ from_thirds (signed m p +ℤ signed n q)
  first_greater l h f = rw (f, sym (unlike m n e).0) (lessened m p q l h)

  pub second_greater : {d : List ℕ} → p < q → q < 5184000 → d ≡ places_of (q - p) → placed n d ≡ from_thirds (signed m p +ℤ signed n q)
  second_greater l h f = rw (f, +ℤ_comm (signed m p) (signed n q), sym (unlike m n e).1) (lessened n q p l h)

  pub equal : p ≡ q → placed false (0 ∷ 0 ∷ 0 ∷ 0 ∷ []) ≡ from_thirds (signed m p +ℤ signed n q)
  unfolding places_of
  equal f =
      let z : 0 + q ≡ p = omega arith in
      placed_from false 0 (λ t. absurd (true≢false (sym t))) (omega arith) ∙ ap from_thirds (no_sign m ∙ sym (signed_take m 0 q)) ∙ rw (z, (unlike m n e).0)

-- the second is added with its sign, or with the other one
pub operation : (x : ℤ) (m : Bool) (n : ℕ) → (x +ℤ signed m n ≡ operation_of Add x (signed m n)) × (x +ℤ signed (not m) n ≡ operation_of Subtract x (signed m n))
operation x m n = (refl, rw (signed_not m n))
