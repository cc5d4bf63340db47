-- The tallies after a call, each by itself (`counted_tally`), so that the other's calls never change one (`other_counted`); and their total, which is
-- what a single tally would be (`stopped_sum`).
use Prim.Native.Nat.{ℕ, ◌+◌, ◌<◌}
use mathlib.Core.Path.{◌≡◌, refl, sym, ap, ◌∙◌}
use mathlib.Core.Bool.{Bool, true, false}
use Rattle.std.specs.Prelude.{Option, None, Some}
use native.Mathlib.Omega.{arith}
use Rattle.tally.specs.declared.Caller.{Caller}
use Rattle.tally.specs.declared.Caller.TheVariants.{Clock, Barrel}
use Rattle.tally.specs.declared.Tally.{Tally}
use Rattle.tally.specs.Tally.{stopped, counted_if, is_own, tally_of, counted}

-- one request more of a caller
module _ (t : Tally) (k : ℕ) {caller : Caller} where
  pub clock_counted : caller ≡ Clock → k ≡ stopped (t.clock + 1) → (offset : ℕ)
      → record { clock = k; barrel = t.barrel } ≡ counted (Some caller) (Some offset) t
  clock_counted e h offset =
      (λ i. record { clock = h i; barrel = t.barrel }) ∙ ap (λ (x : Caller). counted (Some x) (Some offset) t) (sym e)

  pub barrel_counted : caller ≡ Barrel → k ≡ stopped (t.barrel + 1) → (offset : ℕ)
      → record { clock = t.clock; barrel = k } ≡ counted (Some caller) (Some offset) t
  barrel_counted e h offset =
      (λ i. record { clock = t.clock; barrel = h i }) ∙ ap (λ (x : Caller). counted (Some x) (Some offset) t) (sym e)

-- one tally

none_counts : (own : Bool) (k : ℕ) → counted_if own None k ≡ k
none_counts false k = refl
none_counts true k = refl

pub counted_fits : (own : Bool) (e : Option ℕ) (k : ℕ) → k < 4294967296 → counted_if own e k < 4294967296
counted_fits false e k h = h
counted_fits true None k h = h
counted_fits true (Some offset) k h = omega arith

-- both

pub counted_none : (o : Option Caller) (t : Tally) → counted o None t ≡ t
counted_none o t = λ i. record { clock = none_counts (is_own Clock o) t.clock i; barrel = none_counts (is_own Barrel o) t.barrel i }

pub counted_tally : (caller : Caller) (o : Option Caller) (e : Option ℕ) (t : Tally) → tally_of caller (counted o e t) ≡ counted_if (is_own caller o) e (tally_of caller t)
counted_tally Clock o e t = refl
counted_tally Barrel o e t = refl

-- the other's calls never change a caller's tally, nor does what is nobody's commit
pub other_counted : (caller : Caller) (o : Option Caller) (e : Option ℕ) (t : Tally) → is_own caller o ≡ false
    → tally_of caller (counted o e t) ≡ tally_of caller t
other_counted caller o e t h = counted_tally caller o e t ∙ ap (λ (own : Bool). counted_if own e (tally_of caller t)) h

-- the stopped sum of stopped tallies is the stopped sum
pub stopped_sum : (a b : ℕ) → stopped (stopped a + stopped b) ≡ stopped (a + b)
stopped_sum a b = omega arith
