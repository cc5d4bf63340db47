-- Signed numbers: a number by its sign and size, sums of such, and what an i64 holds.
use Prim.Native.Nat.{ℕ, zero, suc, ◌+◌, ◌≤◌, ◌<◌}
use mathlib.Core.Path.{◌≡◌, refl, sym, ap, ◌∙◌}
use mathlib.Core.Bool.{Bool, true, false, not, true≢false}
use native.Mathlib.Omega.{arith}
use lib.IntN.{ℤ, pos, negsuc, neg_ℤ, nat_abs, ◌+ℤ◌, ◌-ℤ◌, +ℤ_idl, neg_ℤ-+ℤ, neg_ℤ-neg_ℤ, +ℤ-neg_ℤ_cancel}
use lib.Signed.{lt_z, mag}
use mir.Syntax.{w64}
use mir.Val.{SFits, to_z, of_z}
use mir.ValLaws.{to_z-of_z}
use borrow.Author.Tests.{ltb-false, le-ltb}
use Rattle.rate.specs.Rate.{signed}

-- sign and size

pub abs_neg : (z : ℤ) → nat_abs (neg_ℤ z) ≡ nat_abs z
abs_neg (pos zero) = refl
abs_neg (pos (suc n)) = refl
abs_neg (negsuc n) = refl

pub abs_signed : (m : Bool) (n : ℕ) → nat_abs (signed m n) ≡ n
unfolding signed
abs_signed false n = refl
abs_signed true n = abs_neg (pos n)

-- where what has a minus is not zero
pub sign_signed : (m : Bool) (n : ℕ) → (m ≡ true → 0 < n) → lt_z (signed m n) (pos 0) ≡ m
unfolding signed
sign_signed false n some = le-ltb n 0 (omega arith)
sign_signed true zero some = absurd (omega (arith, some refl))
sign_signed true (suc n) some = refl

pub signed_abs : (z : ℤ) → signed (lt_z z (pos 0)) (nat_abs z) ≡ z
unfolding signed
signed_abs (pos n) = rw (le-ltb n 0 (omega arith))
signed_abs (negsuc n) = refl

pub signed_not : (m : Bool) (n : ℕ) → signed (not m) n ≡ neg_ℤ (signed m n)
unfolding signed
signed_not false n = refl
signed_not true n = sym (neg_ℤ-neg_ℤ (pos n))

-- sums: of one sign the sizes are added, of two the lesser is taken from the greater

pub signed_add : (m : Bool) (a b : ℕ) → signed m a +ℤ signed m b ≡ signed m (a + b)
unfolding signed
signed_add false a b = refl
signed_add true a b = sym (neg_ℤ-+ℤ (pos a) (pos b))

pub signed_take : (m : Bool) (a b : ℕ) → signed m (a + b) +ℤ signed (not m) b ≡ signed m a
signed_take m a b = rw (sym (signed_add m a b), signed_not m b) (+ℤ-neg_ℤ_cancel (signed m a) (signed m b))

-- order

pub lt_or_eq : (x y : ℤ) → lt_z x y ≡ false → lt_z y x ≡ false → x ≡ y
lt_or_eq (pos a) (pos b) h k = ap pos (omega (arith, ltb-false a b h, ltb-false b a k))
lt_or_eq (pos a) (negsuc b) h k = absurd (true≢false k)
lt_or_eq (negsuc a) (pos b) h k = absurd (true≢false h)
lt_or_eq (negsuc a) (negsuc b) h k = ap negsuc (omega (arith, ltb-false b a h, ltb-false a b k))

-- an i64 that is small enough is held as it is

pub kept : (z : ℤ) → mag z < 9223372036854775808 → to_z w64 (of_z w64 z) ≡ z
kept z h = to_z-of_z w64 z (record { sfits = h })

mag_le : (z : ℤ) → mag z ≤ nat_abs z
mag_le (pos n) = omega arith
mag_le (negsuc n) = omega arith

module _ (z : ℤ) (h : nat_abs z < 9223372036854775808) where
  fits : SFits w64 z
  fits = record { sfits = omega (arith, mag_le z) }

  pub held : to_z w64 (of_z w64 z) ≡ z
  held = kept z fits.sfits

-- and so is its negation
module _ (z : ℤ) (h : nat_abs z < 9223372036854775808) where
  neg_is : pos 0 -ℤ to_z w64 (of_z w64 z) ≡ neg_ℤ z
  neg_is = ap (λ (x : ℤ). pos 0 -ℤ x) (held z h) ∙ +ℤ_idl (neg_ℤ z)

  pub neg_fits : SFits w64 (pos 0 -ℤ to_z w64 (of_z w64 z))
  neg_fits = rw neg_is (fits (neg_ℤ z) (rw abs_neg h))

  pub neg_held : to_z w64 (of_z w64 (pos 0 -ℤ to_z w64 (of_z w64 z))) ≡ neg_ℤ z
  neg_held = to_z-of_z w64 _ neg_fits ∙ neg_is
