-- Carrying through the places: what is left to do from a place on, and what the whole walk comes to.
use Prim.Native.Nat.{ℕ, zero, suc, ◌+◌, ◌-◌, ◌*◌, ◌/◌, ◌%◌, ◌≤◌, ◌<◌}
use mathlib.Core.Path.{◌≡◌, refl, sym, ap, ◌∙◌}
use mathlib.Core.Bool.{Bool, true, false, cond}
use mathlib.Core.List.{List, [], ◌∷◌}
use native.Mathlib.Omega.{arith}
use native.Mathlib.Nat.{mod-eq_of_lt, mod-eq-sub-mul-div, div-eq_of_lt, add-mul-div_left}
use mir.Val.{bool_byte}
use lib.Dec.{leb}
use lib.ListN.{get_or, set}
use borrow.Author.Tests.{leb-true, leb-false, le-leb, lt-leb}
use Rattle.rate.specs.Rate.{magnitude, in_range, places_of}
use Rattle.rate.proofs.PlaceLaws.{InRange, range_shows}

abbrev pub limits : List ℕ
limits = 24 ∷ 60 ∷ 60 ∷ 60 ∷ []

pub unit_most : (b : Bool) → bool_byte b ≤ 1
unit_most false = omega arith
unit_most true = omega arith

pub unit_is : (b : Bool) → bool_byte b ≡ cond b 1 0
unit_is false = refl
unit_is true = refl

-- what goes over
pub no_over : (n l : ℕ) → n < l → 0 ≡ n / l
no_over n l h = sym (div-eq_of_lt h)

-- a place that comes to n, of which it holds so many: what goes over, and what stays
one_place : (n most : ℕ) → n < most + most → (bool_byte (leb most n) ≡ n / most) × (cond (leb most n) (n - most) n ≡ n % most)
one_place n most h = go (leb most n) refl
  where
    go : (t : Bool) → leb most n ≡ t → (bool_byte t ≡ n / most) × (cond t (n - most) n ≡ n % most)
    go true e =
        let k : most ≤ n = leb-true _ _ e in
        let z : 0 < most = omega arith in
        let r : n - most < most = omega arith in
        let d : n ≡ n - most + most * 1 = omega arith in
        let q : n / most ≡ 1 = rw d (add-mul-div_left (n - most) 1 z ∙ rw (div-eq_of_lt r)) in
        (sym q, rw (mod-eq-sub-mul-div n most, q) (omega arith))
    go false e = let k : n < most = leb-false _ _ e in (no_over n most k, sym (mod-eq_of_lt k))

-- what stays is what c places more leave
taken : (n most : ℕ) (t : Bool) → (bool_byte t ≡ n / most) × (cond t (n - most) n ≡ n % most) → n - most * bool_byte t ≡ cond t (n - most) n
taken n most t o = rw (o.0, sym (mod-eq-sub-mul-div n most)) (sym o.1)

module _ (n most x : ℕ) where
  pub past : most ≤ n → x ≡ n - most → x ≡ cond (leb most n) (n - most) n
  past h e = rw (le-leb most n h) e

  pub below : n < most → x ≡ n → x ≡ cond (leb most n) (n - most) n
  below h e = rw (lt-leb most n h) e

-- what a place in range holds
pub range_at : (p : List ℕ) (i : ℕ) → in_range p ≡ true → i < 4 → get_or p i 0 < get_or limits i 0
range_at p i g h = go p i (range_shows p g) h
  where
    go : (p : List ℕ) (i : ℕ) → InRange p → i < 4 → get_or p i 0 < get_or limits i 0
    go p zero r h = r.hours
    go p (suc zero) r h = r.minutes
    go p (suc (suc zero)) r h = r.seconds
    go p (suc (suc (suc zero))) r h = r.last
    go p (suc (suc (suc (suc i)))) r h = absurd (omega arith)

pub limit_most : (i : ℕ) → i < 4 → get_or limits i 0 ≤ 60
limit_most zero h = omega arith
limit_most (suc zero) h = omega arith
limit_most (suc (suc zero)) h = omega arith
limit_most (suc (suc (suc zero))) h = omega arith
limit_most (suc (suc (suc (suc i)))) h = absurd (omega arith)

module _ (p q : List ℕ) where
  -- so many places are left, so much was carried to the last of them, and those behind are done
  unfoldable pub ToCarry : ℕ → ℕ → List ℕ → List ℕ × ℕ
  ToCarry zero over s = (s, over)
  ToCarry (suc i) over s =
      let n = get_or p i 0 + get_or q i 0 + over in
      let most = get_or limits i 0 in
      ToCarry i (n / most) (set s i (n % most))

  -- the whole walk: the places of the sum's thirds, and how often 24 hours are over
  pub begin : (more : ℕ) → let n = magnitude p + magnitude q + more in ToCarry 4 more (0 ∷ 0 ∷ 0 ∷ 0 ∷ []) ≡ (places_of n, n / 60 / 60 / 60 / 24)
  unfolding ToCarry magnitude places_of
  begin more =
      let n = magnitude p + magnitude q + more in
      let last = get_or p 3 0 + get_or q 3 0 + more in
      let seconds = get_or p 2 0 + get_or q 2 0 + last / 60 in
      let minutes = get_or p 1 0 + get_or q 1 0 + seconds / 60 in
      let x : n / 60 ≡ ((get_or p 0 0 + get_or q 0 0) * 60 + (get_or p 1 0 + get_or q 1 0)) * 60 + seconds = omega arith in
      let y : n / 60 / 60 ≡ (get_or p 0 0 + get_or q 0 0) * 60 + minutes = omega (arith, x) in
      let z : n / 60 / 60 / 60 ≡ get_or p 0 0 + get_or q 0 0 + minutes / 60 = omega (arith, y) in
      let t : n % 60 ≡ last % 60 = omega arith in
      let s : n / 60 % 60 ≡ seconds % 60 = omega (arith, x) in
      let m : n / 60 / 60 % 60 ≡ minutes % 60 = omega (arith, y) in
      sym (rw (z, m, s, t))

  next : (i over : ℕ) (s : List ℕ) → 0 < i
      → let n = get_or p (i - 1) 0 + get_or q (i - 1) 0 + over in
      let most = get_or limits (i - 1) 0 in
      ToCarry i over s ≡ ToCarry (i - 1) (n / most) (set s (i - 1) (n % most))
  unfolding ToCarry
  next zero over s h = absurd (omega arith)
  next (suc i) over s h = let e : suc i - 1 ≡ i = omega arith in rw e

  -- the next place holds l, and c is carried from it
  pub turn : (i over l c : ℕ) (s : List ℕ) → 0 < i → l ≡ get_or limits (i - 1) 0 → c ≡ (get_or p (i - 1) 0 + get_or q (i - 1) 0 + over) / l
      → ToCarry i over s ≡ ToCarry (i - 1) c (set s (i - 1) (get_or p (i - 1) 0 + get_or q (i - 1) 0 + over - l * c))
  turn i over l c s h e f =
      let n = get_or p (i - 1) 0 + get_or q (i - 1) 0 + over in
      rw (f, sym (mod-eq-sub-mul-div n l), e) (next i over s h)

  -- as the code takes it: from two places in range at most 1 is carried, and x stays
  pub turn_once : (i u x : ℕ) (over : Bool) (s : List ℕ) → 0 < i → i ≤ 4 → in_range p ≡ true → in_range q ≡ true → u ≡ bool_byte over
      → let n = get_or p (i - 1) 0 + get_or q (i - 1) 0 + u in
      let most = get_or limits (i - 1) 0 in
      x ≡ cond (leb most n) (n - most) n → ToCarry i (bool_byte over) s ≡ ToCarry (i - 1) (bool_byte (leb most n)) (set s (i - 1) x)
  turn_once i u x over s h k a b e f =
      let n = get_or p (i - 1) 0 + get_or q (i - 1) 0 + u in
      let most = get_or limits (i - 1) 0 in
      let l : n < most + most = omega (arith, range_at p (i - 1) a (omega arith), range_at q (i - 1) b (omega arith), e, unit_most over) in
      let o = one_place n most l in
      rw (← e) (turn i u most (bool_byte (leb most n)) s h refl o.0 ∙ ap (λ (y : ℕ). ToCarry (i - 1) (bool_byte (leb most n)) (set s (i - 1) y)) (taken n most (leb most n) o ∙ sym f))

  pub done : (i over : ℕ) (s : List ℕ) → i ≡ 0 → ToCarry i over s ≡ (s, over)
  unfolding ToCarry
  done i over s e = rw e

-- 24 hours are over once, or not
pub over_is : (n : ℕ) (over : Bool) → bool_byte over ≡ n / 60 / 60 / 60 / 24 → over ≡ leb 5184000 n
over_is n true e = let h : 5184000 ≤ n = omega (arith, e) in sym (le-leb _ _ h)
over_is n false e = let h : n < 5184000 = omega (arith, e) in sym (lt-leb _ _ h)
