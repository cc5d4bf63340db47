-- What the tests of specs/Bytes say of bytes: the same as others, all 0xFF, how many 0xFF in front, 0 or 0xFF; and what `onto` leaves.
use Prim.Native.Nat.{ℕ, zero, suc, ◌+◌, ◌-◌, ◌≤◌, ◌<◌, min}
use mathlib.Core.Path.{◌≡◌, refl, sym, ap, ◌∙◌}
use mathlib.Core.List.{List, [], ◌∷◌, ◌++◌, append-nil}
use mathlib.Core.Bool.{Bool, true, false, ◌&&◌, ◌||◌, cond, and_assoc, true≢false}
use native.Mathlib.Omega.{arith}
use native.Mathlib.Nat.{min-eq_left, min-eq_right}
use lib.Dec.{eqb, leb}
use lib.ListN.{length, get_or, take, drop, replicate, drop_of_length-le, length-drop, length-take, length-append, length-replicate, replicate-append-replicate}
use lib.Seq.{take_all, take_at, drop_at, take-length, drop-length, drop-append-add}
use borrow.Author.Tests.{eq-eqb, ne_eqb, eqb-true, leb-true, leb-false}
use Rattle.buffers.specs.Bytes.{all_ff, all_blank, count_ff, eq_bytes, onto}

-- parts of a run, which lib.ListN lacks
module _ (m n a : ℕ) (h : m ≤ n) where
  replicate_split : replicate n a ≡ replicate m a ++ replicate (n - m) a
  replicate_split =
      let e : m + (n - m) ≡ n = omega arith in sym (replicate-append-replicate m (n - m) a ∙ ap (λ (k : ℕ). replicate k a) e)

  pub take_replicate : take m (replicate n a) ≡ replicate m a
  take_replicate = ap (take m) replicate_split ∙ take_at (replicate m a) (replicate (n - m) a) m (length-replicate m a)

  pub drop_replicate : drop m (replicate n a) ≡ replicate (n - m) a
  drop_replicate = ap (drop m) replicate_split ∙ drop_at (replicate m a) (replicate (n - m) a) m (length-replicate m a)

-- constructors that differ are not equal: `cc` takes such an equation to 0 ≡ 1
pub clash : {A : Type 0} → ◌≡◌ {A = ℕ} 0 1 → A
clash e = absurd (omega (arith, e))

-- what holds in both cases of a test
pub by_test : {A : Type 0} (P : A → Type 0) (t : Bool) (x y : A) → (t ≡ true → P x) → (t ≡ false → P y) → P (cond t x y)
by_test P true x y f g = f refl
by_test P false x y f g = g refl

-- equality
pub eq_bytes_lem : (a b : List ℕ) → eq_bytes a b ≡ true → a ≡ b
unfolding eq_bytes
eq_bytes_lem [] [] h = refl
eq_bytes_lem [] (y ∷ b) h = absurd (true≢false (sym h))
eq_bytes_lem (x ∷ a) [] h = absurd (true≢false (sym h))
eq_bytes_lem (x ∷ a) (y ∷ b) h = go (eqb x y) refl (eq_bytes_lem a b) h
  where
    go : (t : Bool) → eqb x y ≡ t → (eq_bytes a b ≡ true → a ≡ b) → (t && eq_bytes a b) ≡ true → x ∷ a ≡ y ∷ b
    go true e k h = let p : x ≡ y = eqb-true x y e in let q : a ≡ b = k h in cc
    go false e k h = absurd (true≢false (sym h))

pub eq_bytes_refl : (a : List ℕ) → eq_bytes a a ≡ true
unfolding eq_bytes
eq_bytes_refl [] = refl
eq_bytes_refl (x ∷ a) = rw (eq-eqb x x refl) (eq_bytes_refl a)

-- all bytes 0xFF
pub all_ff_eq : (s : List ℕ) → all_ff s ≡ eq_bytes s (replicate (length s) 255)
unfolding all_ff eq_bytes
all_ff_eq [] = refl
all_ff_eq (x ∷ s) = rw (all_ff_eq s)

pub all_ff_is : (s : List ℕ) → all_ff s ≡ true → s ≡ replicate (length s) 255
all_ff_is s h = eq_bytes_lem s (replicate (length s) 255) (sym (all_ff_eq s) ∙ h)

pub all_ff_replicate : (n : ℕ) → all_ff (replicate n 255) ≡ true
unfolding all_ff
all_ff_replicate zero = refl
all_ff_replicate (suc n) = all_ff_replicate n

pub all_ff_append : (s t : List ℕ) → all_ff (s ++ t) ≡ (all_ff s && all_ff t)
unfolding all_ff
all_ff_append [] t = refl
all_ff_append (x ∷ s) t = rw (all_ff_append s t) (sym (and_assoc (eqb x 255) (all_ff s) (all_ff t)))

-- the bytes 0xFF in front
pub count_ff_append : (n : ℕ) (t : List ℕ) → count_ff (replicate n 255 ++ t) ≡ n + count_ff t
unfolding count_ff
count_ff_append zero t = omega arith
count_ff_append (suc n) t = let e : count_ff (replicate n 255 ++ t) ≡ n + count_ff t = count_ff_append n t in omega arith

pub count_ff_replicate : (n : ℕ) → count_ff (replicate n 255) ≡ n
unfolding count_ff
count_ff_replicate n = ap count_ff (sym (append-nil (replicate n 255))) ∙ count_ff_append n [] ∙ omega arith

pub count_ff_take : (s : List ℕ) → take (count_ff s) s ≡ replicate (count_ff s) 255
unfolding count_ff
count_ff_take [] = refl
count_ff_take (x ∷ s) = go (eqb x 255) refl (count_ff_take s)
  where
    go : (t : Bool) → eqb x 255 ≡ t → take (count_ff s) s ≡ replicate (count_ff s) 255
        → take (cond t (suc (count_ff s)) 0) (x ∷ s) ≡ replicate (cond t (suc (count_ff s)) 0) 255
    go true e k = let p : x ≡ 255 = eqb-true x 255 e in cc
    go false e k = refl

pub count_ff_le : (s : List ℕ) → count_ff s ≤ length s
count_ff_le s =
    let n = count_ff s in
    let e : length (take n s) ≡ n = ap length (count_ff_take s) ∙ length-replicate n 255 in
    omega (arith, e, length-take n s)

-- all bytes 0 or 0xFF
pub all_blank_ff : (n : ℕ) → all_blank (replicate n 255) ≡ true
unfolding all_blank
all_blank_ff zero = refl
all_blank_ff (suc n) = all_blank_ff n

pub all_blank_head : (s : List ℕ) → (get_or s 0 0 ≡ 0 → ⊥) → (get_or s 0 0 ≡ 255 → ⊥) → all_blank s ≡ false
unfolding all_blank
all_blank_head [] h k = absurd (h refl)
all_blank_head (x ∷ s) h k = simp (ne_eqb x 0 h, ne_eqb x 255 k)

-- one list over the front of another
module _ (src dst : List ℕ) where
  -- by the bytes that are copied
  pub onto_front : onto src dst ≡ take (min (length src) (length dst)) src ++ drop (min (length src) (length dst)) dst
  unfolding onto
  onto_front = go (leb (length src) (length dst)) refl
    where
      go : (t : Bool) → leb (length src) (length dst) ≡ t
          → take (length dst) src ++ drop (length src) dst ≡ take (min (length src) (length dst)) src ++ drop (min (length src) (length dst)) dst
      go true e =
          let h : length src ≤ length dst = leb-true _ _ e in
          rw (min-eq_left h, take_all (length dst) src h, take-length src)
      go false e =
          let h : length dst < length src = leb-false _ _ e in
          let k : length dst ≤ length src = omega arith in
          rw (min-eq_right k, drop-length dst, drop_of_length-le dst k)

  pub length_onto : length (onto src dst) ≡ length dst
  unfolding onto
  length_onto = simp (length-append, length-take, length-drop) (omega arith)

  pub onto_fits : length src ≤ length dst → onto src dst ≡ src ++ drop (length src) dst
  unfolding onto
  onto_fits h = rw (take_all (length dst) src h)

pub past_drop : (p q : List ℕ) (n k : ℕ) → length p ≡ n → drop (n + k) (p ++ q) ≡ drop k q
past_drop p q n k e = rw e at (drop-append-add p q k)

pub and_both : (a b : Bool) → (a && b) ≡ true → (a ≡ true) × (b ≡ true)
and_both true b e = (refl, e)
and_both false b e = let z : ◌≡◌ {A = ℕ} 0 1 = cc in absurd (omega arith)

pub neither : (a b : Bool) → (a || b) ≡ false → (a ≡ false) × (b ≡ false)
neither false b e = (refl, e)
neither true b e = absurd (true≢false e)
