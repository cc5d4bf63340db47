-- A number's forms: its shortest, group by group and by its length; that it is the shortest, and the only one so short.
use Prim.Native.Nat.{ℕ, zero, suc, ◌+◌, ◌*◌, ◌/◌, ◌%◌, ◌≤◌, ◌<◌}
use mathlib.Core.Path.{◌≡◌, refl, sym, ap, ap₂, ◌∙◌}
use mathlib.Core.List.{List, [], ◌∷◌}
use mathlib.Core.Bool.{Bool, true, false}
use native.Mathlib.Omega.{arith}
use lib.Dec.{ltb}
use lib.ListN.{length}
use borrow.Author.Tests.{lt-ltb, le-ltb, ltb-true, ltb-false}
use Rattle.leb128.specs.Leb128.{encoded_by, encoded}

enough : (a b n : ℕ) → n ≤ a → n ≤ b → encoded_by a n ≡ encoded_by b n
unfolding encoded_by
enough zero zero n p q = refl
enough zero (suc b) n p q = let h : n < 128 = omega arith in simp (lt-ltb n 128 h)
enough (suc a) zero n p q = let h : n < 128 = omega arith in simp (lt-ltb n 128 h)
enough (suc a) (suc b) n p q = rw (enough a b (n / 128) (omega arith) (omega arith))

pub encoded_small : (n : ℕ) → n < 128 → encoded n ≡ n ∷ []
unfolding encoded encoded_by
encoded_small zero h = refl
encoded_small (suc n) h = simp (lt-ltb (suc n) 128 h)

pub encoded_large : (n : ℕ) → 128 ≤ n → encoded n ≡ (128 + n % 128) ∷ encoded (n / 128)
unfolding encoded encoded_by
encoded_large zero h = absurd (omega arith)
encoded_large (suc n) h =
    simp (le-ltb (suc n) 128 h)
    (ap (λ (x : List ℕ). (128 + suc n % 128) ∷ x) (enough n (suc n / 128) (suc n / 128) (omega arith) (omega arith)))

-- how many bytes
pub size_small : (n : ℕ) → n < 128 → length (encoded n) ≡ 1
size_small n h = rw (encoded_small n h)

pub size_large : (n : ℕ) → 128 ≤ n → length (encoded n) ≡ 1 + length (encoded (n / 128))
size_large n h = rw (encoded_large n h) (omega arith)

-- by whether one group is enough
pub by_size : (P : ℕ → Type 0) (n : ℕ) → (n < 128 → P n) → (128 ≤ n → P n) → P n
by_size P n f g = go (ltb n 128) refl
  where
    go : (t : Bool) → ltb n 128 ≡ t → P n
    go true e = f (ltb-true _ _ e)
    go false e = g (ltb-false _ _ e)

-- and so on, group by group
pub by_groups : (P : ℕ → Type 0) → ((n : ℕ) → n < 128 → P n) → ((n : ℕ) → 128 ≤ n → P (n / 128) → P n) → (n : ℕ) → P n
by_groups P small large n = go n n (omega arith)
  where
    go : (most m : ℕ) → m ≤ most → P m
    go zero m h = small m (omega arith)
    go (suc most) m h = by_size P m (small m) (λ l. large m l (go most (m / 128) (omega arith)))

pub size_some : (n : ℕ) → 1 ≤ length (encoded n)
size_some n = by_size (λ m. 1 ≤ length (encoded m)) n (λ h. omega (arith, size_small n h)) (λ h. omega (arith, size_large n h))

-- a number with a group in front
pub group_large : (g n : ℕ) → g < 128 → 128 ≤ g + 128 * n → encoded (g + 128 * n) ≡ (128 + g) ∷ encoded n
group_large g n l h =
    let p : (g + 128 * n) % 128 ≡ g = omega arith in
    let q : (g + 128 * n) / 128 ≡ n = omega arith in
    encoded_large (g + 128 * n) h ∙ ap₂ (λ (a b : ℕ). (128 + a) ∷ encoded b) p q

-- the bytes x are a form of the number n: groups of seven bits, lowest first, the top bit set on all but the last, however many
pub data Groups : List ℕ → ℕ → Type 0 where
  last_group : {g : ℕ} → g < 128 → Groups (g ∷ []) g
  group : {g n : ℕ} {x : List ℕ} → g < 128 → Groups x n → Groups ((128 + g) ∷ x) (g + 128 * n)

-- the shortest form is one
pub encoded_groups : (n : ℕ) → Groups (encoded n) n
encoded_groups =
    by_groups (λ n. Groups (encoded n) n) (λ n l. rw (encoded_small n l) (last_group l))
    (λ n l f. let e : n % 128 + 128 * (n / 128) ≡ n = omega arith in
    let g : Groups ((128 + n % 128) ∷ encoded (n / 128)) (n % 128 + 128 * (n / 128)) = group (omega arith) f in
    rw (encoded_large n l) (rw e at g))

groups_some : {x : List ℕ} {n : ℕ} → Groups x n → 1 ≤ length x
groups_some (last_group h) = omega arith
groups_some (group h f) = omega arith

-- no form is shorter
pub shortest : {x : List ℕ} {n : ℕ} → Groups x n → length (encoded n) ≤ length x
shortest {n = n} (last_group h) = omega (arith, size_small n h)
shortest (group {g} {n} {x} h f) =
    by_size (λ m. length (encoded m) ≤ suc (length x)) (g + 128 * n) (λ l. omega (arith, size_small (g + 128 * n) l))
    (λ l. omega (arith, ap length (group_large g n h l), shortest f))

-- and none is as short but itself
pub one_form : {x : List ℕ} {n : ℕ} → Groups x n → length x ≡ length (encoded n) → x ≡ encoded n
one_form {n = n} (last_group h) e = sym (encoded_small n h)
one_form (group {g} {n} {x} h f) e =
    by_size (λ m. (128 + g) ∷ x ≡ encoded m) (g + 128 * n) (λ l. absurd (omega (arith, size_small (g + 128 * n) l, groups_some f)))
    (λ l. let d = group_large g n h l in
    ap (λ (y : List ℕ). (128 + g) ∷ y) (one_form f (omega (arith, ap length d))) ∙ sym d)
