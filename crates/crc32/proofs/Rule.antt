-- The tables' rule, from a test that antt computes: each entry is eight bit steps of its partner, which is its own place in the first
-- table and the entry 256 places before it in the others.
use mathlib.Core.Path.{◌≡◌, refl, ap, ◌∙◌}
use mathlib.Core.Bool.{Bool, true, false}
use mathlib.Core.List.{List, [], ◌∷◌, ◌++◌, map}
use Prim.Native.Nat.{ℕ, zero, suc, ◌+◌, ◌*◌, ◌<◌}
use native.Mathlib.Nat.{le_of_suc-le-suc, not-suc-le-zero}
use native.Mathlib.Omega.{arith}
use lib.Dec.{T, eqb, eqb→eq}
use lib.ListN.{length, get_or, get_or-append, get_or-map}
use lib.Seq.{get_or-append-add}
use Rattle.crc32.specs.Crc32.{poly_if, bit_step, bit_steps}
use Rattle.crc32.specs.Table.{IsTables}
use Rattle.crc32.proofs.Linear.{steps_add}

unfoldable pub both : Bool → Bool → Bool
both true b = b
both false b = false

both_left : (a b : Bool) → T (both a b) → T a
unfolding both
both_left true b t = tt
both_left false b t = t

both_right : (a b : Bool) → T (both a b) → T b
unfolding both
both_right true b t = t
both_right false b t = absurd t

-- the test: each entry is eight bit steps of its partner
unfoldable pub pairs : List ℕ → List ℕ → Bool
pairs ps [] = true
pairs [] (x ∷ xs) = false
pairs (p ∷ ps) (x ∷ xs) = both (eqb x (bit_steps 8 p)) (pairs ps xs)

pair_at : (ps xs : List ℕ) → T (pairs ps xs) → (k : ℕ) → k < length xs → get_or xs k 0 ≡ bit_steps 8 (get_or ps k 0)
unfolding pairs
pair_at ps [] t k h = absurd (not-suc-le-zero h)
pair_at [] (x ∷ xs) t k h = absurd t
pair_at (p ∷ ps) (x ∷ xs) t zero h = eqb→eq x (bit_steps 8 p) (both_left (eqb x (bit_steps 8 p)) (pairs ps xs) t)
pair_at (p ∷ ps) (x ∷ xs) t (suc k) h =
    pair_at ps xs (both_right (eqb x (bit_steps 8 p)) (pairs ps xs) t) k (le_of_suc-le-suc h)

-- n numbers from i on
unfoldable pub count : ℕ → ℕ → List ℕ
count zero i = []
count (suc n) i = i ∷ count n (suc i)

count_at : (n i k : ℕ) → k < n → get_or (count n i) k 0 ≡ i + k
unfolding count
count_at zero i k h = absurd (not-suc-le-zero h)
count_at (suc n) i zero h = omega arith
count_at (suc n) i (suc k) h =
    let e : suc i + k ≡ i + suc k = omega arith in count_at n (suc i) k (le_of_suc-le-suc h) ∙ e

count_length : length (count 256 0) ≡ 256
unfolding count
count_length = refl

-- each row by the one before it, and the first by the bytes themselves
rows_at : (xs : List ℕ) → T (pairs (count 256 0 ++ xs) xs) → (n : ℕ) → length xs ≡ n * 256
    → (j k : ℕ) → j < n → k < 256 → get_or xs (j * 256 + k) 0 ≡ bit_steps (8 * (j + 1)) k
rows_at xs t n len zero k hj hk =
    let e : 0 * 256 + k ≡ k = omega arith in
    let z : 0 + k ≡ k = omega arith in
    ap (λ (i : ℕ). get_or xs i 0) e ∙ pair_at (count 256 0 ++ xs) xs t k (omega arith)
    ∙ ap (bit_steps 8) (get_or-append (count 256 0) xs 0 k (omega (arith, count_length)) ∙ count_at 256 0 k hk ∙ z)
rows_at xs t n len (suc j) k hj hk =
    let e : suc j * 256 + k ≡ length (count 256 0) + (j * 256 + k) = omega (arith, count_length) in
    let m : 8 * (j + 1) + 8 ≡ 8 * (suc j + 1) = omega arith in
    pair_at (count 256 0 ++ xs) xs t (suc j * 256 + k) (omega arith)
    ∙ ap (bit_steps 8)
    (ap (λ (i : ℕ). get_or (count 256 0 ++ xs) i 0) e ∙ get_or-append-add (count 256 0) xs (j * 256 + k) 0 ∙ rows_at xs t n len j k (omega arith) hk)
    ∙ steps_add (8 * (j + 1)) 8 k
    ∙ ap (λ (i : ℕ). bit_steps i k) m

pub tables_rule : (n : ℕ) (xs : List ℕ) → T (pairs (count 256 0 ++ xs) xs) → length xs ≡ n * 256 → IsTables n xs
tables_rule n xs t len = record { rule = rows_at xs t n len }

-- the first row alone, and the further ones behind it

-- each entry of the table of 256
pub entries : (xs : List ℕ) → T (pairs (count 256 0) xs) → length xs ≡ 256 → (k : ℕ) → k < 256 → get_or xs k 0 ≡ bit_steps 8 k
entries xs t len k h =
    let e : 0 + k ≡ k = omega arith in
    pair_at (count 256 0) xs t k (omega arith) ∙ ap (bit_steps 8) (count_at 256 0 k h ∙ e)

pub first_table : (xs : List ℕ) → T (pairs (count 256 0) xs) → length xs ≡ 256 → IsTables 1 xs
first_table xs t len = record { rule = one }
  where
    one : (j k : ℕ) → j < 1 → k < 256 → get_or xs (j * 256 + k) 0 ≡ bit_steps (8 * (j + 1)) k
    one zero k hj hk = let e : 0 * 256 + k ≡ k = omega arith in ap (λ (i : ℕ). get_or xs i 0) e ∙ entries xs t len k hk
    one (suc j) k hj hk = absurd (omega arith)

-- what the first table holds, by its rule
unfoldable pub firsts : List ℕ
firsts = map (bit_steps 8) (count 256 0)

firsts_at : (k : ℕ) → k < 256 → get_or firsts k 0 ≡ bit_steps 8 k
unfolding firsts bit_steps bit_step poly_if
firsts_at k h =
    let e : 0 + k ≡ k = omega arith in
    get_or-map (bit_steps 8) (count 256 0) k 0 ∙ ap (bit_steps 8) (count_at 256 0 k h ∙ e)

firsts_length : length firsts ≡ 256
unfolding firsts count
firsts_length = refl

pub further : (n : ℕ) (ys : List ℕ) → T (pairs (firsts ++ ys) ys) → length ys ≡ n * 256
    → (j k : ℕ) → j < n → k < 256 → get_or ys (j * 256 + k) 0 ≡ bit_steps (8 * (j + 2)) k
further n ys u ly zero k hj hk =
    let e : 0 * 256 + k ≡ k = omega arith in
    ap (λ (i : ℕ). get_or ys i 0) e ∙ pair_at (firsts ++ ys) ys u k (omega arith)
    ∙ ap (bit_steps 8) (get_or-append firsts ys 0 k (omega (arith, firsts_length)) ∙ firsts_at k hk)
    ∙ steps_add 8 8 k
further n ys u ly (suc j) k hj hk =
    let e : suc j * 256 + k ≡ length firsts + (j * 256 + k) = omega (arith, firsts_length) in
    let m : 8 * (j + 2) + 8 ≡ 8 * (suc j + 2) = omega arith in
    pair_at (firsts ++ ys) ys u (suc j * 256 + k) (omega arith)
    ∙ ap (bit_steps 8)
    (ap (λ (i : ℕ). get_or (firsts ++ ys) i 0) e ∙ get_or-append-add firsts ys (j * 256 + k) 0 ∙ further n ys u ly j k (omega arith) hk)
    ∙ steps_add (8 * (j + 2)) 8 k
    ∙ ap (λ (i : ℕ). bit_steps i k) m
