-- Numbers in groups of seven bits, lowest first, with the top bit set on all but the last group (02, N6): unsigned LEB128.
use Rattle.std.specs.Prelude.{ℕ, zero, suc, ◌+◌, ◌-◌, ◌*◌, ◌/◌, ◌%◌, List, [], ◌∷◌, ◌++◌, Option, Some, None, cond, eqb, ltb, drop}

-- with so many divisions at most
unfoldable pub encoded_by : ℕ → ℕ → List ℕ
encoded_by zero n = n ∷ []
encoded_by (suc most) n = cond (ltb n 128) (n ∷ []) ((128 + n % 128) ∷ encoded_by most (n / 128))

-- a number in its shortest form (proofs/Forms.antt: `shortest`, `one_form`)
unfoldable pub encoded : ℕ → List ℕ
encoded n = encoded_by n n

-- numbers, one after another
unfoldable pub encoded_all : List ℕ → List ℕ
encoded_all [] = []
encoded_all (n ∷ ns) = encoded n ++ encoded_all ns

-- the group g in front of a number: where that is 0, the form is not the shortest
unfoldable pub grouped : ℕ → Option (ℕ × ℕ) → Option (ℕ × ℕ)
grouped g None = None
grouped g (Some (n, k)) = cond (eqb n 0) None (Some (g + 128 * n, k + 1))

-- the number in front of s, of any size, and how many bytes it takes: none where it is cut off
unfoldable pub decoded_groups : List ℕ → Option (ℕ × ℕ)
decoded_groups [] = None
decoded_groups (b ∷ s) = cond (ltb b 128) (Some (b, 1)) (grouped (b - 128) (decoded_groups s))

-- and none where it is 2^32 and more: there is one just where s begins with the shortest form of a number below 2^32
-- (proofs/Decoding.antt: `decoded_leads`, `leads_decoded`)
unfoldable pub below32 : Option (ℕ × ℕ) → Option (ℕ × ℕ)
below32 None = None
below32 (Some (n, k)) = cond (ltb n 4294967296) (Some (n, k)) None

unfoldable pub decoded : List ℕ → Option (ℕ × ℕ)
decoded s = below32 (decoded_groups s)

-- what comes of no number, or of a number and its size
unfoldable pub by_number : {A : Type 0} → Option (ℕ × ℕ) → A → (ℕ → ℕ → A) → A
by_number None none some = none
by_number (Some (n, k)) none some = some n k

-- so many numbers in front of s, as far as there are
unfoldable pub decoded_all : ℕ → List ℕ → List ℕ
decoded_all zero s = []
decoded_all (suc count) s = by_number (decoded s) [] (λ n k. n ∷ decoded_all count (drop k s))
