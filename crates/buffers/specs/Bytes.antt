-- Numbers put over others, numbers below a bound, and tests of bytes: all 0xFF, all 0 or 0xFF, how many 0xFF in front, the same as others.
use Rattle.std.specs.Prelude.{ℕ, ◌+◌, ◌<◌, suc, List, [], ◌∷◌, ◌++◌, Bool, true, false, ◌&&◌, ◌||◌, cond, length, get_or, take, drop, eqb}

-- each is below m: below 256, as those of a `&[u8]` are
abbrev pub AllBelow : ℕ → List ℕ → Type 0
AllBelow m l = (i : ℕ) → get_or l i 0 < m

-- w with x over it from a place on
unfoldable pub over : ℕ → List ℕ → List ℕ → List ℕ
over at x w = take at w ++ (x ++ drop (at + length x) w)

-- each byte is 0xFF
unfoldable pub all_ff : List ℕ → Bool
all_ff [] = true
all_ff (x ∷ s) = eqb x 255 && all_ff s

-- each byte is 0 or 0xFF (01, 'Bank and record')
unfoldable pub all_blank : List ℕ → Bool
all_blank [] = true
all_blank (x ∷ s) = (eqb x 0 || eqb x 255) && all_blank s

-- how many bytes 0xFF stand in front
unfoldable pub count_ff : List ℕ → ℕ
count_ff [] = 0
count_ff (x ∷ s) = cond (eqb x 255) (suc (count_ff s)) 0

-- the same bytes, and as many
unfoldable pub eq_bytes : List ℕ → List ℕ → Bool
eq_bytes [] [] = true
eq_bytes [] (y ∷ b) = false
eq_bytes (x ∷ a) [] = false
eq_bytes (x ∷ a) (y ∷ b) = eqb x y && eq_bytes a b

-- `dst` with `src` over its front, as far as `dst` goes
unfoldable pub onto : List ℕ → List ℕ → List ℕ
onto src dst = take (length dst) src ++ drop (length src) dst
