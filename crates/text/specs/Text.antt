-- Text as bytes: digits, numbers, and a line of fields.
use Rattle.std.specs.Prelude.{ℕ, zero, suc, ◌+◌, ◌-◌, ◌/◌, ◌%◌, List, [], ◌∷◌, ◌++◌, cond, ltb}

-- the character of a digit below 16: `0` to `9`, then `A` to `F`
unfoldable pub digit : ℕ → ℕ
digit d = cond (ltb d 10) (0x30 + d) (0x41 + (d - 10))

-- hexadecimal, two digits a byte
unfoldable pub hex : List ℕ → List ℕ
hex [] = []
hex (b ∷ s) = digit (b / 16) ∷ digit (b % 16) ∷ hex s

-- the four bytes of a number as they are spelled, greatest first
unfoldable pub be32 : ℕ → List ℕ
be32 n = n / 256 / 256 / 256 % 256 ∷ n / 256 / 256 % 256 ∷ n / 256 % 256 ∷ n % 256 ∷ []

-- most bounds the divisions by ten; a number takes fewer than its own value
unfoldable pub decimal_by : ℕ → ℕ → List ℕ
decimal_by zero n = digit n ∷ []
decimal_by (suc most) n = cond (ltb n 10) (digit n ∷ []) (decimal_by most (n / 10) ++ (digit (n % 10) ∷ []))

unfoldable pub decimal : ℕ → List ℕ
decimal n = decimal_by n n

-- a field and the character behind it
unfoldable pub field : List ℕ → ℕ → List ℕ
field f end = f ++ (end ∷ [])

-- one space parts fields, and a line feed ends the line
unfoldable pub line : List (List ℕ) → List ℕ
line [] = []
line (f ∷ []) = field f 0x0A
line (f ∷ g ∷ fs) = field f 0x20 ++ line (g ∷ fs)
