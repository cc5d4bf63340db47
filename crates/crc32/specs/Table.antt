-- The same by tables of 256 entries, one after the other: row j has what 8 × (j + 1) bit steps make of each byte.
-- The forms below are defined for any list of entries; `IsTables` says which lists make them the CRC-32.
use Rattle.std.specs.Prelude.{◌≡◌, List, [], ◌∷◌, ℕ, zero, suc, ◌+◌, ◌*◌, ◌/◌, ◌<◌, length, take, drop, get_or}
use Rattle.std.specs.Int.Bits.{bit_xor, bit_and}
use Rattle.crc32.specs.Crc32.{bit_steps}

pub record IsTables (n : ℕ) (t : List ℕ) : Type 0 where
  pub rule : (j k : ℕ) → j < n → k < 256 → get_or t (j * 256 + k) 0 ≡ bit_steps (8 * (j + 1)) k

-- the entry of a row for a number's low byte
unfoldable pub table_entry : List ℕ → ℕ → ℕ → ℕ
table_entry t row x = get_or t (row * 256 + bit_and x 255) 0

-- a byte at a time
unfoldable pub by_bytes : List ℕ → ℕ → List ℕ → ℕ
by_bytes t c [] = c
by_bytes t c (b ∷ bs) = by_bytes t (bit_xor (table_entry t 0 (bit_xor c b)) (c / 256)) bs

-- the number in some bytes, least byte first
unfoldable pub number_of : List ℕ → ℕ
number_of [] = 0
number_of (b ∷ bs) = b + 256 * number_of bs

-- what the n low bytes of a number add with `after` bytes behind them: each by the row for as many bytes as come after it
unfoldable pub shares_of : List ℕ → ℕ → ℕ → ℕ → ℕ
shares_of t after zero x = 0
shares_of t after (suc n) x = bit_xor (table_entry t (after + n) x) (shares_of t after n (x / 256))

-- the same of some bytes, the register joined to them
unfoldable pub shares : List ℕ → ℕ → ℕ → List ℕ → ℕ
shares t after c bs = shares_of t after (length bs) (bit_xor c (number_of bs))

-- sixteen bytes: the last twelve do not depend on the register
unfoldable pub block : List ℕ → ℕ → List ℕ → ℕ
block t c bs = bit_xor (shares t 0 0 (drop 4 bs)) (shares t 12 c (take 4 bs))

-- n times w bytes by f, then the rest by g
unfoldable pub times : ℕ → ℕ → (ℕ → List ℕ → ℕ) → (ℕ → List ℕ → ℕ) → ℕ → List ℕ → ℕ
times zero w f g c bs = g c bs
times (suc n) w f g c bs = times n w f g (f c (take w bs)) (drop w bs)

-- w bytes at a time by f, and fewer by g
unfoldable pub in_runs : ℕ → (ℕ → List ℕ → ℕ) → (ℕ → List ℕ → ℕ) → ℕ → List ℕ → ℕ
in_runs w f g c bs = times (length bs / w) w f g c bs

unfoldable pub by_words : List ℕ → ℕ → List ℕ → ℕ
by_words t c bs = in_runs 4 (shares t 0) (by_bytes t) c bs

unfoldable pub by_blocks : List ℕ → ℕ → List ℕ → ℕ
by_blocks t c bs = in_runs 16 (block t) (by_words t) c bs

unfoldable pub crc32_by : List ℕ → List ℕ → ℕ
crc32_by t bs = bit_xor (by_blocks t 0xFFFFFFFF bs) 0xFFFFFFFF
