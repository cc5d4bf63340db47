-- CRC-32 of IEEE 802.3, bit by bit (01, 'Bank and record'): reflected polynomial 0xEDB88320, start and final exclusive-or 0xFFFFFFFF.
use Rattle.std.specs.Prelude.{List, [], ◌∷◌, ℕ, zero, suc, ◌/◌, ◌%◌}
use Rattle.std.specs.Int.Bits.{bit_xor}
use Rattle.buffers.specs.Bytes.{AllBelow}

-- each number is a byte
abbrev pub Bytes : List ℕ → Type 0
Bytes = AllBelow 256

-- the polynomial where the bit shifted out is 1
unfoldable pub poly_if : ℕ → ℕ
poly_if zero = 0
poly_if (suc n) = 0xEDB88320

-- one bit: shift right, and exclusive-or the polynomial where the bit shifted out is 1
unfoldable pub bit_step : ℕ → ℕ
bit_step c = bit_xor (poly_if (c % 2)) (c / 2)

unfoldable pub bit_steps : ℕ → ℕ → ℕ
bit_steps zero c = c
bit_steps (suc n) c = bit_steps n (bit_step c)

-- one byte, lowest bit first
unfoldable pub byte_step : ℕ → ℕ → ℕ
byte_step c b = bit_steps 8 (bit_xor c b)

-- the register after a list of bytes
unfoldable pub byte_steps : ℕ → List ℕ → ℕ
byte_steps c [] = c
byte_steps c (b ∷ bs) = byte_steps (byte_step c b) bs

unfoldable pub crc32_of : List ℕ → ℕ
crc32_of bs = bit_xor (byte_steps 0xFFFFFFFF bs) 0xFFFFFFFF
