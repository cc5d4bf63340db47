-- Stored numbers are read back, and what is read behind a list is read in what follows it.
use Prim.Native.Nat.{ℕ, ◌+◌, ◌*◌, ◌/◌, ◌%◌, ◌<◌}
use mathlib.Core.Path.{◌≡◌, refl}
use mathlib.Core.List.{List, ◌++◌}
use native.Mathlib.Nat.{add_assoc}
use native.Mathlib.Omega.{arith}
use Rattle.std.specs.Int.{w32, to_le_bytes}
use lib.ListN.{length, get_or}
use lib.Seq.{get_or-append-add}
use Rattle.crc32.specs.Crc32.{Bytes}
use Rattle.bank.specs.Number.{u16_at, u32_at, le32}

-- as std's bytes of a number
pub le_bytes : (n : ℕ) → to_le_bytes w32 n ≡ le32 n
unfolding le32
le_bytes n =
    let a : n / 65536 % 256 ≡ n / 256 / 256 % 256 = omega arith in
    let b : n / 16777216 % 256 ≡ n / 256 / 256 / 256 % 256 = omega arith in
    rw (a, b) refl

pub length_le32 : (n : ℕ) → length (le32 n) ≡ 4
unfolding le32
length_le32 n = refl

-- the sum of a number's four bytes
pub u32_sum : (n : ℕ) → n < 4294967296
    → n % 256 + 256 * (n / 256 % 256) + 65536 * (n / 256 / 256 % 256) + 16777216 * (n / 256 / 256 / 256 % 256) ≡ n
u32_sum n h = omega arith

pub u32_back : (n : ℕ) (q : List ℕ) → n < 4294967296 → u32_at (le32 n ++ q) 0 ≡ n
unfolding u32_at le32
u32_back n q h = u32_sum n h

past_get : (p q : List ℕ) (n k : ℕ) → length p ≡ n → get_or (p ++ q) (n + k) 0 ≡ get_or q k 0
past_get p q n k e = rw e at (get_or-append-add p q k 0)

pub past_u32 : (p q : List ℕ) (n k : ℕ) → length p ≡ n → u32_at (p ++ q) (n + k) ≡ u32_at q k
unfolding u32_at
past_u32 p q n k e =
    simp (add_assoc, past_get p q n k e, past_get p q n (k + 1) e, past_get p q n (k + 2) e, past_get p q n (k + 3) e)

-- a number of four bytes
pub u32_lt : (s : List ℕ) (i : ℕ) → Bytes s → u32_at s i < 4294967296
unfolding u32_at
u32_lt s i k = omega (arith, k i, k (i + 1), k (i + 2), k (i + 3))

-- a record's start number, as the code has it
pub start_is : (s : List ℕ) (n : ℕ) → n ≡ get_or s 0 0 + get_or s 1 0 * 256 → n ≡ u16_at s 0
unfolding u16_at
start_is s n e = omega arith

-- and its two bytes
module _ (s : List ℕ) (k : Bytes s) (e : u16_at s 0 ≡ 0x55AA) where
  pub start_low : get_or s 0 0 ≡ 0xAA
  unfolding u16_at
  start_low = omega (arith, k 0, k 1)

  pub start_high : get_or s 1 0 ≡ 0x55
  unfolding u16_at
  start_high = omega (arith, k 0, k 1)
