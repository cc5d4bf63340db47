-- Records as they stand in a bank that was read, before their reserved and closing bytes are zeroed (01, 'Bank and record').
use Rattle.std.specs.Prelude.{ℕ, ◌<◌, List, [], ◌∷◌, ◌++◌, ◌≡◌, length}
use Rattle.crc32.specs.Crc32.{crc32_of, Bytes}
use Rattle.bank.specs.Number.{u16_at, u32_at}
use Rattle.bank.specs.Record.{Record, record_of, name_at, size_at}

-- x is one record, its reserved and closing bytes as they may be
pub record Whole (x : List ℕ) : Type 0 where
  pub bytes : Bytes x
  pub starts : u16_at x 0 ≡ 0x55AA
  pub long : length x ≡ size_at x
  pub named : 0 < name_at x
  pub summed : u32_at x 32 ≡ crc32_of (record_of x).value

-- the bytes x are the records rs
pub data Raw : List ℕ → List Record → Type 0 where
  none : Raw [] []
  one : {x rest : List ℕ} {rs : List Record} → Whole x → Raw rest rs → Raw (x ++ rest) (record_of x ∷ rs)
