-- What the cause that is named says of a bank's bytes (request N2): it holds, every record before its own was read, and no earlier one holds. No
-- reader is in these words. `cause_named` and `named_only` (proofs/NamedLaws.antt): the reader's cause is Named, and no other is.
use Rattle.std.specs.Prelude.{ℕ, ◌+◌, ◌≤◌, ◌<◌, ◌≡◌, List, true, length, get_or, take, drop, replicate}
use Rattle.crc32.specs.Crc32.{crc32_of}
use Rattle.buffers.specs.Bytes.{all_blank}
use Rattle.bank.specs.Number.{u16_at, u32_at}
use Rattle.bank.specs.Header.{signature}
use Rattle.bank.specs.Record.{name_at, value_at, size_at}
use Rattle.bank.specs.Bank.{bank_size}
use Rattle.cause.specs.Cause.{spot}
use Rattle.cause.specs.declared.Cause.{Cause}
use Rattle.cause.specs.declared.Cause.TheVariants.{Short, Empty, Signature, Version, Size, Name, Crc, Blank, Start, Length, End}

-- the order: of the bank, then of each record
abbrev pub rank : Cause → ℕ
rank Short = 0
rank Empty = 1
rank Signature = 2
rank Version = 3
rank Size = 4
rank End = 5
rank Blank = 6
rank Start = 7
rank Length = 8
rank (Name p) = 9
rank (Crc p) = 10

-- a cause holds in the bank s, at the record of this index, which begins at this offset
abbrev pub HoldsAt : List ℕ → ℕ → ℕ → Cause → Type 0
HoldsAt s index at Short = length s < bank_size
HoldsAt s index at Empty = s ≡ replicate (length s) 0xFF
HoldsAt s index at Signature = take 4 s ≡ signature → ⊥
HoldsAt s index at Version = get_or s 14 0 ≡ 1 → ⊥
HoldsAt s index at Size = (24 ≤ u32_at s 4) × (u32_at s 4 ≤ 65536) → ⊥
HoldsAt s index at End = u32_at s 4 ≤ at + 36
HoldsAt s index at Blank = all_blank (take 36 (drop at s)) ≡ true
HoldsAt s index at Start = u16_at (drop at s) 0 ≡ 0x55AA → ⊥
HoldsAt s index at Length = length (drop at s) < size_at (drop at s)
HoldsAt s index at (Name p) = (name_at (drop at s) ≡ 0) × (p ≡ spot (at + 8) index)
HoldsAt s index at (Crc p) =
    (u32_at (drop at s) 32 ≡ crc32_of (take (value_at (drop at s)) (drop (36 + name_at (drop at s)) (drop at s))) → ⊥) × (p ≡ spot (at + 32) index)

-- the record of an index begins at an offset: the first at 24, each other where the one before ends, in which no cause holds
pub data Begins (s : List ℕ) : ℕ → ℕ → Type 0 where
  behind_header : Begins s 0 24
  behind_record : {index at : ℕ} → Begins s index at → ((c : Cause) → HoldsAt s index at c → ⊥) → Begins s (index + 1) (at + size_at (drop at s))

pub record Named (s : List ℕ) (c : Cause) : Type 0 where
  pub index : ℕ
  pub at : ℕ
  pub begins : Begins s index at
  pub holds : HoldsAt s index at c
  pub earliest : (d : Cause) → rank d < rank c → HoldsAt s index at d → ⊥
