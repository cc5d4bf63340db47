-- A bank and a slot: what they hold, and a bank's bytes as they would be written.
use Rattle.std.specs.Prelude.{ℕ, ◌-◌, List, ◌++◌, cond, leb, length, take, replicate}
use Rattle.bank.specs.declared.header.StoreHeader.{StoreHeader}
use Rattle.bank.specs.Header.{header_bytes}
use Rattle.bank.specs.Record.{Record, records_bytes}

pub record Bank : Type 0 where
  pub header : StoreHeader
  pub records : List Record
  pub usable : ℕ

abbrev pub bank_of : StoreHeader → List Record → ℕ → Bank
bank_of h rs u = record { header = h; records = rs; usable = u }

-- 01, 'Opening': a slot is Valid, Empty (not a header, all bytes 0xFF) or Invalid
pub data Slot : Type 0 where
  empty : Slot
  invalid : Slot
  valid : Bank → Slot

-- a bank's flash bytes; shut, since an open numeral of this size unrolls in every goal
unfoldable pub bank_size : ℕ
bank_size = 65536

-- of any bytes lent: the first 65,536 are the bank, and fewer are short of one
abbrev pub of_lent : {A : Type 0} → A → (List ℕ → A) → List ℕ → A
of_lent short of s = cond (leb bank_size (length s)) (of (take bank_size s)) short

-- s, and 0xFF after it up to n bytes
unfoldable pub padded : ℕ → List ℕ → List ℕ
padded n s = s ++ replicate (n - length s) 255

-- header and records
unfoldable pub bank_bytes : Bank → List ℕ
bank_bytes b = header_bytes b.header ++ records_bytes b.records

-- a slot's part of n bytes (01, 'Opening'): header and records as they would be written, then 0xFF; all 0xFF where the slot isn't Valid
unfoldable pub part_of : ℕ → Slot → List ℕ
part_of n empty = replicate n 255
part_of n invalid = replicate n 255
part_of n (valid b) = padded n (bank_bytes b)

-- header, all records, and 0xFF up to the header's size
unfoldable pub output : Bank → List ℕ
output k = padded k.header.size (bank_bytes k)
