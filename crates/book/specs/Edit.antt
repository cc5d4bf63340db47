-- Edits as data, what each does to a bank's records and by which number it is refused (01, 'Edits and lookups'; 02, N5).
use Rattle.std.specs.Prelude.{ℕ, ◌+◌, List, [], ◌∷◌, ◌++◌, Bool, false, cond, length, leb, ltb}
use Rattle.crc32.specs.Crc32.{Bytes}
use Rattle.bank.specs.declared.variable.VarType.{VarType}
use Rattle.bank.specs.Record.{Record, size_of}
use Rattle.bank.specs.Bank.{Bank}
use Rattle.bank.specs.Totals.{total}
use Rattle.records.specs.Match.{removed, fresh}
use Rattle.book.specs.Book.{part_size}

-- whose insert it is: `plain` is the clock's, and the Rust's; `barrel` is the chime barrels' (02, N5)
pub data Manner : Type 0 where
  plain : Manner
  barrel : Manner

-- an insert has a key, a value and a type, a remove a key and a type
pub data Edit : Type 0 where
  insert : Manner → List ℕ → List ℕ → VarType → Edit
  remove : List ℕ → VarType → Edit

-- keys and values are bytes, as every slice is
abbrev pub ByteEdit : Edit → Type 0
ByteEdit (insert m key value typ) = Bytes key × Bytes value
ByteEdit (remove key typ) = Bytes key

-- the attributes of the record that an insert appends
abbrev pub attributes_of : Manner → ℕ
attributes_of plain = 0
attributes_of barrel = 0

-- a bank's records after an edit
unfoldable pub edited_by : Edit → List Record → List Record
edited_by (insert m key value typ) rs = removed key typ rs ++ (fresh (attributes_of m) key value typ ∷ [])
edited_by (remove key typ) rs = removed key typ rs

-- the bytes that an edit adds: the size of the record that it appends
unfoldable pub grows : Edit → ℕ
grows (insert m key value typ) = size_of (fresh (attributes_of m) key value typ)
grows (remove key typ) = 0

-- whether a value's length is over the ceiling of a manner (02, N5): the barrel controller has 512 bytes for a value, the clock's limit is the work area's
abbrev pub over_ceiling : Manner → ℕ → Bool
over_ceiling plain long = false
over_ceiling barrel long = ltb 512 long

-- the number by which an insert is refused, or 0, by the value's length and the total that it would bring about: 15 over the ceiling, then 8 where
-- that total is over 131,072
unfoldable pub refused_insert : Manner → ℕ → ℕ → ℕ
refused_insert m long reached = cond (over_ceiling m long) 15 (cond (leb reached part_size) 0 8)

-- that by which an edit of a bank is refused, or 0
unfoldable pub refused_edit : Edit → Bank → ℕ
refused_edit (insert m key value typ) k = refused_insert m (length value) (total k + grows (insert m key value typ))
refused_edit (remove key typ) k = 0
