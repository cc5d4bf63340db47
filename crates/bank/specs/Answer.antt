-- What the code answers where the definitions have a slot, an item of the walk or a record's header; and a part as `serialize` leaves it.
use Rattle.std.specs.Prelude.{ℕ, Option, Some, None, Result, Ok, Err, ◌+◌, List, ◌&&◌, cond, length, get_or, take, drop, replicate, leb}
use Rattle.bank.specs.declared.partition.Slot.{Slot}
use Rattle.bank.specs.declared.partition.Slot.TheVariants.{Empty, Invalid, Valid}
use Rattle.bank.specs.declared.partition.Partition.{Partition}
use Rattle.bank.specs.declared.partition.Walked.{Walked}
use Rattle.bank.specs.declared.partition.Stop.{Stop}
use Rattle.bank.specs.declared.variable.VarType.{VarType}
use Rattle.bank.specs.declared.variable.VarHeader.{VarHeader}
use Rattle.bank.specs.Bank as bank
use Rattle.bank.specs.Bank.{Bank, bank_size, of_lent, part_of}
use Rattle.bank.specs.Number.{u32_at}
use Rattle.bank.specs.Record.{size_of, guid_of, name_at, value_at}
use Rattle.bank.specs.Read.{Item, got, halt, Walk, read_bank}
use Rattle.bank.specs.Totals.{total}

unfoldable pub partition_of : Bank → Partition
partition_of b = record { header = b.header; total_used = total b; usable_size = b.usable }

unfoldable pub answer : bank.Slot → Slot
answer bank.empty = Empty
answer bank.invalid = Invalid
answer (bank.valid b) = Valid (partition_of b)

unfoldable pub parsed : List ℕ → Option Slot
parsed s = of_lent None (λ b. Some (answer (read_bank b))) s

-- of what stands at an offset: the record's size, or why reading stops there
unfoldable pub step_of : Item → Result ℕ Stop
step_of (got r) = Ok (size_of r)
step_of (halt c) = Err c

-- where reading stopped, why, and how many records it had read, n of them before this walk
unfoldable pub walked : ℕ → Walk → Walked
walked n w = record { at = w.at; stop = w.stop; count = n + length w.records }

abbrev pub var_header : ℕ → ℕ → ℕ → ℕ → List ℕ → ℕ → VarHeader
var_header state attributes name value guid crc =
    record { state = state; attrs = attributes; name_size = name; data_size = value; guid = guid; crc = crc }

-- the header that begins s; zeros where s is too short for one
unfoldable pub parsed_header : List ℕ → VarHeader
parsed_header s =
    cond (leb 36 (length s)) (var_header (get_or s 2 0) (u32_at s 4) (name_at s) (value_at s) (take 16 (drop 16 s)) (u32_at s 32))
    (var_header 0 0 0 0 (replicate 16 0) 0)

-- the header of a record that is added (01, 'Edits and lookups'): state 0x7F, the type's GUID
unfoldable pub fresh_header : VarType → ℕ → ℕ → ℕ → ℕ → VarHeader
fresh_header typ attributes name value crc = var_header 0x7F attributes name value (guid_of typ) crc

-- a bank's part as it is left for any bytes lent: as it was where the bank or the part is too short
unfoldable pub serialized_slot : List ℕ → List ℕ → Option Slot
serialized_slot s out = cond (leb bank_size (length out)) (parsed s) None

unfoldable pub serialized_part : List ℕ → List ℕ → List ℕ
serialized_part s out =
    cond (leb bank_size (length out) && leb bank_size (length s)) (part_of (length out) (read_bank (take bank_size s))) out
