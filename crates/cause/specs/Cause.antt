-- Why reading a bank stopped (request N2, 'Which byte spoils a bank'), by the reader's own `read_header` and `walk_from`.
use Rattle.std.specs.Prelude.{ℕ, Option, Some, None, Result, Ok, Err, ◌+◌, List, Bool, true, false, cond}
use Rattle.buffers.specs.Bytes.{all_ff}
use Rattle.bank.specs.declared.header.StoreHeader.{StoreHeader}
use Rattle.bank.specs.declared.header.HeaderFault.{HeaderFault}
use Rattle.bank.specs.declared.header.HeaderFault.TheVariants as fault
use Rattle.bank.specs.declared.partition.Stop.{Stop}
use Rattle.bank.specs.declared.partition.Stop.TheVariants as stop
use Rattle.bank.specs.declared.partition.Slot.{Slot}
use Rattle.bank.specs.declared.partition.Slot.TheVariants as slot
use Rattle.bank.specs.declared.partition.Walked.{Walked}
use Rattle.bank.specs.Header.{read_header}
use Rattle.bank.specs.Bank.{of_lent}
use Rattle.bank.specs.Read.{walk_from}
use Rattle.bank.specs.Answer.{walked}
use Rattle.cause.specs.declared.Spot.{Spot}
use Rattle.cause.specs.declared.Cause.{Cause}
use Rattle.cause.specs.declared.Cause.TheVariants.{Short, Empty, Signature, Version, Size, Name, Crc, Blank, Start, Length, End}

abbrev pub spot : ℕ → ℕ → Spot
spot place index = record { place = place; index = index }

-- reading stopped at an offset, with so many records read: a name length is 8 and a CRC 32 past a record's start
abbrev pub stop_cause : Stop → ℕ → ℕ → Cause
stop_cause stop.Blank at index = Blank
stop_cause stop.Start at index = Start
stop_cause stop.Length at index = Length
stop_cause stop.End at index = End
stop_cause stop.Name at index = Name (spot (at + 8) index)
stop_cause stop.Crc at index = Crc (spot (at + 32) index)

abbrev pub walk_cause : Walked → Cause
walk_cause w = stop_cause w.stop w.at w.count

-- an erased bank is empty before its signature is wrong
unfoldable pub head_cause : List ℕ → Result StoreHeader HeaderFault → Cause
head_cause s (Err fault.Signature) = cond (all_ff s) Empty Signature
head_cause s (Err fault.Version) = Version
head_cause s (Err fault.Size) = Size
head_cause s (Ok h) = walk_cause (walked 0 (walk_from s h.size 24))

unfoldable pub bank_cause : List ℕ → Cause
bank_cause s = head_cause s (read_header s)

unfoldable pub cause_of : List ℕ → Cause
cause_of s = of_lent Short bank_cause s

-- place and index, 0 where a cause has none
abbrev pub spot_of : Cause → Spot
spot_of Short = spot 0 0
spot_of Empty = spot 0 0
spot_of Signature = spot 0 0
spot_of Version = spot 14 0
spot_of Size = spot 4 0
spot_of (Name p) = p
spot_of (Crc p) = p
spot_of Blank = spot 0 0
spot_of Start = spot 0 0
spot_of Length = spot 0 0
spot_of End = spot 0 0

-- the causes that make a bank Invalid
abbrev pub is_fault : Cause → Bool
is_fault Short = false
is_fault Empty = false
is_fault Signature = true
is_fault Version = true
is_fault Size = true
is_fault (Name p) = true
is_fault (Crc p) = true
is_fault Blank = false
is_fault Start = false
is_fault Length = false
is_fault End = false

-- that it is, as `banklist` says (proofs/CauseLaws.antt, `invalid_fault`)
abbrev pub is_invalid : Option Slot → Bool
is_invalid None = false
is_invalid (Some slot.Empty) = false
is_invalid (Some slot.Invalid) = true
is_invalid (Some (slot.Valid p)) = false
