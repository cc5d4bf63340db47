-- Reading a bank of 65,536 bytes as a slot (01, 'Bank and record').
use Rattle.std.specs.Prelude.{ℕ, Result, Ok, Err, zero, suc, ◌+◌, ◌-◌, List, [], ◌∷◌, Bool, true, false, cond, length, take, drop, ltb, leb, eqb}
use Rattle.crc32.specs.Crc32.{crc32_of}
use Rattle.buffers.specs.Bytes.{all_blank, all_ff, count_ff}
use Rattle.bank.specs.declared.header.StoreHeader.{StoreHeader}
use Rattle.bank.specs.declared.header.HeaderFault.{HeaderFault}
use Rattle.bank.specs.declared.header.HeaderFault.TheVariants.{Signature, Version, Size}
use Rattle.bank.specs.declared.partition.Stop.{Stop}
use Rattle.bank.specs.declared.partition.Stop.TheVariants.{Blank, Start, Length, End, Name, Crc}
use Rattle.bank.specs.Number.{u16_at, u32_at}
use Rattle.bank.specs.Header.{read_header}
use Rattle.bank.specs.Record.{Record, record_of, size_of, name_at, value_at, size_at}
use Rattle.bank.specs.Bank.{Slot, empty, invalid, valid, bank_of}

-- what stands at an offset
pub data Item : Type 0 where
  got : Record → Item
  halt : Stop → Item

-- s is what remains of the 65,536 bytes
unfoldable pub found : List ℕ → Item
found s =
    cond (all_blank (take 36 s)) (halt Blank)
    (cond (eqb (u16_at s 0) 0x55AA)
    (cond (leb (size_at s) (length s))
    (cond (eqb (name_at s) 0) (halt Name)
    (cond (eqb (u32_at s 32) (crc32_of (take (value_at s) (drop (36 + name_at s) s)))) (got (record_of s)) (halt Crc)))
    (halt Length))
    (halt Start))

-- the records read, why reading stopped, and the offset where
pub record Walk : Type 0 where
  pub records : List Record
  pub stop : Stop
  pub at : ℕ

abbrev pub halted : Stop → ℕ → Walk
halted c at = record { records = []; stop = c; at = at }

abbrev pub with_first : Record → Walk → Walk
with_first r w = record { records = r ∷ w.records; stop = w.stop; at = w.at }

unfoldable pub after : Item → ℕ → (ℕ → Walk) → Walk
after (got r) at go = with_first r (go (at + size_of r))
after (halt c) at go = halted c at

-- one turn of the loop `while offset + 36 < size`
unfoldable pub walk_turn : Bool → List ℕ → (ℕ → Walk) → ℕ → Walk
walk_turn true s go at = after (found (drop at s)) at go
walk_turn false s go at = halted End at

-- each record is longer than one byte, so size is turns enough
unfoldable pub walk : ℕ → List ℕ → ℕ → ℕ → Walk
walk zero s size at = halted End at
walk (suc n) s size at = walk_turn (ltb (at + 36) size) s (λ next. walk n s size next) at

unfoldable pub walk_from : List ℕ → ℕ → ℕ → Walk
walk_from s size at = walk size s size at

-- blank: the first later place below size that isn't 0xFF, else size; wrong start or length: the offset; else size
unfoldable pub usable_at : Stop → List ℕ → ℕ → ℕ → ℕ
usable_at Blank s size at = at + 36 + count_ff (take (size - (at + 36)) (drop (at + 36) s))
usable_at Start s size at = at
usable_at Length s size at = at
usable_at End s size at = size
usable_at Name s size at = size
usable_at Crc s size at = size

-- name length 0 and an unequal CRC make the bank Invalid
abbrev pub spoils : Stop → Bool
spoils Blank = false
spoils Start = false
spoils Length = false
spoils End = false
spoils Name = true
spoils Crc = true

unfoldable pub slot_of : List ℕ → StoreHeader → Walk → Slot
slot_of s h w = cond (spoils w.stop) invalid (valid (bank_of h w.records (usable_at w.stop s h.size w.at)))

-- not a header: Empty where all bytes are 0xFF
unfoldable pub erased_slot : List ℕ → Slot
erased_slot s = cond (all_ff s) empty invalid

unfoldable pub after_head : List ℕ → Result StoreHeader HeaderFault → Slot
after_head s (Ok h) = slot_of s h (walk_from s h.size 24)
after_head s (Err Signature) = erased_slot s
after_head s (Err Version) = erased_slot s
after_head s (Err Size) = invalid

unfoldable pub read_bank : List ℕ → Slot
read_bank s = after_head s (read_header s)
