-- The book (01, 'A run, its book and the flash'): the banks as headers and records, apart from how they are laid out.
use Rattle.std.specs.Prelude.{ℕ, ◌≤◌, ◌<◌, ◌≡◌, List, [], ◌∷◌, length, get_or, set}
use Rattle.bank.specs.Record.{Record}
use Rattle.bank.specs.Bank.{Bank, Slot, empty, invalid, valid, bank_of}
use Rattle.bank.specs.Totals.{total}
use Rattle.bank.specs.WellFormed.{FineBank}

-- work area for each bank; shut, since an open numeral of this size unrolls in every goal
unfoldable pub part_size : ℕ
part_size = 131072

-- a slot whose part and entry can hold it
abbrev pub FineSlot : Slot → Type 0
FineSlot empty = Unit {0}
FineSlot invalid = Unit {0}
FineSlot (valid b) = FineBank b × (total b ≤ part_size)

pub record Book : Type 0 where
  pub n : ℕ
  pub active : ℕ
  pub slots : List Slot

abbrev pub FineSlots : List Slot → Type 0
FineSlots [] = Unit {0}
FineSlots (s ∷ ss) = FineSlot s × FineSlots ss

-- what every book is that came from an opening
pub record FineBook (b : Book) : Type 0 where
  pub low : 1 ≤ b.n
  pub high : b.n ≤ 16
  pub inside : b.active < b.n
  pub long : length b.slots ≡ b.n
  pub slots_fine : FineSlots b.slots

abbrev pub active_slot : Book → Slot
active_slot b = get_or b.slots b.active invalid

-- bank i becomes active, and holds k
abbrev pub with_bank : Book → ℕ → Bank → Book
with_bank b i k = record { n = b.n; active = i; slots = set b.slots i (valid k) }

-- the book with another bank in the active slot
abbrev pub with_active : Book → Bank → Book
with_active b k = with_bank b b.active k

abbrev pub with_records : Bank → List Record → Bank
with_records k rs = bank_of k.header rs k.usable

-- the size in a Valid bank's header, else none
abbrev pub slot_size : Slot → ℕ
slot_size empty = 0
slot_size invalid = 0
slot_size (valid k) = k.header.size
