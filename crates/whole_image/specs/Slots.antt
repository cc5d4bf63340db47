-- That entries and parts of the work area hold some slots, which is what the functions of the whole image are lent.
use Rattle.std.specs.Prelude.{ℕ, ◌≡◌, List, map}
use Rattle.bank.specs.Bank.{Slot, part_of}
use Rattle.book.specs.Book.{part_size, FineSlots}
use Rattle.nvram.specs.declared.state.Entry.{Entry}
use Rattle.nvram.specs.Part.{entry_of}

-- entries and parts hold the slots ss
pub record Slots (entries : List Entry) (parts : List (List ℕ)) (ss : List Slot) : Type 0 where
  pub fine : FineSlots ss
  pub entries_are : entries ≡ map entry_of ss
  pub parts_are : parts ≡ map (part_of part_size) ss
