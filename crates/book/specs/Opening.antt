-- Opening (01, 'Opening'): the book of an image, or the refusal.
use Rattle.std.specs.Prelude.{ℕ, zero, suc, ◌*◌, ◌/◌, List, [], ◌∷◌, Bool, true, false, ◌||◌, cond, length, take, drop, ltb, leb}
use Rattle.bank.specs.Bank.{Slot, empty, invalid, valid, bank_size}
use Rattle.bank.specs.Read.{read_bank}
use Rattle.book.specs.Book.{part_size, Book}

-- bank i's bytes, at its own multiple of 65,536
abbrev pub bank_in : List ℕ → ℕ → List ℕ
bank_in image i = take bank_size (drop (i * bank_size) image)

abbrev pub slot_in : List ℕ → ℕ → Slot
slot_in image i = read_bank (bank_in image i)

-- the image's first n banks
unfoldable pub read_slots : ℕ → List ℕ → List Slot
read_slots zero image = []
read_slots (suc n) image = read_bank (take bank_size image) ∷ read_slots n (drop bank_size image)

-- a Valid bank with a strictly greater generation than the best so far takes over; i counts the banks
unfoldable pub active_from : ℕ → ℕ → ℕ → List Slot → ℕ
active_from i best active [] = active
active_from i best active (empty ∷ ss) = active_from (suc i) best active ss
active_from i best active (invalid ∷ ss) = active_from (suc i) best active ss
active_from i best active (valid b ∷ ss) =
    cond (ltb best b.header.generation) (active_from (suc i) b.header.generation i ss) (active_from (suc i) best active ss)

abbrev pub is_valid : Slot → Bool
is_valid empty = false
is_valid invalid = false
is_valid (valid b) = true

unfoldable pub any_valid : List Slot → Bool
any_valid [] = false
any_valid (s ∷ ss) = is_valid s || any_valid ss

-- n is length ÷ 65,536 rounded down; the rest is ignored
abbrev pub banks_of : List ℕ → ℕ
banks_of image = length image / bank_size

abbrev pub book_of : List Slot → ℕ → Book
book_of slots n = record { n = n; active = active_from 0 0 0 slots; slots = slots }

pub data Opened : Type 0 where
  opened : Book → Opened
  refused : ℕ → Opened

-- refusals 1, 2, 3, 4 in that order, for an image and the length of the work area
unfoldable pub opening : List ℕ → ℕ → Opened
opening image work =
    cond (ltb (length image) bank_size) (refused 1)
    (cond (leb (17 * bank_size) (length image)) (refused 2)
    (cond (ltb work (banks_of image * part_size)) (refused 3)
    (cond (any_valid (read_slots (banks_of image) image)) (opened (book_of (read_slots (banks_of image) image) (banks_of image))) (refused 4))))
