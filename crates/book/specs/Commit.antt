-- A commit and the whole image on the book (01, 'A commit, from the entry down', 'Edits and lookups'; 02, N4).
use Rattle.std.specs.Prelude.{ℕ, ◌+◌, ◌*◌, ◌%◌, List, [], ◌∷◌, ◌++◌, Bool, false, ◌||◌, cond, get_or, ltb, eqb, Option, None, Some}
use Rattle.bank.specs.declared.header.StoreHeader.{StoreHeader}
use Rattle.bank.specs.Record.{live}
use Rattle.bank.specs.Bank.{Bank, Slot, empty, invalid, valid, bank_size, bank_of, output}
use Rattle.bank.specs.Totals.{select, total, live_total}
use Rattle.records.specs.Figures.{system_used, common_used}
use Rattle.book.specs.Book.{Book, with_bank}

-- a commit of the Rust's, or one that works out the live total before it moves (02, N4)
pub data Way : Type 0 where
  old : Way
  careful : Way

-- what a commit is to do: nothing, for a refusal; write the bank where it is; or move it
pub data Judged : Type 0 where
  refuse : ℕ → Judged
  in_place : Judged
  move : Judged

-- by a header, what live records come to by section, and whether a move is due: live system records larger in sum than the header's limit: 9;
-- then common: 10; a move that is due at the last generation: 11
unfoldable pub judge : StoreHeader → ℕ → ℕ → Bool → Judged
judge h system common due =
    cond (ltb h.system_size system) (refuse 9)
    (cond (ltb h.common_size common) (refuse 10) (cond due (cond (eqb h.generation 4294967295) (refuse 11) move) in_place))

-- a careful commit's: besides, a move whose live total exceeds size: 12
unfoldable pub carefully : ℕ → ℕ → Judged → Judged
carefully live size (refuse n) = refuse n
carefully live size in_place = in_place
carefully live size move = cond (ltb size live) (refuse 12) move

unfoldable pub judge_as : Way → StoreHeader → ℕ → ℕ → ℕ → Bool → Judged
judge_as old h system common live due = judge h system common due
judge_as careful h system common live due = carefully live h.size (judge h system common due)

-- a move is due unless total ≤ usable
unfoldable pub due : Bank → Bool
due k = ltb k.usable (total k)

unfoldable pub judge_bank : Way → Bank → Judged
judge_bank way k = judge_as way k.header (system_used k.records) (common_used k.records) (live_total k) (due k)

abbrev pub raised : StoreHeader → StoreHeader
raised h =
    record {
      size = h.size;
      generation = h.generation + 1;
      state = h.state;
      flags = h.flags;
      system_size = h.system_size;
      common_size = h.common_size;
    }

-- the bank that a move makes: generation + 1, the live records in order, usable = size
abbrev pub moved : Bank → Bank
moved k = bank_of (raised k.header) (select live k.records) k.header.size

abbrev pub next_bank : Book → ℕ
next_bank b = (b.active + 1) % b.n

abbrev pub next_slot : Book → Slot
next_slot b = get_or b.slots (next_bank b) invalid

-- the offset of bank i's erase request, which is made unless the slot is Empty
unfoldable pub request : Slot → ℕ → Option ℕ
request empty i = None
request invalid i = Some (i * bank_size)
request (valid k) i = Some (i * bank_size)

-- the new bank becomes active; with two banks or more the old slot stays
abbrev pub moved_book : Book → Bank → Book
moved_book b k = with_bank b (next_bank b) (moved k)

-- the whole image: the Valid banks joined, each at its own size

unfoldable pub slot_output : Slot → List ℕ
slot_output empty = []
slot_output invalid = []
slot_output (valid k) = output k

unfoldable pub image_output : List Slot → List ℕ
image_output [] = []
image_output (s ∷ ss) = slot_output s ++ image_output ss

-- a Valid bank of total > size
unfoldable pub overfull : Slot → Bool
overfull empty = false
overfull invalid = false
overfull (valid k) = ltb k.header.size (total k)

unfoldable pub any_overfull : List Slot → Bool
any_overfull [] = false
any_overfull (s ∷ ss) = overfull s || any_overfull ss
