-- Calls as data, and what each does to the book and answers (01, 'A commit, from the entry down', 'Edits and lookups', 'Refusals'; 02, N3, N4, N7).
use Rattle.std.specs.Prelude.{ℕ, zero, suc, ◌+◌, ◌*◌, ◌≡◌, ◌≢◌, List, [], Bool, true, false, cond, leb, ltb, length, Option, None}
use Rattle.crc32.specs.Crc32.{Bytes}
use Rattle.bank.specs.declared.variable.VarType.{VarType}
use Rattle.bank.specs.Bank.{Bank, Slot, empty, invalid, valid, bank_size, output}
use Rattle.bank.specs.Totals.{live_total}
use Rattle.records.specs.declared.edit.Found.{Found}
use Rattle.records.specs.declared.figures.Figures.{Figures}
use Rattle.records.specs.Match.{found_in, value_in}
use Rattle.records.specs.Figures.{figures_of, no_figures}
use Rattle.tally.specs.declared.Caller.{Caller}
use Rattle.book.specs.Edit.{Edit, ByteEdit, edited_by, refused_edit}
use Rattle.book.specs.Book.{part_size, Book, active_slot, with_active, with_records}
use Rattle.book.specs.Commit.{Way, old, careful, Judged, refuse, in_place, move, judge_bank, moved, next_bank, next_slot, request, moved_book, image_output, any_overfull}

-- lookup answers the place, fetch the bytes themselves, figures what the active bank's records come to; a commit is told who commits, for the
-- tallies alone; of a lent output a commit and a whole image see the length
pub data Call : Type 0 where
  edit : Edit → Call
  lookup : List ℕ → VarType → Call
  fetch : List ℕ → VarType → Call
  figures : Call
  commit : Way → Caller → ℕ → Call
  whole_image : ℕ → Call

-- keys and values are bytes, as every slice is
abbrev pub ByteCall : Call → Type 0
ByteCall (edit e) = ByteEdit e
ByteCall (lookup key typ) = Bytes key
ByteCall (fetch key typ) = Bytes key
ByteCall figures = Unit {0}
ByteCall (commit way caller room) = Unit {0}
ByteCall (whole_image room) = Unit {0}

-- a refusal's number, 0 where accepted; a lookup that is accepted finds something or nothing; bytes that are fetched have no number; figures
-- are zeros where they are refused; a commit answers an optional erase request's offset, the write's offset and its length; a whole image its
-- length
pub data Answer : Type 0 where
  edited : ℕ → Answer
  looked : ℕ → Option Found → Answer
  handed : Answer
  summed : ℕ → Figures → Answer
  committed : ℕ → Option ℕ → ℕ → ℕ → Answer
  joined : ℕ → ℕ → Answer

abbrev pub number : Answer → ℕ
number (edited k) = k
number (looked k f) = k
number handed = 0
number (summed k f) = k
number (committed k e offset long) = k
number (joined k long) = k

-- the erase request that an answer makes
abbrev pub erase : Answer → Option ℕ
erase (edited k) = None
erase (looked k f) = None
erase handed = None
erase (summed k f) = None
erase (committed k e offset long) = e
erase (joined k long) = None

-- the answer of a call that is refused by a number
abbrev pub refusal : Call → ℕ → Answer
refusal (edit e) k = edited k
refusal (lookup key typ) k = looked k None
refusal (fetch key typ) k = handed
refusal figures k = summed k no_figures
refusal (commit way caller room) k = committed k None 0 0
refusal (whole_image room) k = joined k 0

-- an answer, the bytes handed back, the book after, and the book that state and work area hold after: another one where 12 keeps the move
pub record Outcome : Type 0 where
  pub answer : Answer
  pub out : List ℕ
  pub after : Book
  pub laid : Book

abbrev pub stay : Book → Answer → Outcome
stay b a = record { answer = a; out = []; after = b; laid = b }

-- the book stays, and bytes are handed back
abbrev pub stay_with : Book → Answer → List ℕ → Outcome
stay_with b a x = record { answer = a; out = x; after = b; laid = b }

abbrev pub change : Book → Bank → Outcome
change b k = record { answer = edited 0; out = []; after = with_active b k; laid = with_active b k }

-- what is done to the bank of a slot; 7 where it isn't Valid
unfoldable pub by_slot : Book → Call → (Bank → Outcome) → Slot → Outcome
by_slot b c f empty = stay b (refusal c 7)
by_slot b c f invalid = stay b (refusal c 7)
by_slot b c f (valid k) = f k

-- an edit of the active bank, by the number that refuses it
unfoldable pub edit_as : Book → Edit → Bank → ℕ → Outcome
edit_as b e k zero = change b (with_records k (edited_by e k.records))
edit_as b e k (suc n) = stay b (edited (suc n))

unfoldable pub edit_bank : Book → Edit → Bank → Outcome
edit_bank b e k = edit_as b e k (refused_edit e k)

-- the place is counted from the start of the work area
unfoldable pub lookup_bank : Book → List ℕ → VarType → Bank → Outcome
lookup_bank b key typ k = stay b (looked 0 (found_in key typ (b.active * part_size + 24) k.records))

unfoldable pub fetch_bank : Book → List ℕ → VarType → Bank → Outcome
fetch_bank b key typ k = stay_with b handed (value_in key typ k.records)

-- the sums, and the number of records, dead ones too
unfoldable pub figures_bank : Book → Bank → Outcome
figures_bank b k = stay b (summed 0 (figures_of k.records))

-- a commit that moves, and makes this erase request
abbrev pub moves : Book → Bank → Option ℕ → Outcome
moves b k e =
    record {
      answer = committed 0 e (next_bank b * bank_size) k.header.size;
      out = output (moved k);
      after = moved_book b k;
      laid = moved_book b k;
    }

-- 12 after a move keeps it, and the erase request; a careful commit doesn't come to it
abbrev pub overflows : Book → Bank → Option ℕ → Outcome
overflows b k e = record { answer = committed 12 e 0 0; out = []; after = b; laid = moved_book b k }

-- total > size after the move is 12
unfoldable pub move_in : Book → Bank → Option ℕ → Outcome
move_in b k e = cond (leb (live_total k) k.header.size) (moves b k e) (overflows b k e)

unfoldable pub commit_as : Book → Bank → Judged → Outcome
commit_as b k (refuse n) = stay b (committed n None 0 0)
commit_as b k in_place = stay_with b (committed 0 None (b.active * bank_size) k.header.size) (output k)
commit_as b k move = move_in b k (request (next_slot b) (next_bank b))

unfoldable pub commit_bank : Book → Way → Bank → Outcome
commit_bank b way k = commit_as b k (judge_bank way k)

-- 5 where the output is too short
unfoldable pub commit_to : Book → Way → Caller → ℕ → Outcome
commit_to b way caller room =
    cond (ltb room bank_size) (stay b (refusal (commit way caller room) 5)) (by_slot b (commit way caller room) (commit_bank b way) (active_slot b))

-- 5, then 13 where a Valid bank has total > size
unfoldable pub image_to : Book → ℕ → Outcome
image_to b room =
    cond (ltb room (b.n * bank_size)) (stay b (refusal (whole_image room) 5))
    (cond (any_overfull b.slots) (stay b (refusal (whole_image room) 13))
    (stay_with b (joined 0 (length (image_output b.slots))) (image_output b.slots)))

unfoldable pub step : Book → Call → Outcome
step b (edit e) = by_slot b (edit e) (edit_bank b e) (active_slot b)
step b (lookup key typ) = by_slot b (lookup key typ) (lookup_bank b key typ) (active_slot b)
step b (fetch key typ) = by_slot b (fetch key typ) (fetch_bank b key typ) (active_slot b)
step b figures = by_slot b figures (figures_bank b) (active_slot b)
step b (commit way caller room) = commit_to b way caller room
step b (whole_image room) = image_to b room

-- an old commit
abbrev pub is_old : Call → Bool
is_old (edit e) = false
is_old (lookup key typ) = false
is_old (fetch key typ) = false
is_old figures = false
is_old (commit old caller room) = true
is_old (commit careful caller room) = false
is_old (whole_image room) = false

-- no old commit that is refused by 12: after every other call state and work area hold the book after it
abbrev pub Follows : Call → ℕ → Type 0
Follows c k = is_old c ≡ true → k ≢ 12
