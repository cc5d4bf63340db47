-- What the wear bound counts (01, 'A run, its book and the flash'; 02, N4, N5 and N7): S, the active bank's size; L, the most that live records come to at
-- commits; the bytes inserted; and erase requests, by caller too.
use Rattle.std.specs.Prelude.{ℕ, zero, suc, ◌+◌, max, List, [], ◌∷◌, Bool, true, cond, eqb, Option, None, Some}
use Rattle.tally.specs.declared.Caller.{Caller}
use Rattle.tally.specs.Tally.{is_own}
use Rattle.bank.specs.Bank.{Slot, empty, invalid, valid}
use Rattle.bank.specs.Totals.{live_total}
use Rattle.book.specs.Edit.{grows}
use Rattle.book.specs.Book.{Book, active_slot, slot_size}
use Rattle.book.specs.Call.{Call, edit, lookup, fetch, figures, commit, whole_image, Answer, number, erase}
use Rattle.book.specs.Tallied.{committer}
use Rattle.run.specs.Run.{Page}

-- S: the size in the header of the book's active bank
abbrev pub active_size : Book → ℕ
active_size b = slot_size (active_slot b)

-- 24 plus the active bank's live record sizes, at a commit
abbrev pub slot_live : Slot → ℕ
slot_live empty = 0
slot_live invalid = 0
slot_live (valid k) = live_total k

abbrev pub live_at : Book → Call → ℕ
live_at b (edit e) = 0
live_at b (lookup key typ) = 0
live_at b (fetch key typ) = 0
live_at b figures = 0
live_at b (commit way caller room) = slot_live (active_slot b)
live_at b (whole_image room) = 0

-- the commits that L is over, by their numbers: all, refused ones too (01), or accepted ones alone (02, N4)

abbrev pub all_commits : ℕ → Bool
all_commits k = true

abbrev pub accepted_commits : ℕ → Bool
accepted_commits k = eqb k 0

-- L: the most that it comes to at those commits of a list
unfoldable pub most_live : (ℕ → Bool) → List Page → ℕ
most_live counts [] = 0
most_live counts (p ∷ ps) = max (cond (counts (number p.event.answer)) (live_at p.before p.event.call) 0) (most_live counts ps)

-- what a call with this number adds: the record size of an insert that is accepted, of a barrel's too (02, N5)
abbrev pub added : Call → ℕ → ℕ
added (edit e) zero = grows e
added (edit e) (suc k) = 0
added (lookup key typ) k = 0
added (fetch key typ) k = 0
added figures k = 0
added (commit way caller room) k = 0
added (whole_image room) k = 0

-- the record sizes of a list's accepted inserts, summed without a stop
unfoldable pub inserted_bytes : List Page → ℕ
inserted_bytes [] = 0
inserted_bytes (p ∷ ps) = added p.event.call (number p.event.answer) + inserted_bytes ps

-- erase requests

abbrev pub requested : Option ℕ → ℕ
requested None = 0
requested (Some offset) = 1

-- the number of erase requests answered in a list
unfoldable pub requests : List Page → ℕ
requests [] = 0
requests (p ∷ ps) = requested (erase p.event.answer) + requests ps

-- of these, the number in a caller's own commits (02, N7)

abbrev pub requested_by : Caller → Call → Answer → ℕ
requested_by caller c a = cond (is_own caller (committer c)) (requested (erase a)) 0

unfoldable pub requests_by : Caller → List Page → ℕ
requests_by caller [] = 0
requests_by caller (p ∷ ps) = requested_by caller p.event.call p.event.answer + requests_by caller ps
