-- What a call can do to the book, and the outcome that it has then: the one inversion of `step`, by which every law about it goes.
use Prim.Native.Nat.{ℕ, ◌+◌, ◌*◌, ◌≤◌, ◌<◌}
use mathlib.Core.Path.{◌≡◌, refl, ap}
use mathlib.Core.Logic.{◌≢◌}
use Rattle.std.specs.Prelude.{Option, None}
use mathlib.Core.List.{List, []}
use native.Mathlib.Omega.{arith}
use lib.ListN.{length}
use lib.Dec.{leb, ltb}
use borrow.Author.Tests.{leb-true, leb-false}
use Rattle.buffers.proofs.Laws.{by_test}
use Rattle.bank.specs.Bank.{Bank, Slot, empty, invalid, valid, bank_size, output}
use Rattle.bank.specs.Totals.{total, live_total}
use Rattle.records.specs.declared.edit.Found.{Found}
use Rattle.records.specs.declared.figures.Figures.{Figures}
use Rattle.tally.specs.declared.Caller.{Caller}
use Rattle.book.specs.Edit.{Edit, insert, remove, edited_by, grows, refused_edit}
use Rattle.book.specs.Book.{part_size, Book, active_slot, with_records}
use Rattle.book.specs.Commit.{Way, old, careful, Judged, due, judge_bank, next_bank, next_slot, request, any_overfull}
use Rattle.book.specs.Call as call
use Rattle.book.specs.Call.{Call, edit, lookup, fetch, figures, commit, whole_image, Answer, looked, handed, summed, committed, joined, number, refusal, Outcome, stay, stay_with, change, by_slot, edit_as, edit_bank, lookup_bank, fetch_bank, figures_bank, move_in, commit_as, commit_bank, commit_to, image_to, step}
use Rattle.book.proofs.EditedRecords.{by_refused}
use Rattle.book.proofs.JudgeLaws as judge-laws
use Rattle.book.proofs.JudgeLaws.{Number, above_6, Decided, Fits, decided_bank, not_due, is_due}

-- the calls that change nothing, and what they answer where they are accepted
abbrev pub Reads : Call → Answer → Type 0
Reads (edit e) a = ⊥
Reads (lookup key typ) a = (f : Option Found) × (a ≡ looked 0 f)
Reads (fetch key typ) a = a ≡ handed
Reads figures a = (f : Figures) × (a ≡ summed 0 f)
Reads (commit way caller room) a = ⊥
Reads (whole_image room) a = (long : ℕ) × (a ≡ joined 0 long)

-- an accepted edit
pub record Edits (b : Book) (e : Edit) : Type 0 where
  pub bank : Bank
  pub was : active_slot b ≡ valid bank
  pub small : total bank ≤ part_size → total bank + grows e ≤ part_size

-- an accepted commit in place
pub record Writes (b : Book) : Type 0 where
  pub bank : Bank
  pub was : active_slot b ≡ valid bank
  pub fits : total bank ≤ bank.usable

-- a commit that is to move
pub record Due (b : Book) : Type 0 where
  pub bank : Bank
  pub was : active_slot b ≡ valid bank
  pub due : bank.usable < total bank
  pub left : bank.header.generation ≢ 4294967295

pub data Did (b : Book) : Call → Outcome → Type 0 where
  refuses : {c : Call} (k : ℕ) → Number k → Did b c (stay b (refusal c k))
  reads : {c : Call} (a : Answer) (x : List ℕ) → Reads c a → Did b c (stay_with b a x)
  edits : (e : Edit) (d : Edits b e) → Did b (edit e) (change b (with_records d.bank (edited_by e d.bank.records)))
  writes : (way : Way) (caller : Caller) (room : ℕ) (d : Writes b)
      → Did b (commit way caller room) (stay_with b (committed 0 None (b.active * bank_size) d.bank.header.size) (output d.bank))
  moves : (way : Way) (caller : Caller) (room : ℕ) (d : Due b) → live_total d.bank ≤ d.bank.header.size
      → Did b (commit way caller room) (call.moves b d.bank (request (next_slot b) (next_bank b)))
  overflows : (caller : Caller) (room : ℕ) (d : Due b) → d.bank.header.size < live_total d.bank
      → Did b (commit old caller room) (call.overflows b d.bank (request (next_slot b) (next_bank b)))

five : Number 5
five = record { not_0 = λ e. omega arith; not_6 = λ e. omega arith }

module _ (b : Book) where
  -- 7, or what is done to the active bank
  by_bank : (c : Call) (f : Bank → Outcome) → ((k : Bank) → active_slot b ≡ valid k → Did b c (f k)) → (s : Slot) → active_slot b ≡ s
      → Did b c (by_slot b c f s)
  unfolding by_slot
  by_bank c f h empty e = refuses 7 (above_6 7 (omega arith))
  by_bank c f h invalid e = refuses 7 (above_6 7 (omega arith))
  by_bank c f h (valid k) e = h k e

  edit_bank_lem : (e : Edit) (k : Bank) → active_slot b ≡ valid k → Did b (edit e) (edit_bank b e k)
  unfolding edit_bank edit_as refused_edit grows
  edit_bank_lem (insert m key value typ) k q =
      by_refused (λ (n : ℕ). Did b (edit (insert m key value typ)) (edit_as b (insert m key value typ) k n)) m (length value)
      (total k + grows (insert m key value typ))
      (refuses 15 (above_6 15 (omega arith)))
      (refuses 8 (above_6 8 (omega arith)))
      (λ r. edits (insert m key value typ) record { bank = k; was = q; small = λ h. r })
  edit_bank_lem (remove key typ) k q = edits (remove key typ) record { bank = k; was = q; small = λ h. omega arith }

  module _ (caller : Caller) (room : ℕ) where
    -- 12 after a move is an old commit's
    over_size : (way : Way) (d : Due b) → Fits way d.bank → d.bank.header.size < live_total d.bank
        → Did b (commit way caller room) (call.overflows b d.bank (request (next_slot b) (next_bank b)))
    over_size old d f h = overflows caller room d h
    over_size careful d f h = absurd (omega arith)

    move_bank : (way : Way) (d : Due b) → Fits way d.bank → Did b (commit way caller room) (move_in b d.bank (request (next_slot b) (next_bank b)))
    unfolding move_in
    move_bank way d f =
        by_test (Did b (commit way caller room)) (leb (live_total d.bank) d.bank.header.size) _ _ (λ t. moves way caller room d (leb-true _ _ t))
        (λ t. over_size way d f (leb-false _ _ t))

    commit_bank_lem : (way : Way) (k : Bank) → active_slot b ≡ valid k → Did b (commit way caller room) (commit_bank b way k)
    unfolding commit_bank commit_as
    commit_bank_lem way k e = go (judge_bank way k) (decided_bank way k)
      where
        go : (j : Judged) → Decided k.header (due k) (Fits way k) j → Did b (commit way caller room) (commit_as b k j)
        go j (judge-laws.refuses n h) = refuses n h
        go j (judge-laws.stays d) = writes way caller room (record { bank = k; was = e; fits = not_due k d })
        go j (judge-laws.moves d l f) = move_bank way (record { bank = k; was = e; due = is_due k d; left = l }) f

pub did : (b : Book) (c : Call) → Did b c (step b c)
unfolding step lookup_bank fetch_bank figures_bank commit_to image_to
did b (edit e) = by_bank b (edit e) _ (edit_bank_lem b e) (active_slot b) refl
did b (lookup key typ) = by_bank b (lookup key typ) _ (λ k e. reads {c = lookup key typ} _ [] (_, refl)) (active_slot b) refl
did b (fetch key typ) = by_bank b (fetch key typ) _ (λ k e. reads {c = fetch key typ} handed _ refl) (active_slot b) refl
did b figures = by_bank b figures _ (λ k e. reads {c = figures} _ [] (_, refl)) (active_slot b) refl
did b (commit way caller room) =
    by_test (Did b (commit way caller room)) (ltb room bank_size) _ _ (λ t. refuses 5 five)
    (λ t. by_bank b (commit way caller room) _ (commit_bank_lem b caller room way) (active_slot b) refl)
did b (whole_image room) =
    by_test (Did b (whole_image room)) (ltb room (b.n * bank_size)) _ _ (λ t. refuses 5 five)
    (λ t. by_test (Did b (whole_image room)) (any_overfull b.slots) _ _ (λ t. refuses 13 (above_6 13 (omega arith)))
    (λ t. reads {c = whole_image room} _ _ (_, refl)))

-- the number of an answer

pub read_number : (c : Call) (a : Answer) → Reads c a → number a ≡ 0
read_number (edit e) a r = absurd r
read_number (lookup key typ) a r = ap number r.1
read_number (fetch key typ) a r = ap number r
read_number figures a r = ap number r.1
read_number (commit way caller room) a r = absurd r
read_number (whole_image room) a r = ap number r.1

-- a refusal's is the one given; fetched bytes have none
pub refusal_number : (c : Call) (k n : ℕ) → k ≢ n → 0 ≢ n → number (refusal c k) ≢ n
refusal_number (edit e) k n h z = h
refusal_number (lookup key typ) k n h z = h
refusal_number (fetch key typ) k n h z = z
refusal_number figures k n h z = h
refusal_number (commit way caller room) k n h z = h
refusal_number (whole_image room) k n h z = h
