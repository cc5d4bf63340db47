-- A step keeps a book well-formed (`step_fine`), and what it lays out is the book after it where the state follows the book (`settled`).
-- Both by cases of `did`. It follows after every call that is no old commit (`not_old`).
use Prim.Native.Nat.{ℕ, zero, suc, ◌+◌, ◌*◌, ◌/◌, ◌≤◌, ◌<◌}
use mathlib.Core.Path.{◌≡◌, refl, sym, ◌∙◌, subst}
use mathlib.Core.List.{List}
use mathlib.Core.Logic.{◌≢◌}
use mathlib.Core.Bool.{false, true≢false}
use native.Mathlib.Omega.{arith}
use native.Mathlib.Nat.{div-add-mod', mod-lt}
use lib.ListN.{get_or, length-set}
use lib.Seq.{get_or-set_other}
use Rattle.bank.specs.Record.{Record, sizes, live}
use Rattle.bank.specs.Bank.{Bank, invalid, valid}
use Rattle.bank.specs.Totals.{total}
use Rattle.bank.specs.WellFormed.{FineBank, FineRecords}
use Rattle.records.proofs.RecordLists.{fine_select, sizes_select}
use Rattle.book.specs.Edit.{edited_by, grows}
use Rattle.book.specs.Book.{part_size, FineSlot, Book, FineBook, active_slot, with_active, with_records}
use Rattle.book.specs.Commit.{moved, next_bank, moved_book}
use Rattle.book.specs.Call.{Call, ByteCall, number, is_old, Follows, Outcome, step}
use Rattle.book.proofs.EditedRecords.{sizes_edited, fine_edited}
use Rattle.book.proofs.BookLaws.{part_size_lem, fine_at, fine_set, fine_with}
use Rattle.book.proofs.Did.{refuses, reads, edits, writes, moves, overflows, Did, did}

-- the active bank with other records
changed_fine : (b : Book) (k : Bank) (rs : List Record) → FineBook b → FineSlot (valid k) → FineRecords rs → 24 + sizes rs ≤ part_size
    → FineBook (with_active b (with_records k rs))
unfolding total
changed_fine b k rs f g r h =
    fine_with b (with_records k rs) f
    (record { header_fine = g.0.header_fine; records_fine = r; usable_low = g.0.usable_low; usable_high = g.0.usable_high }) h

-- the new bank of a move
pub moved_fine : (k : Bank) → FineBank k → k.header.generation ≢ 4294967295 → FineBank (moved k)
moved_fine k f h =
    let g = f.header_fine in
    record {
      header_fine =
          record {
            size_low = g.size_low;
            size_high = g.size_high;
            generation_fits = omega (arith, g.generation_fits, h);
            state_fits = g.state_fits;
            flags_fit = g.flags_fit;
            system_fits = g.system_fits;
            common_fits = g.common_fits;
          };
      records_fine = fine_select live k.records f.records_fine;
      usable_low = g.size_low;
      usable_high = omega arith;
    }

pub next_inside : (b : Book) → FineBook b → next_bank b < b.n
next_inside b f = mod-lt (b.active + 1) f.low

-- with two banks or more the old slot keeps its records
no_one : (q n : ℕ) → 2 ≤ n → q * n ≡ 1 → ⊥
no_one zero n h e = omega arith
no_one (suc q) n h e = omega arith

pub old_stays : (b : Book) (k : Bank) → 2 ≤ b.n → get_or (moved_book b k).slots b.active invalid ≡ active_slot b
old_stays b k h =
    get_or-set_other b.slots (next_bank b) b.active (valid (moved k)) invalid
    (λ e. no_one ((b.active + 1) / b.n) b.n h (omega (arith, div-add-mod' (b.active + 1) b.n)))

moved_book_fine : (b : Book) (k : Bank) → FineBook b → FineSlot (valid k) → k.header.generation ≢ 4294967295 → FineBook (moved_book b k)
unfolding total
moved_book_fine b k f g h =
    record {
      low = f.low;
      high = f.high;
      inside = next_inside b f;
      long = length-set b.slots (next_bank b) (valid (moved k)) ∙ f.long;
      slots_fine =
          fine_set b.slots (next_bank b) (valid (moved k)) f.slots_fine
          (moved_fine k g.0 h, omega (arith, g.1, sizes_select live k.records));
    }

-- what a step lays out is well-formed

active_bank : (b : Book) (k : Bank) → FineBook b → active_slot b ≡ valid k → FineSlot (valid k)
active_bank b k f e = subst FineSlot e (fine_at b.slots b.active f.slots_fine)

did_fine : (b : Book) (c : Call) (o : Outcome) → ByteCall c → FineBook b → Did b c o → FineBook o.laid
unfolding total
did_fine b c o y f (refuses k h) = f
did_fine b c o y f (reads a x h) = f
did_fine b c o y f (edits e d) =
    let g = active_bank b d.bank f d.was in
    let h : total d.bank + grows e ≤ part_size = d.small g.1 in
    changed_fine b d.bank (edited_by e d.bank.records) f g
    (fine_edited e d.bank.records y (omega (arith, part_size_lem)) g.0.records_fine) (omega (arith, sizes_edited e d.bank.records))
did_fine b c o y f (writes way caller room d) = f
did_fine b c o y f (moves way caller room d h) = moved_book_fine b d.bank f (active_bank b d.bank f d.was) d.left
did_fine b c o y f (overflows caller room d h) = moved_book_fine b d.bank f (active_bank b d.bank f d.was) d.left

pub step_fine : (b : Book) (c : Call) → ByteCall c → FineBook b → FineBook (step b c).laid
step_fine b c y f = did_fine b c (step b c) y f (did b c)

-- what is laid out is the book after, where the state follows the book
settled_did : (b : Book) (c : Call) (o : Outcome) → Follows c (number o.answer) → Did b c o → o.laid ≡ o.after
settled_did b c o h (refuses k n) = refl
settled_did b c o h (reads a x n) = refl
settled_did b c o h (edits e d) = refl
settled_did b c o h (writes way caller room d) = refl
settled_did b c o h (moves way caller room d l) = refl
settled_did b c o h (overflows caller room d l) = absurd (h refl refl)

pub settled : (b : Book) (c : Call) → Follows c (number (step b c).answer) → (step b c).laid ≡ (step b c).after
settled b c h = settled_did b c (step b c) h (did b c)

pub not_old : (c : Call) (k : ℕ) → is_old c ≡ false → Follows c k
not_old c k e q = absurd (true≢false (sym q ∙ e))
