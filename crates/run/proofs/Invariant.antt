-- What the flash and the book are to each other along a run, and what an edit, a write and a move leave of it.
use Prim.Native.Nat.{ℕ, ◌-◌, ◌*◌, ◌/◌, ◌≤◌, ◌<◌}
use native.Mathlib.Omega.{arith}
use native.Mathlib.Decide.{ℕ_discrete}
use mathlib.Core.Path.{◌≡◌, refl, sym, ap, ap₂, ◌∙◌, subst}
use mathlib.Core.Logic.{◌≢◌}
use mathlib.Core.List.{List, ◌++◌}
use lib.ListN.{length, get_or, set, take, drop}
use lib.Seq.{get_or-set_same, get_or-set_other, set-get_or, length-take-le}
use Rattle.crc32.specs.Crc32.{Bytes}
use Rattle.buffers.proofs.Laws.{take_replicate, drop_replicate}
use Rattle.bank.specs.Record.{Record}
use Rattle.bank.specs.Bank.{Bank, Slot, empty, invalid, valid, bank_size, padded, bank_bytes, bank_of, output}
use Rattle.bank.specs.Read.{read_bank}
use Rattle.bank.specs.Totals.{total, live_total}
use Rattle.bank.specs.WellFormed.{FineRecords, FineBank}
use Rattle.bank.proofs.LengthLaws.{length_bank}
use Rattle.bank.proofs.PartitionLaws.{bank_size_lem}
use Rattle.bank.proofs.PaddedLaws.{blanks, padded_more, take_padded, drop_padded}
use Rattle.bank.proofs.BankBack.{padded_back}
use Rattle.bank.proofs.OutputLaws.{length_output, bytes_output}
use Rattle.book.specs.Book.{FineSlot, Book, FineBook, active_slot, with_bank, with_active, with_records}
use Rattle.book.specs.Commit.{moved, next_bank, next_slot, request, moved_book}
use Rattle.book.specs.Opening.{bank_in, banks_of}
use Rattle.book.proofs.BookLaws.{fine_at}
use Rattle.book.proofs.StepLaws.{moved_fine, next_inside}
use Rattle.run.specs.Flash.{ands, written, erased_by}
use Rattle.run.proofs.FlashLaws.{Replaced, untouched, replaced_again, bank_long, ands_ff, erased_bank, written_start, generation_below}
use Rattle.run.proofs.ChoiceLaws.{empty_not_valid}
use Rattle.run.proofs.Aged.{Aged, aged_refl, aged_trans, ands_output}

-- every Valid bank of the flash but i has a generation below g
abbrev pub Under : List ℕ → ℕ → ℕ → ℕ → Type 0
Under flash n i g = (j : ℕ) → j < n → j ≢ i → (k : Bank) → read_bank (bank_in flash j) ≡ valid k → k.header.generation < g

-- from the opening on
pub record Base (flash : List ℕ) (b : Book) : Type 0 where
  pub bytes : Bytes flash
  pub fine : FineBook b
  pub count : b.n ≡ banks_of flash
  pub most : length flash < 17 * bank_size
  pub blank : (j : ℕ) → j < b.n → get_or b.slots j invalid ≡ empty → bank_in flash j ≡ blanks bank_size
  pub low : (k : Bank) → active_slot b ≡ valid k → (j : ℕ) → j < b.n → (k' : Bank) → read_bank (bank_in flash j) ≡ valid k'
      → k'.header.generation ≤ k.header.generation

-- from the first move on: the active bank's bytes are those of its header and of records that have aged into the book's
pub record ActiveInFlash (flash : List ℕ) (b : Book) (bank : Bank) : Type 0 where
  pub full : bank.usable ≡ bank.header.size
  pub positive : 0 < bank.header.generation
  pub flashed : List Record
  pub flashed_fine : FineRecords flashed
  pub flashed_fit : total (with_records bank flashed) ≤ bank.header.size
  pub there : bank_in flash b.active ≡ padded bank_size (bank_bytes (with_records bank flashed))
  pub aged : Aged flashed bank.records
  pub under : Under flash b.n b.active bank.header.generation

pub record InFlash (flash : List ℕ) (b : Book) : Type 0 where
  pub bank : Bank
  pub at : active_slot b ≡ valid bank
  pub known : ActiveInFlash flash b bank

known_of : {flash : List ℕ} {b : Book} (x : InFlash flash b) (k : Bank) → active_slot b ≡ valid k → ActiveInFlash flash b k
known_of {flash = flash} {b = b} x k e = let q : x.bank ≡ k = cc (x.at, e) in subst (ActiveInFlash flash b) q x.known

-- after an accepted commit: those records are the book's
pub record UpToDate (flash : List ℕ) (b : Book) : Type 0 where
  pub base : Base flash b
  pub fixed : InFlash flash b
  pub now : fixed.known.flashed ≡ fixed.bank.records

pub enough : (flash : List ℕ) (n : ℕ) → n ≡ banks_of flash → n * bank_size ≤ length flash
enough flash n e =
    let c : n ≡ length flash / 65536 = e ∙ ap (λ (k : ℕ). length flash / k) bank_size_lem in
    let m : n * bank_size ≡ n * 65536 = ap (λ (k : ℕ). n * k) bank_size_lem in
    omega arith

-- the slot read back after a store
pub active_stored : (b : Book) → FineBook b → (i : ℕ) → i < b.n → (k : Bank) → active_slot (with_bank b i k) ≡ valid k
active_stored b f i l k = get_or-set_same b.slots i (valid k) invalid (omega (arith, f.long))

-- a Valid slot of a fine book holds a fine bank
pub slot_fine : (b : Book) (i : ℕ) (k : Bank) → FineBook b → get_or b.slots i invalid ≡ valid k → FineBank k
slot_fine b i k f e = (subst FineSlot e (fine_at b.slots i f.slots_fine)).0

small_size : (k : Bank) → FineBank k → k.header.size ≤ bank_size
small_size k w = omega (arith, bank_size_lem, w.header_fine.size_high)

out_small : (k : Bank) → FineBank k → total k ≤ k.header.size → length (output k) ≤ bank_size
out_small k w fits = omega (arith, length_output k w.records_fine fits, small_size k w)

-- every bank of the flash but i that can be read has at most a generation
abbrev Upto : List ℕ → ℕ → ℕ → ℕ → Type 0
Upto flash n i g = (j : ℕ) → j < n → j ≢ i → (k : Bank) → read_bank (bank_in flash j) ≡ valid k → k.header.generation ≤ g

-- the book holds k in bank i, which becomes active
module _ (f f' : List ℕ) (b : Book) (i : ℕ) (k : Bank) (x : List ℕ) (base : Base f b) (inside : i < b.n) (fine : FineBook (with_bank b i k))
    (r : Replaced f f' i x) where
  in_slot : active_slot (with_bank b i k) ≡ valid k
  in_slot = active_stored b base.fine i inside k

  k_fine : FineBank k
  k_fine = slot_fine (with_bank b i k) i k fine in_slot

  blank_there : (j : ℕ) → j < b.n → get_or (set b.slots i (valid k)) j invalid ≡ empty → Dec (j ≡ i) → bank_in f' j ≡ blanks bank_size
  blank_there j l e (yes q) = absurd (empty_not_valid (sym (subst (λ (y : ℕ). get_or (set b.slots i (valid k)) y invalid ≡ empty) q e) ∙ in_slot))
  blank_there j l e (no ne) = r.other j ne ∙ base.blank j l (sym (get_or-set_other b.slots i j (valid k) invalid ne) ∙ e)

  module _ (here : (k' : Bank) → read_bank x ≡ valid k' → k'.header.generation ≤ k.header.generation) (others : Upto f b.n i k.header.generation) where
    low_there : (j : ℕ) → j < b.n → (k' : Bank) → read_bank (bank_in f' j) ≡ valid k' → Dec (j ≡ i) → k'.header.generation ≤ k.header.generation
    low_there j l k' e (yes q) = here k' (sym (ap read_bank (ap (bank_in f') q ∙ r.here)) ∙ e)
    low_there j l k' e (no ne) = others j l ne k' (sym (ap read_bank (r.other j ne)) ∙ e)

    replaced_base : Base f' (with_bank b i k)
    replaced_base =
        record {
          bytes = r.bytes;
          fine = fine;
          count = base.count ∙ ap (λ (n : ℕ). n / bank_size) (sym r.long);
          most = rw r.long base.most;
          blank = λ j l e. blank_there j l e (ℕ_discrete j i);
          low = λ k' e j l k'' e''.
              let same : k ≡ k' = cc (in_slot, e) in
              subst (λ (y : Bank). k''.header.generation ≤ y.header.generation) same (low_there j l k'' e'' (ℕ_discrete j i));
        }

-- and the flash holds it, and then 0xFF
module _ (f f' : List ℕ) (b : Book) (i : ℕ) (k : Bank) (base : Base f b) (inside : i < b.n) (fine : FineBook (with_bank b i k))
    (r : Replaced f f' i (padded bank_size (bank_bytes k))) (full : k.usable ≡ k.header.size) (fits : total k ≤ k.header.size)
    (positive : 0 < k.header.generation) (under : Under f b.n i k.header.generation) where
  current : UpToDate f' (with_bank b i k)
  current =
      let w = k_fine f f' b i k _ base inside fine r in
      let back = padded_back k bank_size w.header_fine w.records_fine fits (small_size k w) in
      record {
        base =
            replaced_base f f' b i k _ base inside fine r
            (λ k' e. let same : valid (bank_of k.header k.records k.header.size) ≡ valid k' = sym back ∙ e in
            let g : k'.header.generation ≡ k.header.generation = cc in omega arith)
            (λ j l ne k' e. omega (arith, under j l ne k' e));
        fixed = record {
          bank = k;
          at = in_slot f f' b i k _ base inside fine r;
          known = record {
            full = full;
            positive = positive;
            flashed = k.records;
            flashed_fine = w.records_fine;
            flashed_fit = fits;
            there = r.here;
            aged = aged_refl k.records;
            under = λ j l ne k' e. under j l ne k' (sym (ap read_bank (r.other j ne)) ∙ e);
          };
        };
        now = refl;
      }

-- a write over x that comes out as it is
module _ (f g : List ℕ) (n i : ℕ) (k : Bank) (inside : i < n) (long : n * bank_size ≤ length g) (w : FineBank k) (fits : total k ≤ k.header.size) where
  abbrev out : List ℕ
  out = output k

  written_whole : (x : List ℕ) → Replaced f g i x → ands (take (length out) x) out ≡ out → drop (length out) x ≡ blanks (bank_size - length out)
      → Replaced f (written (i * bank_size) out g) i (padded bank_size (bank_bytes k))
  unfolding output
  written_whole x r p q =
      let whole : ands (take (length out) (bank_in g i)) out ++ drop (length out) (bank_in g i) ≡ padded bank_size (bank_bytes k) =
      ap (λ (y : List ℕ). ands (take (length out) y) out ++ drop (length out) y) r.here
      ∙ ap₂ (λ (y z : List ℕ). y ++ z) p (q ∙ ap (λ (m : ℕ). blanks (bank_size - m)) (length_output k w.records_fine fits))
      ∙ sym (padded_more (bank_bytes k) k.header.size bank_size (omega (arith, length_bank k w.records_fine)) (small_size k w)) in
      subst (Replaced f (written (i * bank_size) out g) i) whole
      (replaced_again r (written_start g n i inside long out (out_small k w fits) (bytes_output k w.header_fine w.records_fine) r.bytes))

module _ (f : List ℕ) (b : Book) (base : Base f b) where
  room : b.n * bank_size ≤ length f
  room = enough f b.n base.count

  -- a move

  clear : (i : ℕ) → i < b.n → (s : Slot) → get_or b.slots i invalid ≡ s → Replaced f (erased_by (request s i) f) i (blanks bank_size)
  unfolding request
  clear i inside empty e = subst (Replaced f f i) (base.blank i inside e) (untouched f i base.bytes)
  clear i inside invalid e = erased_bank f b.n i inside room base.bytes
  clear i inside (valid k) e = erased_bank f b.n i inside room base.bytes

  module _ (k : Bank) (e : active_slot b ≡ valid k) where
    w : FineBank k
    w = slot_fine b b.active k base.fine e

    module _ (fits : live_total k ≤ k.header.size) (left : k.header.generation ≢ 4294967295) (fine : FineBook (moved_book b k)) where
      abbrev g : List ℕ
      g = erased_by (request (next_slot b) (next_bank b)) f

      new_fits : total (moved k) ≤ k.header.size
      unfolding total live_total
      new_fits = fits

      move_placed : Replaced f (written (next_bank b * bank_size) (output (moved k)) g) (next_bank b) (padded bank_size (bank_bytes (moved k)))
      move_placed =
          let inside = next_inside b base.fine in
          let c = clear (next_bank b) inside (next_slot b) refl in
          let v = moved_fine k w left in
          let long : b.n * bank_size ≤ length g = omega (arith, room, c.long) in
          let x = output (moved k) in
          let fits_bank = out_small (moved k) v new_fits in
          written_whole f g b.n (next_bank b) (moved k) inside long v new_fits (blanks bank_size) c
          (ap (λ (y : List ℕ). ands y x) (take_replicate (length x) bank_size 255 fits_bank) ∙ ands_ff x (bytes_output (moved k) v.header_fine v.records_fine))
          (drop_replicate (length x) bank_size 255 fits_bank)

      pub move_current : UpToDate (written (next_bank b * bank_size) (output (moved k)) g) (moved_book b k)
      move_current =
          current f (written (next_bank b * bank_size) (output (moved k)) g) b (next_bank b) (moved k) base (next_inside b base.fine) fine move_placed refl new_fits
          (omega arith) (λ j l ne k' q. omega (arith, base.low k e j l k' q))

    -- a write in place

    with_active_lem : with_active b k ≡ b
    with_active_lem =
        let q : set b.slots b.active (valid k) ≡ b.slots =
        ap (λ (s : Slot). set b.slots b.active s) (sym e) ∙ set-get_or b.slots b.active invalid in
        ap (λ (ss : List Slot). record { n = b.n; active = b.active; slots = ss }) q

    with_fine : FineBook (with_active b k)
    with_fine = subst FineBook (sym with_active_lem) base.fine

    module _ (fits : total k ≤ k.usable) where
      in_size : total k ≤ k.header.size
      in_size = omega (arith, w.usable_high)

      fits_bank : length (output k) ≤ bank_size
      fits_bank = out_small k w in_size

      abbrev pub new : List ℕ
      new = written (b.active * bank_size) (output k) f

      abbrev mixed : List ℕ
      mixed = ands (take (length (output k)) (bank_in f b.active)) (output k) ++ drop (length (output k)) (bank_in f b.active)

      write_placed : Replaced f new b.active mixed
      write_placed =
          written_start f b.n b.active base.fine.inside room (output k) fits_bank (bytes_output k w.header_fine w.records_fine) base.bytes

      -- over bytes that are not known, an AND cannot raise the generation
      pub write_base : Base new b
      write_base =
          let long : length (output k) ≡ k.header.size = length_output k w.records_fine in_size in
          subst (Base new) with_active_lem
          (replaced_base f new b b.active k mixed base base.fine.inside with_fine write_placed
          (λ k' q. generation_below k k' (take (length (output k)) (bank_in f b.active)) (drop (length (output k)) (bank_in f b.active)) w.header_fine.generation_fits
          (length-take-le (length (output k)) (bank_in f b.active) (omega (arith, fits_bank, bank_long f b.n b.active base.fine.inside room)))
          (omega (arith, long, w.header_fine.size_low)) q)
          (λ j l ne k' q. base.low k e j l k' q))

      -- after the first move the bytes are known
      module _ (x : ActiveInFlash f b k) where
        abbrev old : Bank
        old = with_records k x.flashed

        old_long : length (bank_bytes old) ≤ length (output k)
        old_long = omega (arith, length_bank old x.flashed_fine, x.flashed_fit, length_output k w.records_fine in_size)

        write_known : Replaced f new b.active (padded bank_size (bank_bytes k))
        unfolding output
        write_known =
            written_whole f f b.n b.active k base.fine.inside room w in_size (padded bank_size (bank_bytes old))
            (subst (Replaced f f b.active) x.there (untouched f b.active base.bytes))
            (ap (λ (y : List ℕ). ands y (output k)) (take_padded (bank_bytes old) (length (output k)) bank_size old_long fits_bank)
            ∙ ap (λ (m : ℕ). ands (padded m (bank_bytes old)) (output k)) (length_output k w.records_fine in_size)
            ∙ ands_output k x.flashed w.header_fine w.records_fine x.flashed_fine in_size x.flashed_fit x.aged)
            (drop_padded (bank_bytes old) (length (output k)) bank_size old_long fits_bank)

        write_now : UpToDate new b
        write_now =
            subst (UpToDate new) with_active_lem
            (current f new b b.active k base base.fine.inside with_fine write_known x.full in_size x.positive x.under)

      pub write_current : InFlash f b → UpToDate new b
      write_current x = write_now (known_of x k e)

    -- an edit

    module _ (newer : List Record) (fine : FineBook (with_active b (with_records k newer))) where
      abbrev edited : Bank
      edited = with_records k newer

      pub edit_base : Base f (with_active b edited)
      edit_base =
          replaced_base f f b b.active edited (bank_in f b.active) base base.fine.inside fine (untouched f b.active base.bytes)
          (λ k' q. base.low k e b.active base.fine.inside k' q) (λ j l ne k' q. base.low k e j l k' q)

      pub edit_fixed : Aged k.records newer → InFlash f b → InFlash f (with_active b edited)
      edit_fixed a x =
          let y = known_of x k e in
          record {
            bank = edited;
            at = in_slot f f b b.active edited (bank_in f b.active) base base.fine.inside fine (untouched f b.active base.bytes);
            known = record {
              full = y.full;
              positive = y.positive;
              flashed = y.flashed;
              flashed_fine = y.flashed_fine;
              flashed_fit = y.flashed_fit;
              there = y.there;
              aged = aged_trans y.aged a;
              under = y.under;
            };
          }
