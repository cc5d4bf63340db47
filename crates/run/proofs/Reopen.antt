-- Demand 3, the reopening (`reopens`): a flash that holds the book's active bank opens to a book with that bank active, so lookups answer alike.
use Prim.Native.Nat.{ℕ, ◌*◌, ◌+◌, ◌≤◌, ◌<◌}
use native.Mathlib.Omega.{arith}
use native.Mathlib.Nat.{mul-le-mul_right, one-mul}
use mathlib.Core.Path.{◌≡◌, refl, sym, ap, ap₂, ◌∙◌, subst}
use Rattle.std.specs.Prelude.{Option, Some}
use mathlib.Core.List.{List}
use lib.ListN.{length, get_or}
use borrow.Author.Tests.{le-ltb, lt-leb}
use Rattle.tally.specs.Tally.{no_tally}
use Rattle.bank.specs.declared.variable.VarType.{VarType}
use Rattle.bank.specs.Record.{Record}
use Rattle.bank.specs.Bank.{Bank, invalid, valid, bank_size, padded, bank_bytes, bank_of}
use Rattle.bank.specs.Read.{read_bank}
use Rattle.bank.specs.Totals.{total}
use Rattle.bank.proofs.PartitionLaws.{bank_size_lem}
use Rattle.bank.proofs.BankBack.{padded_back}
use Rattle.records.specs.Match.{found_in, value_in}
use Rattle.book.specs.Book.{part_size, Book, FineBook, active_slot, with_records}
use Rattle.book.specs.Opening.{bank_in, read_slots, banks_of, Opened, opened, opening}
use Rattle.book.specs.Call.{Call, lookup, fetch, looked, Outcome, lookup_bank, fetch_bank, step}
use Rattle.book.proofs.SlotReads.{slots_long}
use Rattle.book.proofs.OpenFine.{open_fine}
use Rattle.nvram.specs.declared.state.Nvram.{Nvram}
use Rattle.nvram.specs.Layout.{view}
use Rattle.nvram.specs.Contract.{begun, on_book, call}
use Rattle.nvram.proofs.LayoutLaws.{view_lay}
use Rattle.nvram.proofs.CallLaws.{by_valid}
use Rattle.run.specs.Run.{opened_book, Page}
use Rattle.run.specs.Demand.{Reopens}
use Rattle.run.proofs.ChoiceLaws.{slot_at, any_valid_lem, valid_within, chooses}
use Rattle.run.proofs.Invariant.{InFlash, UpToDate, enough, slot_fine}

-- two books with the same active bank look up alike
module _ (b b' : Book) (k k' : Bank) (e : active_slot b ≡ valid k) (e' : active_slot b' ≡ valid k') (rs : k.records ≡ k'.records) where
  same_lookup : b.active ≡ b'.active → (key : List ℕ) (typ : VarType) → (step b (lookup key typ)).answer ≡ (step b' (lookup key typ)).answer
  unfolding step lookup_bank
  same_lookup q key typ =
      ap (λ (o : Outcome). o.answer) (by_valid b (lookup key typ) (lookup_bank b key typ) k e)
      ∙ ap₂ (λ (i : ℕ) (l : List Record). looked 0 (found_in key typ (i * part_size + 24) l)) q rs
      ∙ sym (ap (λ (o : Outcome). o.answer) (by_valid b' (lookup key typ) (lookup_bank b' key typ) k' e'))

  same_fetch : (key : List ℕ) (typ : VarType) → (step b (fetch key typ)).out ≡ (step b' (fetch key typ)).out
  unfolding step fetch_bank
  same_fetch key typ =
      ap (λ (o : Outcome). o.out) (by_valid b (fetch key typ) (fetch_bank b key typ) k e) ∙ ap (value_in key typ) rs
      ∙ sym (ap (λ (o : Outcome). o.out) (by_valid b' (fetch key typ) (fetch_bank b' key typ) k' e'))

-- what a call answers on a state and a work area that hold a book
on_answer : (c : Call) (s : Nvram) (w : List ℕ) (b : Book) → view s w ≡ Some b → (call c s w).answer ≡ (step b c).answer
unfolding call on_book
on_answer c s w b v = ap (λ (o : Option Book). (on_book o c s w).answer) v

on_out : (c : Call) (s : Nvram) (w : List ℕ) (b : Book) → view s w ≡ Some b → (call c s w).out ≡ (step b c).out
unfolding call on_book
on_out c s w b v = ap (λ (o : Option Book). (on_book o c s w).out) v

-- what an opening leaves holds the opened book
begun_view : (o : Opened) (work : List ℕ) (b : Book) → FineBook b → o ≡ opened b → view (begun o work).state (begun o work).work ≡ Some b
unfolding begun
begun_view o work b f e = ap (λ (x : Opened). view (begun x work).state (begun x work).work) e ∙ view_lay b no_tally work f

module _ (f : List ℕ) (b : Book) (s : UpToDate f b) where
  abbrev x : InFlash f b
  x = s.fixed

  abbrev k : Bank
  k = s.fixed.bank

  abbrev book : Book
  book = opened_book f

  abbrev back : Bank
  back = bank_of k.header k.records k.header.size

  reads : read_bank (bank_in f b.active) ≡ valid back
  reads =
      let w = slot_fine b b.active k s.base.fine x.at in
      ap read_bank (x.known.there ∙ ap (λ (rs : List Record). padded bank_size (bank_bytes (with_records k rs))) s.now)
      ∙ padded_back k bank_size w.header_fine w.records_fine (subst (λ (rs : List Record). total (with_records k rs) ≤ k.header.size) s.now x.known.flashed_fit)
      (omega (arith, bank_size_lem, w.header_fine.size_high))

  within : b.active < banks_of f
  within = subst (λ (n : ℕ). b.active < n) s.base.count s.base.fine.inside

  in_slot : get_or (read_slots (banks_of f) f) b.active invalid ≡ valid back
  in_slot = slot_at (banks_of f) f b.active within ∙ reads

  active_is : book.active ≡ b.active
  active_is =
      chooses (read_slots (banks_of f) f) b.active 0 0 0 back in_slot x.known.positive
      (λ j ne k' e. let l = inside j k' e in x.known.under j (subst (λ (n : ℕ). j < n) (sym s.base.count) l) ne k' (sym (slot_at (banks_of f) f j l) ∙ e))
      ∙ omega arith
    where
      inside : (j : ℕ) (k' : Bank) → get_or (read_slots (banks_of f) f) j invalid ≡ valid k' → j < banks_of f
      inside j k' e = subst (λ (n : ℕ). j < n) (slots_long (banks_of f) f) (valid_within (read_slots (banks_of f) f) j k' e)

  accepts : (work : ℕ) → b.n * part_size ≤ work → opening f work ≡ opened book
  unfolding opening
  accepts work h =
      let l : bank_size ≤ length f = omega (arith, enough f b.n s.base.count, s.base.fine.low, mul-le-mul_right bank_size s.base.fine.low, one-mul bank_size) in
      let r : banks_of f * part_size ≤ work = subst (λ (n : ℕ). n * part_size ≤ work) s.base.count h in
      simp
      (le-ltb (length f) bank_size l, lt-leb (17 * bank_size) (length f) s.base.most, le-ltb work (banks_of f * part_size) r, any_valid_lem (read_slots (banks_of f) f) b.active back in_slot)

  there : active_slot book ≡ valid back
  there = ap (λ (i : ℕ). get_or (read_slots (banks_of f) f) i invalid) active_is ∙ in_slot

  -- what the reopening leaves holds its book
  holds : (work : List ℕ) → b.n * part_size ≤ length work
      → view (begun (opening f (length work)) work).state (begun (opening f (length work)) work).work ≡ Some book
  holds work long =
      begun_view (opening f (length work)) work book (open_fine f (length work) book s.base.bytes (accepts (length work) long)) (accepts (length work) long)

pub reopens : (f : List ℕ) (p : Page) → UpToDate f p.after → view p.event.state p.event.work ≡ Some p.after → Reopens f p
reopens f p s v =
    let b = p.after in
    let x = s.fixed in
    record {
      book = book f b s;
      accepted = λ work long. accepts f b s (length work) long;
      active = active_is f b s;
      bank = x.bank;
      bank_there = x.at;
      bank' = back f b s;
      bank_here = there f b s;
      header = refl;
      records = refl;
      lookups = λ work long key typ.
          let o = opening f (length work) in
          on_answer (lookup key typ) (begun o work).state (begun o work).work (book f b s) (holds f b s work long)
          ∙ same_lookup (book f b s) b (back f b s) x.bank (there f b s) x.at refl (active_is f b s) key typ
          ∙ sym (on_answer (lookup key typ) p.event.state p.event.work b v);
      values = λ work long key typ.
          let o = opening f (length work) in
          on_out (fetch key typ) (begun o work).state (begun o work).work (book f b s) (holds f b s work long)
          ∙ same_fetch (book f b s) b (back f b s) x.bank (there f b s) x.at refl key typ
          ∙ sym (on_out (fetch key typ) p.event.state p.event.work b v);
    }
