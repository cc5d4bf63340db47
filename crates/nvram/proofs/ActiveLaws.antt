-- The active bank of a sound state and work area, in the numbers that the code has.
use Prim.Native.Nat.{ℕ, ◌+◌, ◌*◌, ◌-◌, ◌≤◌, ◌<◌}
use mathlib.Core.Path.{◌≡◌, refl, sym, ap, ap₂, ◌∙◌, subst}
use mathlib.Core.List.{List, [], ◌++◌, append_assoc}
use mathlib.Core.Bool.{true}
use Rattle.std.specs.Prelude.{Some, is_some}
use native.Mathlib.Omega.{arith}
use lib.ListN.{length, get_or, set, take, drop, replicate, length-append}
use lib.Seq.{take_at, drop_at, set-get_or}
use Rattle.crc32.specs.Crc32.{Bytes}
use Rattle.bank.specs.declared.header.StoreHeader.{StoreHeader}
use Rattle.bank.specs.Header.{header_bytes}
use Rattle.bank.specs.Record.{sizes, records_bytes}
use Rattle.bank.specs.Bank.{Bank, Slot, invalid, valid, part_of}
use Rattle.bank.specs.Totals.{total}
use Rattle.bank.specs.WellFormed.{FineBank, FineRecords}
use Rattle.bank.proofs.PaddedLaws.{part_bytes}
use Rattle.bank.proofs.LengthLaws.{length_header, length_records}
use Rattle.records.specs.Records.{Holds}
use Rattle.book.specs.Book.{part_size, FineSlot, Book, FineBook, active_slot}
use Rattle.book.specs.Call.{Call, refusal, stay, step}
use Rattle.book.proofs.BookLaws.{part_size_lem, part_times, fine_at}
use Rattle.nvram.specs.declared.state.Kind.TheVariants.{Empty, Valid}
use Rattle.nvram.specs.declared.state.Entry.{Entry}
use Rattle.nvram.specs.declared.state.Nvram.{Nvram}
use Rattle.nvram.specs.Part.{entry, entry_of}
use Rattle.nvram.specs.Layout.{lay_table, lay_state, lay_parts, lay_work, view}
use Rattle.nvram.specs.Ready.{active_entry}
use Rattle.nvram.specs.Contract.{Does}
use Rattle.nvram.proofs.LayoutLaws.{lay_view, work_long, Split, split, table_at}
use Rattle.nvram.proofs.CallLaws.{some_of, does, refusal_tally, kind_valid, OnActive, step_7}

-- what is known once soundness was tested
pub record Sound (s : Nvram) (w : List ℕ) : Type 0 where
  pub bytes : Bytes w
  pub long : length s.banks ≡ 16
  pub ok : is_some (view s w) ≡ true

module _ {s : Nvram} {w : List ℕ} (g : Sound s w) where
  pub book : Book
  book = (some_of (view s w) g.ok).0

  pub viewed : view s w ≡ Some book
  unfolding book
  viewed = (some_of (view s w) g.ok).1

  laid : (s ≡ lay_state book s.tally) × (w ≡ lay_work book w) × FineBook book
  laid = lay_view s w book g.bytes g.long viewed

  pub state_is : s ≡ lay_state book s.tally
  state_is = laid.0

  pub work_is : w ≡ lay_work book w
  work_is = laid.1

  pub fine : FineBook book
  fine = laid.2

  pub active_is : s.active ≡ book.active
  active_is = ap (λ (x : Nvram). x.active) state_is

  pub n_is : s.n ≡ book.n
  n_is = ap (λ (x : Nvram). x.n) state_is

  pub banks_are : s.banks ≡ lay_table book.slots
  banks_are = ap (λ (x : Nvram). x.banks) state_is

  pub in_slots : book.active < length book.slots
  in_slots = omega (arith, fine.inside, fine.long)

  pub active_in : s.active < 16
  active_in = omega (arith, fine.inside, fine.high, active_is)

  pub entry_is : active_entry s ≡ entry_of (active_slot book)
  entry_is =
      ap₂ (λ (t : List Entry) (i : ℕ). get_or t i (entry Empty 0 0)) banks_are active_is ∙ table_at book.slots book.active in_slots

  -- refused by a number, nothing changed
  pub does_refuse : (c : Call) (k : ℕ) → step book c ≡ stay book (refusal c k) → Does c s w (refusal c k) [] s w
  does_refuse c k e =
      does c s w book (stay book (refusal c k)) (refusal c k) [] s w viewed e
      (record {
        answer = refl;
        out = refl;
        state = state_is ∙ ap (lay_state book) (sym (refusal_tally c k s.tally));
        work = work_is;
      })

  pub does_7 : (c : Call) → OnActive c → ((active_entry s).kind ≡ Valid → ⊥) → Does c s w (refusal c 7) [] s w
  does_7 c u h = does_refuse c 7 (step_7 book c u (λ e. h (ap (λ (x : Entry). x.kind) entry_is ∙ e)))

  -- the work area reaches past each part
  pub place_within : (i : ℕ) → i < s.n → i * 131072 + 131072 ≤ length w
  place_within i h =
      let r : book.n * 131072 ≤ length w = subst (λ (i : ℕ). book.n * i ≤ length w) part_size_lem (subst (λ (x : List ℕ). book.n * part_size ≤ length x) (sym work_is) (work_long book fine w)) in
      omega (arith, h, n_is)

  pub part_within : s.active * 131072 + 131072 ≤ length w
  part_within = place_within s.active (omega (arith, fine.inside, active_is, n_is))

  module _ (v : (active_entry s).kind ≡ Valid) where
    pub bank : Bank
    bank = (kind_valid (active_slot book) (sym (ap (λ (x : Entry). x.kind) entry_is) ∙ v)).0

    pub bank_is : active_slot book ≡ valid bank
    unfolding bank
    bank_is = (kind_valid (active_slot book) (sym (ap (λ (x : Entry). x.kind) entry_is) ∙ v)).1

    pub bank_fine : FineBank bank × (total bank ≤ part_size)
    bank_fine = subst FineSlot bank_is (fine_at book.slots book.active fine.slots_fine)

    pub total_is : (active_entry s).total ≡ 24 + sizes bank.records
    unfolding entry_of total
    total_is = ap (λ (x : Entry). x.total) entry_is ∙ ap (λ (x : Slot). (entry_of x).total) bank_is

    pub usable_is : (active_entry s).usable ≡ bank.usable
    unfolding entry_of
    usable_is = ap (λ (x : Entry). x.usable) entry_is ∙ ap (λ (x : Slot). (entry_of x).usable) bank_is

    pub total_high : 24 + sizes bank.records ≤ 131072
    unfolding total
    total_high = omega (arith, bank_fine.1, part_size_lem)

    pub places : Split book.slots book.active
    places = split book.slots book.active in_slots fine.slots_fine

    abbrev pub front : List ℕ
    front = places.pre ++ header_bytes bank.header

    abbrev pub rest : List ℕ
    rest = places.post ++ drop (book.n * part_size) w

    -- the work area with the bank's records replaced, whose sizes come to n
    abbrev pub laid_with : List ℕ → ℕ → List ℕ
    laid_with x n = front ++ (x ++ (replicate (part_size - (24 + n)) 255 ++ rest))

    pub front_length : length front ≡ s.active * part_size + 24
    front_length =
        let m : book.active * part_size ≡ s.active * part_size = ap (λ (i : ℕ). i * part_size) (sym active_is) in
        length-append places.pre (header_bytes bank.header) ∙ omega (arith, places.len, length_header bank.header)

    -- another bank of this header in the active slot
    pub laid_out : (k : Bank) → k.header ≡ bank.header → FineRecords k.records
        → lay_parts (set book.slots book.active (valid k)) ++ drop (book.n * part_size) w
        ≡ laid_with (records_bytes k.records) (sizes k.records)
    laid_out k e f =
        let r : List ℕ = records_bytes k.records in
        let z : List ℕ = replicate (part_size - (24 + sizes k.records)) 255 in
        let q : part_of part_size (valid k) ≡ header_bytes bank.header ++ (r ++ z) =
        part_bytes part_size k f ∙ ap (λ (h : StoreHeader). header_bytes h ++ (r ++ z)) e in
        ap (λ (l : List ℕ). l ++ drop (book.n * part_size) w) (places.at (valid k) ∙ ap (λ (l : List ℕ). places.pre ++ (l ++ places.post)) q)
        ∙ simp append_assoc

    pub work_split : w ≡ laid_with (records_bytes bank.records) (sizes bank.records)
    unfolding lay_work
    work_split =
        work_is
        ∙ ap (λ (l : List Slot). lay_parts l ++ drop (book.n * part_size) w)
        (sym (set-get_or book.slots book.active invalid) ∙ ap (set book.slots book.active) bank_is)
        ∙ laid_out bank refl bank_fine.0.records_fine

    -- the records stand where the code looks for them
    pub holds : Holds w (s.active * part_size + 24) (s.active * part_size + (active_entry s).total) bank.records
    holds =
        let f = bank_fine.0.records_fine in
        let t = (active_entry s).total in
        let a = s.active * part_size in
        let l : length (records_bytes bank.records) ≡ sizes bank.records = length_records bank.records f in
        record {
          fine = f;
          low = omega (arith, total_is);
          high = omega (arith, part_within, part_times s.active, total_is, total_high);
          is =
              ap (λ (x : List ℕ). take (a + t - (a + 24)) (drop (a + 24) x)) work_split
              ∙ ap (take (a + t - (a + 24))) (drop_at front (records_bytes bank.records ++ (replicate (part_size - (24 + sizes bank.records)) 255 ++ rest)) (a + 24) front_length)
              ∙ take_at (records_bytes bank.records) (replicate (part_size - (24 + sizes bank.records)) 255 ++ rest) (a + t - (a + 24)) (omega (arith, l, total_is));
        }
