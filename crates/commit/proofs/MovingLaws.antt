-- A commit that moves the active bank, in the numbers that the code has: written where it moved, or refused by 12.
use Prim.Native.Nat.{ℕ, ◌+◌, ◌*◌, ◌%◌, ◌≤◌, ◌<◌}
use mathlib.Core.Path.{◌≡◌, refl, sym, ap, ap₂, ◌∙◌}
use mathlib.Core.List.{List, [], ◌++◌}
use mathlib.Core.Bool.{Bool, true, false}
use mathlib.Core.Logic.{◌⊎◌, inl, inr}
use Rattle.std.specs.Prelude.{Option, Some}
use native.Mathlib.Omega.{arith}
use lib.Dec.{leb}
use lib.ListN.{length, get_or, set, take, drop}
use borrow.Author.Tests.{le-leb, lt-leb, leb-true, leb-false}
use Rattle.buffers.specs.Bytes.{over}
use Rattle.buffers.proofs.OverLaws.{length_over}
use Rattle.tally.specs.declared.Caller.{Caller}
use Rattle.tally.specs.Tally.{counted}
use Rattle.bank.specs.declared.header.StoreHeader.{StoreHeader}
use Rattle.bank.specs.Record.{Record, live, sizes}
use Rattle.bank.specs.Bank.{Bank, Slot, invalid, valid, bank_size, part_of, bank_of}
use Rattle.bank.specs.Totals.{select, total, live_total}
use Rattle.records.specs.Records.{Holds}
use Rattle.records.proofs.RecordLists.{sizes_select}
use Rattle.book.specs.Book.{part_size, FineSlot, Book}
use Rattle.book.specs.Commit.{Way, move, judge_bank, raised, moved, next_bank, next_slot, request, moved_book}
use Rattle.book.specs.Call.{commit, committed, moves, overflows, move_in, commit_as, step}
use Rattle.book.proofs.BookLaws.{part_size_lem, part_times}
use Rattle.book.proofs.StepLaws.{moved_fine, next_inside}
use Rattle.book.proofs.JudgeLaws.{move_grows}
use Rattle.nvram.specs.declared.state.Kind.TheVariants.{Empty, Valid}
use Rattle.nvram.specs.declared.state.Entry.{Entry}
use Rattle.nvram.specs.declared.state.Nvram.{Nvram}
use Rattle.nvram.specs.Part.{entry, entry_of}
use Rattle.nvram.specs.Layout.{lay_table, lay_state, lay_parts, lay_work}
use Rattle.nvram.specs.Ready.{active_entry}
use Rattle.nvram.specs.Contract.{Does}
use Rattle.nvram.proofs.SlotLaws.{slot_length}
use Rattle.nvram.proofs.LayoutLaws.{table_at, table_set}
use Rattle.nvram.proofs.CallLaws.{does}
use Rattle.nvram.proofs.ActiveLaws.{Sound, book, viewed, fine, active_is, n_is, banks_are, bank, bank_fine, total_is, total_high, place_within}
use Rattle.nvram.proofs.ReadyLaws.{records, here}
use Rattle.nvram.proofs.PlaceLaws.{inside, work_with, laid_with_lem, from_place, over_place, bank_out}
use Rattle.moving.specs.Move.{Movable}
use Rattle.requests.specs.Applied.{moved_state}
use Rattle.commit.specs.Active.{ActiveKnown, MoveDue}
use Rattle.commit.proofs.CommitLaws.{known, from_here, header_is, size_is, commit_step}

-- a commit of a way moves the active bank
pub record Moving (way : Way) (s : Nvram) (w : List ℕ) (h : StoreHeader) : Type 0 where
  pub active : ActiveKnown s w h
  pub due : MoveDue way s w

module _ {way : Way} {s : Nvram} {w : List ℕ} {h : StoreHeader} (m : Moving way s w h) where
  -- where its records stand
  abbrev from : ℕ
  from = s.active * 131072 + 24

  abbrev to : ℕ
  to = s.active * 131072 + (active_entry s).total

  abbrev g : Sound s w
  g = known m.active

  abbrev v : (active_entry s).kind ≡ Valid
  v = m.active.active.kind

  abbrev b : Book
  b = book g

  abbrev k : Bank
  k = bank g v

  stand : Holds w from to k.records
  unfolding records
  stand =
      let p = sym (part_times s.active) in
      here
      (record {
        sound = g;
        valid = v;
        from_is = ap (λ (n : ℕ). n + 24) p;
        to_is = ap (λ (n : ℕ). n + (active_entry s).total) p;
      })

  -- the bank after the active one
  abbrev pub next : ℕ
  next = (s.active + 1) % s.n

  next_is : next ≡ next_bank b
  next_is = ap₂ (λ (i n : ℕ). (i + 1) % n) (active_is g) (n_is g)

  pub some_bank : 0 < s.n
  some_bank = omega (arith, n_is g, (fine g).low)

  next_low : next < s.n
  next_low = omega (arith, next_is, next_inside b (fine g), n_is g)

  pub next_in : next < 16
  next_in = omega (arith, next_low, n_is g, (fine g).high)

  elsewhere : (next * 131072 + 24 ≤ from) ⊎ (to ≤ next * 131072)
  elsewhere = go (leb next s.active) refl
    where
      go : (x : Bool) → leb next s.active ≡ x → (next * 131072 + 24 ≤ from) ⊎ (to ≤ next * 131072)
      go true e = inl (omega (arith, leb-true next s.active e))
      go false e = inr (omega (arith, leb-false next s.active e, total_is g v, total_high g v))

  pub movable : Movable w from to (next * 131072)
  movable =
      record {
        records = k.records;
        holds = stand;
        few = omega (arith, total_is g v, total_high g v);
        room = place_within g next next_low;
        apart = elsewhere;
      }

  judged_move : judge_bank way k ≡ move
  judged_move = from_here m.active m.due

  pub may_raise : h.generation < 4294967295
  may_raise =
      omega
      (arith, ap (λ (x : StoreHeader). x.generation) (header_is m.active), move_grows way k judged_move, (bank_fine g v).0.header_fine.generation_fits)

  new_fine : FineSlot (valid (moved k))
  unfolding total
  new_fine =
      let f = bank_fine g v in
      (moved_fine k f.0 (move_grows way k judged_move), omega (arith, f.1, sizes_select live k.records))

  -- what move_bank leaves of a header r: the total t and the work area w'
  abbrev pub Copied : StoreHeader → ℕ → List ℕ → Type 0
  Copied r t w' =
      (rs : List Record) → Holds w from to rs
      → (t ≡ 24 + sizes (select live rs)) × (w' ≡ over (next * 131072) (part_of part_size (valid (bank_of r (select live rs) r.size))) w)

  pub total_fits : (r : StoreHeader) (t : ℕ) (w' : List ℕ) → Copied r t w' → t ≤ 131072
  total_fits r t w' c = omega (arith, (c k.records stand).0, sizes_select live k.records, total_high g v)

  -- what the code's calls left: besides, the erase request e and the state s', in which it is counted for the caller
  pub record MoveLeft (caller : Caller) (t : ℕ) (w' : List ℕ) (e : Option ℕ) (s' : Nvram) : Type 0 where
    pub header : StoreHeader
    pub header_raised : header ≡ raised h
    pub copied : Copied header t w'
    pub erase_is : (x : Slot) → (get_or s.banks next (entry Empty 0 0)).kind ≡ (entry_of x).kind → e ≡ request x next
    pub state : s' ≡ moved_state s next t h.size caller e

  module _ {caller : Caller} {t : ℕ} {w' : List ℕ} {e : Option ℕ} {s' : Nvram} (l : MoveLeft caller t w' e s') where
    total_left : t ≡ 24 + sizes (select live k.records)
    total_left = (l.copied k.records stand).0

    work_left : w' ≡ over (next * 131072) (part_of part_size (valid (moved k))) w
    work_left =
        (l.copied k.records stand).1
        ∙ ap (λ (x : StoreHeader). over (next * 131072) (part_of part_size (valid (bank_of x (select live k.records) x.size))) w)
        (l.header_raised ∙ ap raised (header_is m.active))

    new_work : w' ≡ work_with g next next_low (valid (moved k))
    new_work = work_left ∙ over_place g next next_low (valid (moved k)) new_fine

    new_laid : w' ≡ lay_work (moved_book b k) w
    unfolding lay_work
    new_laid =
        new_work ∙ sym (laid_with_lem g next next_low (valid (moved k)))
        ∙ ap (λ (i : ℕ). lay_parts (set b.slots i (valid (moved k))) ++ drop (b.n * part_size) w) next_is

    request_is : e ≡ request (next_slot b) (next_bank b)
    request_is =
        l.erase_is (get_or b.slots next invalid)
        (ap (λ (x : List Entry). (get_or x next (entry Empty 0 0)).kind) (banks_are g) ∙ ap (λ (x : Entry). x.kind) (table_at b.slots next (inside g next next_low)))
        ∙ ap (λ (i : ℕ). request (get_or b.slots i invalid) i) next_is

    new_state : s' ≡ lay_state (moved_book b k) (counted (Some caller) e s.tally)
    unfolding moved_state entry_of total
    new_state =
        let q : set s.banks next (entry Valid t h.size) ≡ lay_table (set b.slots (next_bank b) (valid (moved k))) =
        (λ j. set (banks_are g j) next (entry Valid (total_left j) (size_is m.active j)))
        ∙ sym (table_set b.slots next (valid (moved k)) (inside g next next_low))
        ∙ ap (λ (i : ℕ). lay_table (set b.slots i (valid (moved k)))) next_is in
        l.state ∙ (λ j. record { n = n_is g j; active = next_is j; tally = counted (Some caller) e s.tally; banks = q j })

    pub new_within : next * 131072 + 131072 ≤ length w'
    new_within =
        let x = slot_length (valid (moved k)) new_fine in
        let y = place_within g next next_low in
        let z : length w' ≡ length w =
        ap length work_left ∙ length_over (next * 131072) (part_of part_size (valid (moved k))) w (omega (arith, x, part_size_lem)) in
        omega arith

    module _ (room : ℕ) (wide : 65536 ≤ room) where
      move_step : step b (commit way caller room) ≡ move_in b k e
      unfolding commit_as
      move_step = commit_step m.active way caller room wide ∙ ap (commit_as b k) judged_move ∙ ap (move_in b k) (sym request_is)

      pub does_12 : h.size < t → Does (commit way caller room) s w (committed 12 e 0 0) [] s' w'
      unfolding move_in live_total
      does_12 o =
          let f : k.header.size < 24 + sizes (select live k.records) = omega (arith, total_left, size_is m.active) in
          let q : move_in b k e ≡ overflows b k e = simp (lt-leb _ _ f) in
          does (commit way caller room) s w b (overflows b k e) (committed 12 e 0 0) [] s' w' (viewed g) (move_step ∙ q)
          (record { answer = refl; out = refl; state = new_state; work = new_laid })

      pub does_move : t ≤ h.size → Does (commit way caller room) s w (committed 0 e (next * 65536) h.size) (take h.size (drop (next * 131072) w')) s' w'
      unfolding move_in live_total total bank_size
      does_move o =
          let f : 24 + sizes (select live k.records) ≤ k.header.size = omega (arith, total_left, size_is m.active) in
          let q : move_in b k e ≡ moves b k e = simp (le-leb _ _ f) in
          does (commit way caller room) s w b (moves b k e) _ _ s' w' (viewed g) (move_step ∙ q)
          (record {
            answer = ap₂ (λ (i n : ℕ). committed 0 e (i * 65536) n) next_is (size_is m.active);
            out = (λ j. take (size_is m.active j) (drop (next * 131072) (new_work j)))
                ∙ ap (take k.header.size) (from_place g next next_low (valid (moved k)))
                ∙ bank_out (moved k) _ new_fine.0 f;
            state = new_state;
            work = new_laid;
          })
