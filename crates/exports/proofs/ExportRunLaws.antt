-- A run through the exports meets demand 3 in both readings, and its tallies are those of every run (`exported_01`, `exported_N4`, `exported_N7`, to be
-- read: nothing cites them): the state that its bytes hold after each call is the definition's (`follow`), so that what is claimed of every run is of the
-- same run (`exported_run`).
use Prim.Native.Nat.{ℕ, zero, suc, ◌-◌, ◌<◌}
use mathlib.Core.Path.{◌≡◌, refl, sym, ap, ◌∙◌, subst}
use mathlib.Core.List.{List, [], ◌∷◌, ◌++◌, map}
use mathlib.Core.Bool.{Bool, true, false, cond, true≢false}
use Rattle.std.specs.Prelude.{Option, Some}
use native.Mathlib.Omega.{arith}
use lib.ListN.{length, replicate, length-append, length-map, length-replicate}
use lib.Dec.{leb}
use Rattle.tally.specs.declared.Caller.TheVariants.{Clock, Barrel}
use Rattle.tally.specs.declared.Tally.{Tally}
use Rattle.tally.specs.Tally.{is_own, tally_of, no_tally, total_of}
use Rattle.tally.proofs.TallyLaws.{counted_fits, counted_tally}
use Rattle.bank.specs.Bank.{Slot, empty, invalid, valid}
use Rattle.book.specs.Book.{Book, FineBook, FineSlots}
use Rattle.book.specs.Opening.{Opened, opening}
use Rattle.book.specs.Call.{Call, edit, lookup, fetch, figures, commit, whole_image, ByteCall, Answer, number, erase, step, is_old, Follows}
use Rattle.book.specs.Tallied.{committer, tallied}
use Rattle.book.proofs.BookLaws.{part_size_lem}
use Rattle.book.proofs.StepLaws.{step_fine}
use Rattle.nvram.specs.declared.state.Kind.TheVariants.{Empty}
use Rattle.nvram.specs.declared.state.Entry.{Entry}
use Rattle.nvram.specs.declared.state.Nvram.{Nvram}
use Rattle.nvram.specs.Part.{entry, entry_of}
use Rattle.nvram.specs.Layout.{lay_table, lay_state, view}
use Rattle.nvram.specs.Contract.{on_book, call, Does, Begun, begun}
use Rattle.nvram.proofs.KeepLaws.{Kept, keeps, does_tally}
use Rattle.run.specs.Run as run
use Rattle.run.specs.Wear.{all_commits, accepted_commits}
use Rattle.run.specs.Demand.{Tallies, Demand3, Claim, Careful, Always}
use Rattle.run.proofs.EachLaws.{each_none, each_more}
use Rattle.run.proofs.Start.{starts}
use Rattle.run.proofs.Tallies.{reading_N7}
use Rattle.run.proofs.Demand.{reading_01, reading_N4}
use Rattle.state_bytes.specs.State.{state_size, stored, read_state, FineEntries, FineTally, FineState}
use Rattle.state_bytes.proofs.StateLaws.{stored_back}
use Rattle.exports.specs.Store.{BytesAfter, on_state, exported, Tells, Calls, Start, stated, start, ExportOpens, tally_number, tally_fields}
use Rattle.exports.specs.ExportRun.{ExportEvent, ExportRun, ExportKeeps, Same, AllSame, ExportClaim, ExportClaim01, ExportClaimN4, ExportClaimN7}

-- what is laid out of a book fits into the state's bytes

free_fine : (n : ℕ) → FineEntries (replicate n (entry Empty 0 0))
free_fine zero = tt
free_fine (suc n) = ((omega arith, omega arith), free_fine n)

entries_fine : (ss : List Slot) (es : List Entry) → FineSlots ss → FineEntries es → FineEntries (map entry_of ss ++ es)
unfolding entry_of
entries_fine [] es f g = g
entries_fine (empty ∷ ss) es f g = ((omega arith, omega arith), entries_fine ss es f.1 g)
entries_fine (invalid ∷ ss) es f g = ((omega arith, omega arith), entries_fine ss es f.1 g)
entries_fine (valid b ∷ ss) es f g =
    ((omega (arith, f.0.1, part_size_lem), omega (arith, f.0.0.usable_high, f.0.0.header_fine.size_high)), entries_fine ss es f.1 g)

laid_fine : (b : Book) (tally : Tally) → FineBook b → FineTally tally → FineState (lay_state b tally)
unfolding lay_table
laid_fine b tally f h =
    record {
      n_fits = omega (arith, f.high);
      active_fits = omega (arith, f.inside, f.high);
      tally_fine = h;
      banks_long =
          length-append (map entry_of b.slots) (replicate (16 - length b.slots) (entry Empty 0 0))
          ∙ omega (arith, length-map b.slots entry_of, length-replicate (16 - length b.slots) (entry Empty 0 0), f.long, f.high);
      banks_fine = entries_fine b.slots (replicate (16 - length b.slots) (entry Empty 0 0)) f.slots_fine (free_fine (16 - length b.slots));
    }

none_fine : FineTally no_tally
none_fine Clock = omega arith
none_fine Barrel = omega arith

tallied_fine : (c : Call) (a : Answer) (t : Tally) → FineTally t → FineTally (tallied c a t)
tallied_fine c a t h caller =
    subst (λ (k : ℕ). k < 4294967296) (sym (counted_tally caller (committer c) (erase a) t))
    (counted_fits (is_own caller (committer c)) (erase a) (tally_of caller t) (h caller))

-- the bytes hold a state, and the state a book
record StateAt (bs w : List ℕ) (s : Nvram) : Type 0 where
  read : read_state bs ≡ Some s
  book : Book
  viewed : view s w ≡ Some book
  fine : FineBook book
  tally : FineTally s.tally

-- a rule that a call keeps with what its function returned, it keeps with its answer's number
abbrev Carries : (Call → ℕ → Type 0) → Type 0
Carries Keeps =
    (c : Call) (a : Answer) (x o : List ℕ) (r : ℕ) (q o' : List ℕ) → Tells c a x o r q o' → Keeps c r → Keeps c (number a)

-- an old commit's function returns the number
old_number : (c : Call) (a : Answer) (x o : List ℕ) (r : ℕ) (q o' : List ℕ) → Tells c a x o r q o' → is_old c ≡ true → r ≡ number a
old_number (edit e) a x o r q o' t h = t.0
old_number (lookup key typ) a x o r q o' t h = t.0
old_number (fetch key typ) a x o r q o' t h = absurd (true≢false (sym h))
old_number figures a x o r q o' t h = t.0
old_number (commit way caller room) a x o r q o' t h = t.returned
old_number (whole_image room) a x o r q o' t h = t.returned

follows_carries : Carries Follows
follows_carries c a x o r q o' t f h p = f h (old_number c a x o r q o' t h ∙ p)

module _ (bs w : List ℕ) (s : Nvram) (a : StateAt bs w s) (e : ExportEvent) (y : ByteCall e.call)
    (d : Calls e.call bs w e.lent e.returned e.fields e.state e.work e.output) where
  abbrev c : Call
  c = e.call

  after : exported c bs w ≡ on_state (Some s) c bs w
  unfolding exported
  after = ap (λ (o : Option Nvram). on_state o c bs w) a.read

  event : run.Event
  event = record { call = c; answer = (call c s w).answer; out = (call c s w).out; state = (call c s w).state; work = e.work }

  does : Does c s w event.answer event.out event.state e.work
  unfolding on_state event
  does = record { answer = refl; out = refl; state = refl; work = d.work ∙ ap (λ (x : BytesAfter). x.work) after }

  kept : Kept c a.book event.answer event.out event.state e.work
  kept = keeps c s w a.book event.answer event.out event.state e.work y a.fine a.viewed does

  laid : event.state ≡ lay_state (step a.book c).laid (tallied c (step a.book c).answer s.tally)
  unfolding event call on_book
  laid = ap (λ (o : Option Book). (on_book o c s w).state) a.viewed

  state_read : read_state e.state ≡ Some event.state
  unfolding on_state event
  state_read =
      ap read_state (d.state ∙ ap (λ (x : BytesAfter). x.state) after)
      ∙ stored_back (call c s w).state bs
      (subst FineState (sym laid)
      (laid_fine (step a.book c).laid (tallied c (step a.book c).answer s.tally) (step_fine a.book c y a.fine)
      (tallied_fine c (step a.book c).answer s.tally a.tally)))

  next : StateAt e.state e.work event.state
  next =
      record {
        read = state_read;
        book = (step a.book c).laid;
        viewed = kept.viewed;
        fine = step_fine a.book c y a.fine;
        tally = subst FineTally (sym (does_tally c s w event.answer event.out event.state e.work does)) (tallied_fine c event.answer s.tally a.tally);
      }

  abbrev Told : BytesAfter → Type 0
  Told x = Tells c x.answer x.out e.lent e.returned e.fields e.output

  same : Same e event
  unfolding on_state event
  same = record { call = refl; tells = subst Told after d.tells; state = state_read; work = refl }

-- a list of calls, as a run whose calls keep the rule
module _ (Keeps : Call → ℕ → Type 0) (carries : Carries Keeps) where
  record Followed (s : Nvram) (w : List ℕ) (es : List ExportEvent) : Type 0 where
    events : List run.Event
    runs : run.Run s w events
    same : AllSame es events
    keeps : (b : Book) → run.Each (run.pages b events) (λ earlier p. Keeps p.event.call (number p.event.answer))

  follow : (bs w : List ℕ) (s : Nvram) (es : List ExportEvent) → StateAt bs w s → ExportRun bs w es → ExportKeeps Keeps es → Followed s w es
  unfolding event run.pages
  follow bs w s [] a r h = record { events = []; runs = tt; same = tt; keeps = λ b. each_none _ }
  follow bs w s (e ∷ es) a r h =
      let y = r.0 in
      let d = r.1 in
      let m = follow e.state e.work (event bs w s a e y d).state es (next bs w s a e y d) r.2 h.1 in
      record {
        events = event bs w s a e y d ∷ m.events;
        runs = (y, does bs w s a e y d, m.runs);
        same = (same bs w s a e y d, m.same);
        keeps = λ b. each_more _ _ _ (carries _ _ _ _ _ _ _ (same bs w s a e y d).tells h.0) (m.keeps (step b e.call).after);
      }

-- an opening that is accepted had bytes enough for the state
begins : (image bs w bs' w' : List ℕ) → ExportOpens image bs w 0 bs' w'
    → ((begun (opening image (length w)) w).number ≡ 0) × (bs' ≡ stored (begun (opening image (length w)) w).state bs) × (w' ≡ (begun (opening image (length w)) w).work)
unfolding start
begins image bs w bs' w' o = go (leb state_size (length bs)) o.number o.state o.work
  where
    x : Begun
    x = begun (opening image (length w)) w

    six : Start
    six = record { number = 6; state = bs; work = w }

    go : (t : Bool) → 0 ≡ (cond t (stated x bs) six).number → bs' ≡ (cond t (stated x bs) six).state → w' ≡ (cond t (stated x bs) six).work
        → (x.number ≡ 0) × (bs' ≡ stored x.state bs) × (w' ≡ x.work)
    go true n s v = (sym n, s, v)
    go false n s v = absurd (omega arith)

exported_run : (Keeps : Call → ℕ → Type 0) (Holds : List ℕ → List run.Page → Type 0) → Carries Keeps → Claim Keeps Holds → ExportClaim Keeps Holds
unfolding begun
exported_run Keeps Holds carries claim image bs w bs' w' es y o r h =
    let x = begun (opening image (length w)) w in
    let b = begins image bs w bs' w' o in
    let opens : run.Opens image w x.state w' = record { bytes = y; accepted = b.0; state = refl; left = b.2 } in
    let t = starts image w x.state w' opens in
    let s : x.state ≡ lay_state (run.opened_book image) no_tally = ap (λ (z : Opened). (begun z w).state) t.opens in
    let read : read_state bs' ≡ Some x.state =
    ap read_state b.1 ∙ stored_back x.state bs (subst FineState (sym s) (laid_fine (run.opened_book image) no_tally t.fine none_fine)) in
    let a : StateAt bs' w' x.state =
    record { read = read; book = run.opened_book image; viewed = t.viewed; fine = t.fine; tally = subst FineTally (sym t.tally) none_fine } in
    let m = follow Keeps carries bs' w' x.state es a r h in
    record {
      state = x.state;
      read = read;
      events = m.events;
      opens = opens;
      runs = m.runs;
      same = m.same;
      holds = claim image w x.state w' m.events opens m.runs (m.keeps (run.opened_book image));
    }

pub exported_01 : ExportClaim01
exported_01 = exported_run Follows (λ image. Demand3 image all_commits) follows_carries reading_01

pub exported_N4 : ExportClaimN4
exported_N4 = exported_run Careful (λ image. Demand3 image accepted_commits) (λ c a x o r q o' t h. h) reading_N4

pub exported_N7 : ExportClaimN7
exported_N7 = exported_run Always (λ image. Tallies) (λ c a x o r q o' t h. h) reading_N7

-- to be read: after each call of such a run `feqyondil_tally` answers the tallies of demand 3, and their total
pub tally_told : (e : ExportEvent) (f : run.Event) → Same e f
    → (tally_number (read_state e.state) ≡ 0)
    × (tally_fields (read_state e.state) ≡ f.state.tally.clock ∷ f.state.tally.barrel ∷ total_of f.state.tally ∷ [])
tally_told e f s = (ap tally_number s.state, ap tally_fields s.state)
