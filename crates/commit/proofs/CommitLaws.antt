-- A commit of the active bank, in the numbers that the code has: a law for each exit. `quiet` is to be read: nothing cites it.
use Prim.Native.Nat.{ℕ, ◌+◌, ◌*◌, ◌≤◌, ◌<◌}
use mathlib.Core.Path.{◌≡◌, refl, sym, ap, ap₂, ◌∙◌, subst}
use mathlib.Core.List.{List, [], ◌++◌}
use mathlib.Core.Bool.{Bool, true}
use Rattle.std.specs.Prelude.{Option, None, Some, Result, Ok}
use Rattle.refusal.specs.declared.Refusal.{Refusal}
use native.Mathlib.Omega.{arith}
use lib.Dec.{ltb}
use lib.ListN.{length, get_or, take, drop, length-drop}
use lib.Seq.{take_at, drop_at, length-take-le}
use borrow.Author.Tests.{lt-ltb, le-ltb}
use Rattle.tally.specs.declared.Caller.{Caller}
use Rattle.tally.proofs.TallyLaws.{counted_none}
use Rattle.bank.specs.declared.header.StoreHeader.{StoreHeader}
use Rattle.bank.specs.Bank.{Bank, Slot, invalid, valid, bank_size, part_of, output}
use Rattle.bank.specs.Record.{sizes, live}
use Rattle.bank.specs.Totals.{total, live_total}
use Rattle.records.specs.declared.figures.Figures.{Figures}
use Rattle.records.specs.Figures.{figures_of, records_figures}
use Rattle.records.proofs.RecordLists.{sizes_select}
use Rattle.book.specs.Book.{part_size, Book, active_slot}
use Rattle.book.specs.Commit.{Way, Judged, refuse, in_place, judge_as, due, judge_bank}
use Rattle.book.specs.Call.{commit, committed, stay_with, by_slot, commit_as, commit_bank, commit_to, step}
use Rattle.book.proofs.JudgeLaws.{in_place_fits}
use Rattle.nvram.specs.declared.state.Kind.TheVariants.{Valid}
use Rattle.nvram.specs.declared.state.Entry.{Entry}
use Rattle.nvram.specs.declared.state.Nvram.{Nvram}
use Rattle.nvram.specs.declared.summary.Summary.{Summary}
use Rattle.nvram.specs.Layout.{lay_state, view}
use Rattle.nvram.specs.Soundness.{slot_summary, active_summary, soundness}
use Rattle.nvram.proofs.SoundLaws.{active_summary_lem}
use Rattle.nvram.specs.Ready.{active_entry}
use Rattle.nvram.specs.Contract.{Does}
use Rattle.nvram.proofs.CheckLaws.{check_active}
use Rattle.nvram.proofs.CallLaws.{does, by_7, by_valid}
use Rattle.nvram.proofs.ActiveLaws.{Sound, book, viewed, state_is, work_is, fine, active_is, n_is, entry_is, does_refuse, bank, bank_is, bank_fine, total_is, total_high, usable_is}
use Rattle.nvram.proofs.PlaceLaws.{after, part_here, bank_out}
use Rattle.requests.specs.declared.Written.{Written}
use Rattle.requests.specs.declared.Applied.{Applied}
use Rattle.requests.specs.Applied.{applied, length_of}
use Rattle.commit.specs.Active.{ActiveHas, ActiveKnown, Commits}

-- the active part of a sound state whose active slot is Valid
module _ {s : Nvram} {w : List ℕ} (g : Sound s w) (v : (active_entry s).kind ≡ Valid) where
  active_low : s.active < s.n
  active_low = omega (arith, (fine g).inside, active_is g, n_is g)

  active_part : drop (s.active * 131072) w ≡ part_of part_size (valid (bank g v)) ++ after g s.active active_low
  active_part =
      part_here g s.active active_low
      ∙ ap (λ (x : Slot). part_of part_size x ++ after g s.active active_low)
      (ap (λ (i : ℕ). get_or (book g).slots i invalid) (active_is g) ∙ bank_is g v)

-- the refusals before that

enough : (b : Book) (way : Way) (caller : Caller) (room : ℕ) → 65536 ≤ room → step b (commit way caller room) ≡ by_slot b (commit way caller room) (commit_bank b way) (active_slot b)
unfolding step commit_to bank_size
enough b way caller room h = simp (le-ltb room 65536 h)

module _ {s : Nvram} {w : List ℕ} (g : Sound s w) (way : Way) (caller : Caller) (room : ℕ) where
  pub does_5 : room < 65536 → Does (commit way caller room) s w (committed 5 None 0 0) [] s w
  unfolding step commit_to bank_size
  does_5 h = does_refuse g (commit way caller room) 5 (simp (lt-ltb room 65536 h))

  pub does_7 : 65536 ≤ room → ((active_entry s).kind ≡ Valid → ⊥) → Does (commit way caller room) s w (committed 7 None 0 0) [] s w
  does_7 h v =
      does_refuse g (commit way caller room) 7
      (enough (book g) way caller room h ∙ by_7 (book g) (commit way caller room) _ (active_slot (book g)) (λ e. v (ap (λ (x : Entry). x.kind) (entry_is g) ∙ e)))

-- when a commit of the active bank begins
module _ {s : Nvram} {w : List ℕ} {h : StoreHeader} (a : ActiveKnown s w h) where
  pub known : Sound s w
  known = record { bytes = a.bytes; long = a.long; ok = a.active.sound }

  abbrev b : Book
  b = book known

  abbrev pub here : Bank
  here = bank known a.active.kind

  pub header_is : h ≡ here.header
  header_is = a.active.header b here (viewed known) (bank_is known a.active.kind)

  pub size_is : h.size ≡ here.header.size
  size_is = ap (λ (x : StoreHeader). x.size) header_is

  pub size_high : h.size ≤ 65536
  size_high = omega (arith, size_is, (bank_fine known a.active.kind).0.header_fine.size_high)

  -- what holds of that bank
  pub of_here : (P : Bank → Type 0) → P here → ActiveHas s w P
  of_here P e c k p q =
      let x : Some c ≡ Some b = sym p ∙ viewed known in
      let y : c ≡ b = cc in
      let z : valid k ≡ valid here = sym q ∙ ap active_slot y ∙ bank_is known a.active.kind in
      let u : k ≡ here = cc in
      subst P (sym u) e

  pub from_here : {P : Bank → Type 0} → ActiveHas s w P → P here
  from_here p = p b here (viewed known) (bank_is known a.active.kind)

  -- what the code judges, by figures f that are the active bank's, is the active bank
  pub judged : (way : Way) (f : Figures) (d : Bool) (j : Judged) → ActiveHas s w (λ (k : Bank). f ≡ figures_of k.records)
      → d ≡ ltb (active_entry s).usable (active_entry s).total
      → j ≡ judge_as way h f.system f.common (24 + f.live) d
      → j ≡ judge_bank way here
  unfolding judge_bank figures_of due total live_total
  judged way f d j u q k =
      let e = from_here u in
      let r : d ≡ ltb here.usable (24 + sizes here.records) = q ∙ ap₂ ltb (usable_is known a.active.kind) (total_is known a.active.kind) in
      k ∙ (λ i. judge_as way (header_is i) (e i).system (e i).common (24 + (e i).live) (r i))

  module _ (way : Way) (caller : Caller) (room : ℕ) (wide : 65536 ≤ room) where
    pub commit_step : step b (commit way caller room) ≡ commit_as b here (judge_bank way here)
    unfolding commit_bank
    commit_step = enough b way caller room wide ∙ by_valid b (commit way caller room) (commit_bank b way) here (bank_is known a.active.kind)

    pub refuses : (n : ℕ) → refuse n ≡ judge_bank way here → Does (commit way caller room) s w (committed n None 0 0) [] s w
    unfolding commit_as
    refuses n e = does_refuse known (commit way caller room) n (commit_step ∙ ap (commit_as b here) (sym e))

    pub stays : in_place ≡ judge_bank way here
        → Does (commit way caller room) s w (committed 0 None (s.active * 65536) h.size) (take h.size (drop (s.active * 131072) w)) s w
    unfolding commit_as bank_size
    stays e =
        let f = (bank_fine known a.active.kind).0 in
        let r : total here ≤ here.header.size = omega (arith, in_place_fits way here (sym e), f.usable_high) in
        does (commit way caller room) s w b (stay_with b (committed 0 None (b.active * bank_size) here.header.size) (output here)) _ _ s w (viewed known) (commit_step ∙ ap (commit_as b here) (sym e))
        (record {
          answer = ap₂ (λ (i n : ℕ). committed 0 None (i * 65536) n) (active_is known) size_is;
          out = ap₂ (λ (n : ℕ) (l : List ℕ). take n l) size_is (active_part known a.active.kind) ∙ bank_out here _ f r;
          state = state_is known ∙ ap (lay_state b) (sym (counted_none (Some caller) s.tally));
          work = work_is known;
        })

-- what the check answers of the active bank
pub checked_active : (s : Nvram) (w : List ℕ) (r : Result (Option Summary) Refusal) → r ≡ soundness (active_summary true) (view s w)
    → ActiveHas s w (λ (k : Bank). (x : Summary) × (r ≡ Ok (Some x)) × (x.header ≡ k.header) × (x.used ≡ figures_of k.records))
unfolding slot_summary records_figures
checked_active s w r e b k p q =
    (record { header = k.header; used = figures_of k.records }, active_summary_lem s w true r e b k p q, refl, refl)

-- once the check answers a summary
module _ {s : Nvram} {w : List ℕ} (g : Sound s w) {r : Result (Option Summary) Refusal} (e : r ≡ soundness (active_summary true) (view s w)) {x : Summary} (q : r ≡ Ok (Some x)) where
  summary : ActiveHas s w (λ (k : Bank). (x.header ≡ k.header) × (x.used ≡ figures_of k.records))
  summary b k v t =
      let c = checked_active s w r e b k v t in
      let y : x ≡ c.0 = cc in
      (ap (λ (z : Summary). z.header) y ∙ c.2, ap (λ (z : Summary). z.used) y ∙ c.3)

  pub checked : ActiveKnown s w x.header
  checked =
      record {
        bytes = g.bytes;
        long = g.long;
        active = record { sound = g.ok; kind = check_active s w g.bytes g.long true r e x q; header = λ b k v t. (summary b k v t).0 };
      }

  pub used : ActiveHas s w (λ (k : Bank). x.used ≡ figures_of k.records)
  used b k v t = (summary b k v t).1

  pub live_fits : 24 + x.used.live ≤ 131072
  unfolding figures_of
  live_fits =
      omega
      (arith, ap (λ (f : Figures). f.live) (from_here checked used), sizes_select live (here checked).records, total_is (known checked) checked.active.kind, total_high (known checked) checked.active.kind)

-- what the code answers, by what it returns
module _ {way : Way} {caller : Caller} {s s' : Nvram} {w w' : List ℕ} (o : List ℕ) (r : Applied) (e : Option ℕ) where
  pub quiet : (n : ℕ) → (applied r ≡ committed n e 0 0) × (length_of r.written ≡ 0)
      → Does (commit way caller (length o)) s w (committed n e 0 0) [] s' w' → Commits way caller s w o r s' w' o
  quiet n p d = (record { answer = p.0 ∙ d.answer; out = ap (λ (i : ℕ). take i o) p.1 ∙ d.out; state = d.state; work = d.work }, refl)

  -- n bytes of the part of bank i at the front of the output, and the write that the answer asks for
  pub wrote : (o' : List ℕ) (i n : ℕ) → n ≤ 65536 → i * 131072 + 131072 ≤ length w'
      → (applied r ≡ committed 0 e (i * 65536) n) × (length_of r.written ≡ n) × (o' ≡ take n (drop (i * 131072) w') ++ drop n o)
      → Does (commit way caller (length o)) s w (committed 0 e (i * 65536) n) (take n (drop (i * 131072) w')) s' w'
      → Commits way caller s w o r s' w' o'
  wrote o' i n h k p d =
      let y = take n (drop (i * 131072) w') in
      let l : length y ≡ n = length-take-le n (drop (i * 131072) w') (omega (arith, length-drop (i * 131072) w')) in
      let q : drop n o' ≡ drop n o = ap (drop n) p.2 ∙ drop_at y (drop n o) n l in (
        record {
          answer = p.0 ∙ d.answer;
          out = (λ j. take (p.1 j) (p.2 j)) ∙ take_at y (drop n o) n l ∙ d.out;
          state = d.state;
          work = d.work;
        },
        subst (λ (m : ℕ). drop m o' ≡ drop m o) (sym p.1) q,
      )

-- as the code asks for the write
module _ {way : Way} {caller : Caller} {s s' : Nvram} {w w' : List ℕ} (o : List ℕ) (x : Written) (e : Option ℕ) (o' : List ℕ) (i n : ℕ) where
  pub writes : n ≤ 65536 → i * 131072 + 131072 ≤ length w' → (x.offset ≡ i * 65536) × (x.length ≡ n) × (o' ≡ take n (drop (i * 131072) w') ++ drop n o)
      → Does (commit way caller (length o)) s w (committed 0 e (i * 65536) n) (take n (drop (i * 131072) w')) s' w'
      → Commits way caller s w o (record { erase = e; written = Ok x }) s' w' o'
  writes h k p d = wrote o (record { erase = e; written = Ok x }) e o' i n h k (ap₂ (committed 0 e) p.0 p.1, p.1, p.2) d
