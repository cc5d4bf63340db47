-- The check of a whole table with its work area: its walk over the slots, and one law for each exit. To be read, nothing cites them: `view_low`,
-- `view_high`, `view_outside` and `view_short`, by the number that is out of range.
use Prim.Native.Nat.{ℕ, zero, suc, ◌+◌, ◌*◌, ◌-◌, ◌≤◌, ◌<◌}
use mathlib.Core.Path.{◌≡◌, refl, sym, ap, ap₂, ◌∙◌, subst}
use Rattle.std.specs.Simd.{first_chunks}
use mathlib.Core.List.{List, [], ◌∷◌}
use mathlib.Core.Bool.{Bool, true, false, ◌&&◌, cond, and-true}
use Rattle.std.specs.Prelude.{Option, None, Some, Result, Ok, Err}
use native.Mathlib.Omega.{arith}
use native.Mathlib.Nat.{sub-zero, zero-mul}
use native.Mathlib.Numerals.{add-one}
use lib.ListN.{length, get_or, take, drop}
use lib.Seq.{drop-cons, drop-drop}
use lib.Dec.{eqb}
use borrow.Author.Tests.{eq-eqb, ne_eqb, le-leb, lt-leb, lt-ltb, le-ltb}
use Rattle.buffers.proofs.Laws.{clash}
use Rattle.refusal.specs.declared.Refusal.{Refusal}
use Rattle.refusal.specs.declared.Refusal.TheVariants.{NotSound}
use Rattle.bank.specs.Bank.{Slot}
use Rattle.book.specs.Book.{part_size}
use Rattle.book.proofs.BookLaws.{part_size_lem}
use Rattle.nvram.proofs.LayoutLaws.{range_back}
use Rattle.nvram.specs.declared.state.Kind.TheVariants.{Empty}
use Rattle.nvram.specs.declared.state.Entry.{Entry}
use Rattle.nvram.specs.declared.state.Nvram.{Nvram}
use Rattle.nvram.specs.declared.summary.Summary.{Summary}
use Rattle.nvram.specs.Part.{entry, view_slot}
use Rattle.nvram.specs.Layout.{all_free, prepend_slot, view_slots, book_with, in_range, view}
use Rattle.nvram.specs.Soundness.{slot_summary, summary_at, active_summary, soundness}

-- what the walk ends with when it comes with u to these slots, the first of them number i
unfoldable pub summary_from : Bool → ℕ → ℕ → Option Summary → List Slot → Option Summary
summary_from c a i u [] = u
summary_from c a i u (s ∷ ss) = summary_from c a (i + 1) (cond (eqb i a) (slot_summary (c && eqb i a) s) u) ss

summary_past : (c : Bool) (a i : ℕ) (u : Option Summary) (ss : List Slot) → a < i → summary_from c a i u ss ≡ u
unfolding summary_from
summary_past c a i u [] h = refl
summary_past c a i u (s ∷ ss) h = let n : eqb i a ≡ false = ne_eqb i a (λ e. omega arith) in rw n (summary_past c a (i + 1) u ss (omega arith))

summary_ahead : (c : Bool) (a k i : ℕ) (ss : List Slot) → i + k ≡ a → summary_from c a i None ss ≡ summary_at c k ss
unfolding summary_from summary_at slot_summary
summary_ahead c a k i [] h = refl
summary_ahead c a zero i (s ∷ ss) h =
    let e : eqb i a ≡ true = eq-eqb i a (omega arith) in
    rw (e, and-true c) (summary_past c a (i + 1) (slot_summary c s) ss (omega arith))
summary_ahead c a (suc k) i (s ∷ ss) h =
    let n : eqb i a ≡ false = ne_eqb i a (λ e. omega arith) in
    rw n (summary_ahead c a k (i + 1) ss (omega arith))

soundness_same : {A : Type 0} {f g : A → Option Summary} → ((x : A) → f x ≡ g x) → (o : Option A) → soundness f o ≡ soundness g o
unfolding soundness
soundness_same e None = refl
soundness_same e (Some x) = ap Ok (e x)

-- one slot before others
module _ (c : Bool) (a i : ℕ) (u : Option Summary) where
  -- of what is known of the slot itself
  abbrev here : Option Slot → Result (Option Summary) Refusal
  here o = soundness (slot_summary (c && eqb i a)) o

  prepend_fails : (o : Option Slot) (r : Option (List Slot)) (k : Refusal) → Err k ≡ here o
      → soundness (summary_from c a i u) (prepend_slot o r) ≡ Err k
  unfolding soundness prepend_slot
  prepend_fails None r k e = sym e
  prepend_fails (Some s) r k e = clash cc

  prepend_holds : (o : Option Slot) (r : Option (List Slot)) (x : Option Summary) → Ok x ≡ here o
      → soundness (summary_from c a i u) (prepend_slot o r) ≡ soundness (summary_from c a (i + 1) (cond (eqb i a) x u)) r
  unfolding soundness prepend_slot summary_from
  prepend_holds None r x e = clash cc
  prepend_holds (Some s) None x e = refl
  prepend_holds (Some s) (Some ss) x e =
      let q : x ≡ slot_summary (c && eqb i a) s = cc in
      ap (λ (y : Option Summary). Ok (summary_from c a (i + 1) (cond (eqb i a) y u) ss)) (sym q)

-- a part as the code has it
chunk_at : (n k i : ℕ) (w d : List ℕ) → i < k → get_or (first_chunks n k w) i d ≡ take n (drop (i * n) w)
chunk_at n zero i w d h = absurd (omega arith)
chunk_at n (suc k) zero w d h = ap (λ (j : ℕ). take n (drop j w)) (sym (zero-mul n))
chunk_at n (suc k) (suc i) w d h =
    let e : n + i * n ≡ suc i * n = omega arith in
    chunk_at n k i (drop n w) d (omega arith) ∙ rw (drop-drop (i * n) n w, e) refl

pub part_at : (k i : ℕ) (w d : List ℕ) → i < k → get_or (first_chunks 131072 k w) i d ≡ take part_size (drop (i * part_size) w)
unfolding part_size
part_at k i w d h = chunk_at 131072 k i w d h

-- the first n entries with their parts
module _ (n : ℕ) (es : List Entry) (w : List ℕ) where
  abbrev slot_at : ℕ → Option Slot
  slot_at i = view_slot (get_or es i (entry Empty 0 0)) (take part_size (drop (i * part_size) w))

  -- what is left to view after i slots
  abbrev slots_from : ℕ → Option (List Slot)
  slots_from i = view_slots (n - i) (drop i es) (drop (i * part_size) w)

  slots_more : (i : ℕ) → i < n → i < length es → slots_from i ≡ prepend_slot (slot_at i) (slots_from (i + 1))
  unfolding view_slots
  slots_more i h l =
      let k : n - i ≡ suc (n - (i + 1)) = omega arith in
      let d : drop i es ≡ get_or es i (entry Empty 0 0) ∷ drop (i + 1) es = rw (add-one, drop-cons es i (entry Empty 0 0)) in
      let m : i * part_size + part_size ≡ (i + 1) * part_size = omega arith in
      let p : drop part_size (drop (i * part_size) w) ≡ drop ((i + 1) * part_size) w = rw (drop-drop, m) in
      ap₂ (λ (j : ℕ) (x : List Entry). view_slots j x (drop (i * part_size) w)) k d
      ∙ ap (λ (x : List ℕ). prepend_slot (slot_at i) (view_slots (n - (i + 1)) (drop (i + 1) es) x)) p

  slots_none : slots_from n ≡ cond (all_free (drop n es)) (Some []) None
  unfolding view_slots
  slots_none = let z : n - n ≡ 0 = omega arith in ap (λ (j : ℕ). view_slots j (drop n es) (drop (n * part_size) w)) z

  module _ (c : Bool) (a : ℕ) where
    -- what the walk answers when it comes with u to slot i
    abbrev pub walk_from : Option Summary → ℕ → Result (Option Summary) Refusal
    walk_from u i = soundness (summary_from c a i u) (slots_from i)

    pub walk_start : soundness (summary_at c a) (view_slots n es w) ≡ walk_from None 0
    walk_start =
        (λ j. soundness (summary_at c a) (view_slots (sym (sub-zero n) j) es (drop (sym (zero-mul part_size) j) w)))
        ∙ sym (soundness_same (λ ss. summary_ahead c a a 0 ss (omega arith)) (slots_from 0))

    module _ (u : Option Summary) (i : ℕ) where
      -- p is the part that stands there
      module _ (h : i < n) (l : i < length es) (p : List ℕ) (at : p ≡ take part_size (drop (i * part_size) w)) where
        abbrev found : Result (Option Summary) Refusal
        found = here c a i u (view_slot (get_or es i (entry Empty 0 0)) p)

        found_is : found ≡ here c a i u (slot_at i)
        found_is = ap (λ (x : List ℕ). here c a i u (view_slot (get_or es i (entry Empty 0 0)) x)) at

        pub walk_fails : (k : Refusal) → Err k ≡ found → walk_from u i ≡ Err k
        walk_fails k e =
            ap (soundness (summary_from c a i u)) (slots_more i h l) ∙ prepend_fails c a i u (slot_at i) (slots_from (i + 1)) k (e ∙ found_is)

        pub walk_holds : (x : Option Summary) → Ok x ≡ found → walk_from u i ≡ walk_from (cond (eqb i a) x u) (i + 1)
        walk_holds x e =
            ap (soundness (summary_from c a i u)) (slots_more i h l) ∙ prepend_holds c a i u (slot_at i) (slots_from (i + 1)) x (e ∙ found_is)

      module _ (e : n ≡ i) where
        walk_last : walk_from u i ≡ soundness (summary_from c a i u) (cond (all_free (drop n es)) (Some []) None)
        walk_last = ap (λ (j : ℕ). soundness (summary_from c a i u) (slots_from j)) (sym e) ∙ ap (soundness (summary_from c a i u)) slots_none

        pub walk_unfree : all_free (drop n es) ≡ false → walk_from u i ≡ Err NotSound
        unfolding soundness
        walk_unfree q = walk_last ∙ rw q refl

        pub walk_free : all_free (drop n es) ≡ true → walk_from u i ≡ Ok u
        unfolding soundness summary_from
        walk_free q = walk_last ∙ rw q refl

-- the whole
sound_book : (c : Bool) (s : Nvram) (o : Option (List Slot)) → soundness (summary_at c s.active) o ≡ soundness (active_summary c) (book_with s o)
unfolding soundness summary_at active_summary book_with
sound_book c s None = refl
sound_book c s (Some ss) = refl

module _ (s : Nvram) (w : List ℕ) where
  pub view_beyond : in_range s w ≡ false → view s w ≡ None
  unfolding view
  view_beyond e = rw e refl

  -- by the first number that is out of range
  pub view_low : s.n < 1 → view s w ≡ None
  view_low a = view_beyond (simp (lt-leb _ _ a))

  module _ (a : 1 ≤ s.n) where
    pub view_high : 16 < s.n → view s w ≡ None
    view_high b = view_beyond (simp (le-leb _ _ a, lt-leb _ _ b))

    module _ (b : s.n ≤ 16) where
      pub view_outside : s.n ≤ s.active → view s w ≡ None
      view_outside c = view_beyond (simp (le-leb _ _ a, le-leb _ _ b, le-ltb _ _ c))

      module _ (c : s.active < s.n) where
        pub view_short : length w < s.n * 131072 → view s w ≡ None
        unfolding part_size
        view_short d = view_beyond (simp (le-leb _ _ a, le-leb _ _ b, lt-ltb _ _ c, lt-leb _ _ d))

  module _ (e : in_range s w ≡ true) where
    pub few : s.n ≤ 16
    few = (range_back s w e).high

    pub room : s.n * 131072 ≤ length w
    room = subst (λ (i : ℕ). s.n * i ≤ length w) part_size_lem (range_back s w e).room

    pub view_slots_lem : (t : Bool) → soundness (summary_at t s.active) (view_slots s.n s.banks w) ≡ soundness (active_summary t) (view s w)
    unfolding view
    view_slots_lem t = rw e (sound_book t s (view_slots s.n s.banks w))
