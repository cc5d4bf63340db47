-- What the check answers, by what it looks for; the check of one slot, a law for each exit; and the walk over the entries behind the last.
use Prim.Native.Nat.{ℕ, ◌-◌, ◌≤◌}
use mathlib.Core.Path.{◌≡◌, refl, sym, ap, ◌∙◌}
use mathlib.Core.List.{List}
use mathlib.Core.Bool.{Bool, true, false}
use Rattle.std.specs.Prelude.{Option, None, Some, option_map, is_some, Result, Ok, Err, is_ok}
use lib.ListN.{take, drop}
use borrow.Author.Tests.{leb-true}
use Rattle.buffers.proofs.Laws.{clash, and_both}
use Rattle.refusal.specs.declared.Refusal.{Refusal}
use Rattle.refusal.specs.declared.Refusal.TheVariants.{NotSound}
use Rattle.bank.specs.declared.header.StoreHeader.{StoreHeader}
use Rattle.bank.specs.declared.header.HeaderFault.{HeaderFault}
use Rattle.bank.specs.Header.{read_header}
use Rattle.bank.specs.Record.{Record}
use Rattle.bank.specs.Bank.{Bank, Slot, valid}
use Rattle.records.specs.View.{view_records}
use Rattle.records.specs.declared.figures.Figures.{Figures}
use Rattle.records.specs.Figures.{records_figures}
use Rattle.book.specs.Book.{part_size, Book, active_slot}
use Rattle.nvram.specs.declared.state.Kind.{Kind}
use Rattle.nvram.specs.declared.state.Kind.TheVariants.{Empty, Invalid, Valid}
use Rattle.nvram.specs.declared.state.Entry.{Entry}
use Rattle.nvram.specs.declared.state.Nvram.{Nvram}
use Rattle.nvram.specs.declared.summary.Summary.{Summary}
use Rattle.nvram.specs.Part.{slot_with, fits, view_head, is_blank, view_kind, view_slot}
use Rattle.nvram.specs.Soundness.{slot_summary, active_summary, soundness}
use Rattle.nvram.specs.Layout.{view}

-- what it answers
module _ {A : Type 0} (f : A → Option Summary) where
  pub soundness_none : {o : Option A} → o ≡ None → Err NotSound ≡ soundness f o
  unfolding soundness
  soundness_none e = ap (soundness f) (sym e)

  pub soundness_sound : (r : Result (Option Summary) Refusal) (o : Option A) → r ≡ soundness f o → is_ok r ≡ is_some o
  unfolding soundness
  soundness_sound r None e = ap is_ok e
  soundness_sound r (Some y) e = ap is_ok e

  -- the one refusal, where nothing is viewed
  pub soundness_refused : (k : Refusal) (o : Option A) → Err k ≡ soundness f o → (k ≡ NotSound) × (is_some o ≡ false)
  unfolding soundness
  soundness_refused k None e = (cc, refl)
  soundness_refused k (Some y) e = clash cc

-- of the active bank
module _ (s : Nvram) (w : List ℕ) (counting : Bool) (r : Result (Option Summary) Refusal) (e : r ≡ soundness (active_summary counting) (view s w)) where
  pub active_summary_lem : (b : Book) (k : Bank) → view s w ≡ Some b → active_slot b ≡ valid k → r ≡ Ok (slot_summary counting (valid k))
  unfolding soundness active_summary
  active_summary_lem b k p q =
      e ∙ ap (soundness (active_summary counting)) p ∙ ap (λ (x : Slot). Ok (slot_summary counting x)) q

-- a Valid entry and a part with a header
module _ (h : StoreHeader) (e : Entry) (p : List ℕ) where
  pub head_unfit : fits h e p ≡ false → view_head (Ok h) e p ≡ None
  unfolding view_head
  head_unfit t = rw t refl

  module _ (t : fits h e p ≡ true) where
    pub head_fit : slot_with h e.usable (view_records (take (e.total - 24) (drop 24 p))) ≡ view_head (Ok h) e p
    unfolding view_head
    head_fit = rw t refl

    pub total_high : e.total ≤ 131072
    unfolding part_size
    total_high = leb-true _ _ (and_both _ _ (and_both _ _ (and_both _ _ t).1).1).0

-- a bank by the check of its records
module _ (h : StoreHeader) (counting : Bool) (u : ℕ) where
  pub records_none : (o : Option (List Record)) → None ≡ option_map (records_figures counting) o
      → Err NotSound ≡ soundness (slot_summary counting) (slot_with h u o)
  unfolding slot_with soundness
  records_none None e = refl
  records_none (Some rs) e = clash cc

  pub records_some : (o : Option (List Record)) (f : Figures) → Some f ≡ option_map (records_figures counting) o
      → Ok (Some (record { header = h; used = f })) ≡ soundness (slot_summary counting) (slot_with h u o)
  unfolding slot_with soundness slot_summary
  records_some None f e = clash cc
  records_some (Some rs) f e = let q : f ≡ records_figures counting rs = cc in ap (λ (x : Figures). Ok (Some (record { header = h; used = x }))) q

-- a slot by its kind
module _ (e : Entry) (p : List ℕ) where
  by_kind : (k : Kind) → e.kind ≡ k → view_kind k e p ≡ view_slot e p
  unfolding view_slot
  by_kind k q = ap (λ (x : Kind). view_kind x e p) (sym q)

  module _ (counting : Bool) (h : (e.kind ≡ Valid) → ⊥) where
    pub slot_blank : is_blank e p ≡ true → Ok None ≡ soundness (slot_summary counting) (view_slot e p)
    unfolding view_kind slot_summary soundness
    slot_blank t = go e.kind refl
      where
        go : (k : Kind) → e.kind ≡ k → Ok None ≡ soundness (slot_summary counting) (view_slot e p)
        go Empty q = rw (← by_kind Empty q, t) refl
        go Invalid q = rw (← by_kind Invalid q, t) refl
        go Valid q = absurd (h q)

    pub slot_not_blank : is_blank e p ≡ false → Err NotSound ≡ soundness (slot_summary counting) (view_slot e p)
    unfolding view_kind soundness
    slot_not_blank t = go e.kind refl
      where
        go : (k : Kind) → e.kind ≡ k → Err NotSound ≡ soundness (slot_summary counting) (view_slot e p)
        go Empty q = rw (← by_kind Empty q, t) refl
        go Invalid q = rw (← by_kind Invalid q, t) refl
        go Valid q = absurd (h q)

  pub slot_head : e.kind ≡ Valid → (o : Result StoreHeader HeaderFault) → o ≡ read_header p → view_head o e p ≡ view_slot e p
  unfolding view_kind
  slot_head q o g = ap (λ (x : Result StoreHeader HeaderFault). view_head x e p) g ∙ by_kind Valid q

  pub head_bad : (o : Result StoreHeader HeaderFault) → ((h : StoreHeader) → o ≡ Ok h → ⊥) → view_head o e p ≡ None
  unfolding view_head
  head_bad (Ok h) n = absurd (n h refl)
  head_bad (Err f) n = refl
