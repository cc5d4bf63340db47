-- What `check` answers, and what follows from each answer.
use mathlib.Core.Path.{◌≡◌, refl, sym, ap, ◌∙◌, subst}
use mathlib.Core.List.{List, []}
use mathlib.Core.Bool.{Bool, true}
use Prim.Native.Nat.{ℕ}
use lib.ListN.{length}
use Rattle.std.specs.Prelude.{Option, None, Some, is_some, Result, Ok, Err}
use Rattle.refusal.specs.Refusal.{number}
use Rattle.refusal.specs.declared.Refusal.{Refusal}
use Rattle.crc32.specs.Crc32.{Bytes}
use Rattle.buffers.proofs.Laws.{clash}
use Rattle.bank.specs.Bank.{Bank, Slot, empty, invalid, valid}
use Rattle.records.specs.Figures.{records_figures}
use Rattle.book.specs.Book.{Book, active_slot}
use Rattle.book.specs.Call.{Call, refusal}
use Rattle.nvram.specs.declared.state.Kind.TheVariants.{Valid}
use Rattle.nvram.specs.declared.state.Entry.{Entry}
use Rattle.nvram.specs.declared.state.Nvram.{Nvram}
use Rattle.nvram.specs.declared.summary.Summary.{Summary}
use Rattle.nvram.specs.Part.{entry_of}
use Rattle.nvram.specs.Soundness.{slot_summary, active_summary, soundness}
use Rattle.nvram.specs.Layout.{view}
use Rattle.nvram.specs.Ready.{active_entry}
use Rattle.nvram.specs.Contract.{Does}
use Rattle.nvram.proofs.SoundLaws.{soundness_refused, active_summary_lem}
use Rattle.nvram.proofs.CallLaws.{does_6}
use Rattle.nvram.proofs.ActiveLaws.{Sound, book, viewed, entry_is, bank, bank_is}

module _ (s : Nvram) (w : List ℕ) (bytes : Bytes w) (long : length s.banks ≡ 16) (counting : Bool) (r : Result (Option Summary) Refusal) (e : r ≡ soundness (active_summary counting) (view s w)) where
  pub check_refuses : (k : Refusal) (c : Call) → r ≡ Err k → Does c s w (refusal c (number k)) [] s w
  check_refuses k c q =
      let f = soundness_refused (active_summary counting) k (view s w) (sym q ∙ e) in
      subst (λ (i : Refusal). Does c s w (refusal c (number i)) [] s w) (sym f.0) (does_6 c s w f.1)

  pub check_sound : (o : Option Summary) → r ≡ Ok o → Sound s w
  unfolding soundness
  check_sound o q = record { bytes = bytes; long = long; ok = go (view s w) (sym q ∙ e) }
    where
      go : (v : Option Book) → Ok o ≡ soundness (active_summary counting) v → is_some v ≡ true
      go None p = clash cc
      go (Some b) p = refl

  -- no summary: the active slot is not Valid
  pub check_other : r ≡ Ok None → (active_entry s).kind ≡ Valid → ⊥
  unfolding slot_summary
  check_other q v =
      let g = check_sound None q in
      let p = active_summary_lem s w counting r e (book g) (bank g v) (viewed g) (bank_is g v) in
      clash cc

  -- a summary: it is Valid, and this is the header and what the records come to
  pub check_active : (x : Summary) → r ≡ Ok (Some x) → (active_entry s).kind ≡ Valid
  unfolding soundness active_summary slot_summary entry_of
  check_active x q =
      let g = check_sound (Some x) q in
      let p : Ok (Some x) ≡ soundness (active_summary counting) (Some (book g)) = sym q ∙ e ∙ ap (soundness (active_summary counting)) (viewed g) in
      ap (λ (y : Entry). y.kind) (entry_is g) ∙ go (active_slot (book g)) p
    where
      go : (y : Slot) → ◌≡◌ {A = Result (Option Summary) Refusal} (Ok (Some x)) (Ok (slot_summary counting y)) → (entry_of y).kind ≡ Valid
      go empty p = clash cc
      go invalid p = clash cc
      go (valid k) p = refl

  pub check_summary : (x : Summary) → r ≡ Ok (Some x) → (b : Book) (k : Bank) → view s w ≡ Some b → active_slot b ≡ valid k
      → x ≡ record { header = k.header; used = records_figures counting k.records }
  unfolding slot_summary
  check_summary x q b k p t = let y = sym q ∙ active_summary_lem s w counting r e b k p t in cc
