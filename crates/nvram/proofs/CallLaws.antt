-- A call's contract from its outcome on the book, and the refusals 6 and 7.
use Prim.Native.Nat.{ℕ}
use mathlib.Core.Path.{◌≡◌, refl, sym, ap, ◌∙◌}
use mathlib.Core.List.{List, []}
use mathlib.Core.Bool.{true, false}
use Rattle.std.specs.Prelude.{Option, None, Some, is_some}
use Rattle.buffers.proofs.Laws.{clash}
use Rattle.bank.specs.Bank.{Bank, Slot, empty, invalid, valid}
use Rattle.tally.specs.declared.Tally.{Tally}
use Rattle.tally.specs.Tally.{counted}
use Rattle.tally.proofs.TallyLaws.{counted_none}
use Rattle.book.specs.Book.{Book, active_slot}
use Rattle.book.specs.Call.{Call, edit, lookup, fetch, figures, commit, whole_image, Answer, refusal, Outcome, stay, by_slot, step}
use Rattle.book.specs.Tallied.{committer, tallied}
use Rattle.book.proofs.RefusalLaws.{refusal_asks}
use Rattle.nvram.specs.declared.state.Kind.{Kind}
use Rattle.nvram.specs.declared.state.Kind.TheVariants.{Empty, Invalid, Valid}
use Rattle.nvram.specs.declared.state.Nvram.{Nvram}
use Rattle.nvram.specs.Part.{entry_of}
use Rattle.nvram.specs.Layout.{lay_state, lay_work, view}
use Rattle.nvram.specs.Contract.{on_book, call, Does}

pub some_of : {A : Type 0} (o : Option A) → is_some o ≡ true → (x : A) × (o ≡ Some x)
some_of None e = clash cc
some_of (Some x) e = (x, refl)

none_of : {A : Type 0} (o : Option A) → is_some o ≡ false → o ≡ None
none_of None e = refl
none_of (Some x) e = clash cc

-- refused by 6: state and work area are not sound
pub does_6 : (c : Call) (s : Nvram) (w : List ℕ) → is_some (view s w) ≡ false → Does c s w (refusal c 6) [] s w
unfolding call on_book
does_6 c s w e =
    let q : view s w ≡ None = none_of (view s w) e in
    record {
      answer = sym (ap (λ (o : Option Book). (on_book o c s w).answer) q);
      out = sym (ap (λ (o : Option Book). (on_book o c s w).out) q);
      state = sym (ap (λ (o : Option Book). (on_book o c s w).state) q);
      work = sym (ap (λ (o : Option Book). (on_book o c s w).work) q);
    }

-- a refusal in the number alone is not counted
pub refusal_tally : (c : Call) (k : ℕ) (t : Tally) → tallied c (refusal c k) t ≡ t
refusal_tally c k t = ap (λ (e : Option ℕ). counted (committer c) e t) (refusal_asks c k) ∙ counted_none (committer c) t

-- what a call leaves, by the book's outcome
pub record Leaves (c : Call) (o : Outcome) (s : Nvram) (w : List ℕ) (a : Answer) (x : List ℕ) (s' : Nvram) (w' : List ℕ) : Type 0 where
  pub answer : a ≡ o.answer
  pub out : x ≡ o.out
  pub state : s' ≡ lay_state o.laid (tallied c o.answer s.tally)
  pub work : w' ≡ lay_work o.laid w

pub does : (c : Call) (s : Nvram) (w : List ℕ) (b : Book) (o : Outcome) (a : Answer) (x : List ℕ) (s' : Nvram) (w' : List ℕ)
    → view s w ≡ Some b → step b c ≡ o → Leaves c o s w a x s' w' → Does c s w a x s' w'
unfolding call on_book
does c s w b o a x s' w' v q l =
    record {
      answer = l.answer ∙ sym (ap (λ (p : Option Book). (on_book p c s w).answer) v ∙ ap (λ (p : Outcome). p.answer) q);
      out = l.out ∙ sym (ap (λ (p : Option Book). (on_book p c s w).out) v ∙ ap (λ (p : Outcome). p.out) q);
      state = l.state ∙ sym (ap (λ (p : Option Book). (on_book p c s w).state) v ∙ ap (λ (p : Outcome). lay_state p.laid (tallied c p.answer s.tally)) q);
      work = l.work ∙ sym (ap (λ (p : Option Book). (on_book p c s w).work) v ∙ ap (λ (p : Outcome). lay_work p.laid w) q);
    }

-- a slot by its entry's kind
pub kind_valid : (x : Slot) → (entry_of x).kind ≡ Valid → (k : Bank) × (x ≡ valid k)
unfolding entry_of
kind_valid (valid k) e = (k, refl)
kind_valid empty e = clash cc
kind_valid invalid e = clash cc

-- the calls that ask for the active bank right after 6
abbrev pub OnActive : Call → Type 0
OnActive (edit e) = Unit {0}
OnActive (lookup key typ) = Unit {0}
OnActive (fetch key typ) = Unit {0}
OnActive figures = Unit {0}
OnActive (commit way caller room) = ⊥
OnActive (whole_image room) = ⊥

-- refused by 7: the active slot isn't Valid
pub by_7 : (b : Book) (c : Call) (f : Bank → Outcome) (x : Slot) → ((entry_of x).kind ≡ Valid → ⊥) → by_slot b c f x ≡ stay b (refusal c 7)
unfolding by_slot entry_of
by_7 b c f empty h = refl
by_7 b c f invalid h = refl
by_7 b c f (valid k) h = absurd (h refl)

pub step_7 : (b : Book) (c : Call) → OnActive c → ((entry_of (active_slot b)).kind ≡ Valid → ⊥) → step b c ≡ stay b (refusal c 7)
unfolding step
step_7 b (edit e) u h = by_7 b (edit e) _ (active_slot b) h
step_7 b (lookup key typ) u h = by_7 b (lookup key typ) _ (active_slot b) h
step_7 b (fetch key typ) u h = by_7 b (fetch key typ) _ (active_slot b) h
step_7 b figures u h = by_7 b figures _ (active_slot b) h
step_7 b (commit way caller room) u h = absurd u
step_7 b (whole_image room) u h = absurd u

-- what is done to the bank of the active slot
pub by_valid : (b : Book) (c : Call) (f : Bank → Outcome) (k : Bank) → active_slot b ≡ valid k → by_slot b c f (active_slot b) ≡ f k
unfolding by_slot
by_valid b c f k e = ap (by_slot b c f) e

pub empty_valid : (k : Kind) → k ≡ Empty → k ≡ Valid → ⊥
empty_valid k p q = clash cc

pub invalid_valid : (k : Kind) → k ≡ Invalid → k ≡ Valid → ⊥
invalid_valid k p q = clash cc
