-- What a call that meets its contract answers and leaves: on a sound state what the book says (`keeps`), by `view_lay`; and where it is
-- refused, 12 of an old commit apart, nothing else than its number (`refusal_keeps`, to be read: demand 1 in one law);
-- so a careful commit that is refused changes nothing and asks for nothing (`careful_keeps`, to be read: 02, N4). On any state and work area
-- the tallies are those before, with its erase request counted (`does_tally`), so that no other's call changes a caller's (`other_keeps`, to be read: 02, N7).
use Prim.Native.Nat.{ℕ}
use mathlib.Core.Path.{◌≡◌, refl, sym, ap, ◌∙◌, subst}
use mathlib.Core.List.{List, []}
use mathlib.Core.Logic.{◌≢◌}
use Rattle.std.specs.Prelude.{Option, None, Some, is_some}
use mathlib.Core.Bool.{Bool, true, false}
use lib.ListN.{length}
use Rattle.crc32.specs.Crc32.{Bytes}
use Rattle.tally.specs.declared.Caller.{Caller}
use Rattle.tally.specs.declared.Tally.{Tally}
use Rattle.tally.specs.Tally.{tally_of, is_own}
use Rattle.tally.proofs.TallyLaws.{other_counted}
use Rattle.book.specs.Book.{Book, FineBook}
use Rattle.book.specs.Commit.{careful}
use Rattle.book.specs.Call.{Call, commit, ByteCall, Answer, committed, number, erase, step, refusal, stay, Follows}
use Rattle.book.specs.Tallied.{committer, tallied}
use Rattle.book.proofs.StepLaws.{step_fine, not_old}
use Rattle.book.proofs.RefusalLaws.{refusal_again, refused}
use Rattle.nvram.specs.declared.state.Nvram.{Nvram}
use Rattle.nvram.specs.Layout.{lay_state, lay_work, view}
use Rattle.nvram.specs.Contract.{on_book, call, Does}
use Rattle.nvram.proofs.LayoutLaws.{view_lay}
use Rattle.nvram.proofs.CallLaws.{does_6, refusal_tally}
use Rattle.nvram.proofs.ActiveLaws.{Sound, book, viewed, does_refuse}

-- what a call that meets its contract answers and leaves
pub record Kept (c : Call) (b : Book) (a : Answer) (x : List ℕ) (s' : Nvram) (w' : List ℕ) : Type 0 where
  pub answer : a ≡ (step b c).answer
  pub out : x ≡ (step b c).out
  pub viewed : view s' w' ≡ Some (step b c).laid

pub keeps : (c : Call) (s : Nvram) (w : List ℕ) (b : Book) (a : Answer) (x : List ℕ) (s' : Nvram) (w' : List ℕ) → ByteCall c → FineBook b
    → view s w ≡ Some b
    → Does c s w a x s' w'
    → Kept c b a x s' w'
unfolding call on_book
keeps c s w b a x s' w' y f v d =
    let t : Book = (step b c).laid in
    let m : Tally = tallied c (step b c).answer s.tally in
    let e : a ≡ (step b c).answer = d.answer ∙ ap (λ (o : Option Book). (on_book o c s w).answer) v in
    let p : s' ≡ lay_state t m = d.state ∙ ap (λ (o : Option Book). (on_book o c s w).state) v in
    let q : w' ≡ lay_work t w = d.work ∙ ap (λ (o : Option Book). (on_book o c s w).work) v in
    record {
      answer = e;
      out = d.out ∙ ap (λ (o : Option Book). (on_book o c s w).out) v;
      viewed = (λ i. view (p i) (q i)) ∙ view_lay t m w (step_fine b c y f);
    }

-- whatever the state and the work area are, a call that is refused leaves them, and answers no more than its number
pub refusal_keeps : (c : Call) (s : Nvram) (w : List ℕ) → Bytes w → length s.banks ≡ 16 → number (call c s w).answer ≢ 0
    → Follows c (number (call c s w).answer)
    → Does c s w (refusal c (number (call c s w).answer)) [] s w
unfolding call on_book
refusal_keeps c s w y l h m = go (is_some (view s w)) refl
  where
    go : (t : Bool) → is_some (view s w) ≡ t → Does c s w (refusal c (number (call c s w).answer)) [] s w
    go true q =
        let g : Sound s w = record { bytes = y; long = l; ok = q } in
        let e : (call c s w).answer ≡ (step (book g) c).answer = ap (λ (o : Option Book). (on_book o c s w).answer) (viewed g) in
        let r = refused (book g) c (λ z. h (ap number e ∙ z)) (λ o z. m o (ap number e ∙ z)) in
        does_refuse g c (number (call c s w).answer) (r ∙ ap (λ (a : Answer). stay (book g) (refusal c (number a))) (sym e))
    go false q =
        let d = does_6 c s w q in
        subst (λ (a : Answer). Does c s w a [] s w) (sym (refusal_again c 6) ∙ ap (λ (a : Answer). refusal c (number a)) d.answer) d

-- of a careful commit
pub careful_keeps : (caller : Caller) (room : ℕ) (s : Nvram) (w : List ℕ) → Bytes w → length s.banks ≡ 16 → number (call (commit careful caller room) s w).answer ≢ 0
    → Does (commit careful caller room) s w (committed (number (call (commit careful caller room) s w).answer) None 0 0) [] s w
careful_keeps caller room s w y l h = refusal_keeps (commit careful caller room) s w y l h (not_old (commit careful caller room) _ refl)

-- the tallies after any call are those before, and its erase request counted for its caller
pub does_tally : (c : Call) (s : Nvram) (w : List ℕ) (a : Answer) (x : List ℕ) (s' : Nvram) (w' : List ℕ) → Does c s w a x s' w' → s'.tally ≡ tallied c a s.tally
unfolding call on_book
does_tally c s w a x s' w' d =
    ap (λ (z : Nvram). z.tally) d.state ∙ go (view s w) ∙ ap (λ (z : Answer). tallied c z s.tally) (sym d.answer)
  where
    go : (o : Option Book) → (on_book o c s w).state.tally ≡ tallied c (on_book o c s w).answer s.tally
    go None = sym (refusal_tally c 6 s.tally)
    go (Some b) = refl

-- so no call changes the tally of a caller whose commit it isn't
pub other_keeps : (caller : Caller) (c : Call) (s : Nvram) (w : List ℕ) (a : Answer) (x : List ℕ) (s' : Nvram) (w' : List ℕ) → Does c s w a x s' w'
    → is_own caller (committer c) ≡ false
    → tally_of caller s'.tally ≡ tally_of caller s.tally
other_keeps caller c s w a x s' w' d h =
    ap (tally_of caller) (does_tally c s w a x s' w' d) ∙ other_counted caller (committer c) (erase a) s.tally h
