-- In every run, whatever is refused in it, a caller's tally is the number of erase requests in its own commits, the other's calls never change it, and
-- the total counts all (`reading_N7`). It goes by what a call's contract says of the tallies (`does_tally`), and by the requests being commits' alone.
use Prim.Native.Nat.{ℕ, ◌+◌}
use native.Mathlib.Omega.{arith}
use mathlib.Core.Path.{◌≡◌, refl, sym, ap, ap₂, ◌∙◌, subst}
use Rattle.std.specs.Prelude.{Option, None, Some}
use mathlib.Core.List.{List, [], ◌∷◌, ◌++◌, append_assoc}
use mathlib.Core.Bool.{Bool, true, false, cond}
use Rattle.tally.specs.declared.Caller.{Caller}
use Rattle.tally.specs.declared.Caller.TheVariants.{Clock, Barrel}
use Rattle.tally.specs.declared.Tally.{Tally}
use Rattle.tally.specs.Tally.{stopped, counted_if, is_own, tally_of, no_tally}
use Rattle.tally.proofs.TallyLaws.{counted_tally, stopped_sum}
use Rattle.book.specs.Book.{Book}
use Rattle.book.specs.Commit.{next_bank, next_slot, request}
use Rattle.book.specs.Call.{Call, Answer, erase, Outcome, step}
use Rattle.book.specs.Tallied.{committer, tallied}
use Rattle.book.proofs.Did.{refuses, reads, edits, writes, moves, overflows, Did, did}
use Rattle.book.proofs.RefusalLaws.{refusal_asks}
use Rattle.nvram.specs.declared.state.Nvram.{Nvram}
use Rattle.nvram.specs.Layout.{view}
use Rattle.nvram.specs.Contract.{on_book, call, Does}
use Rattle.nvram.proofs.KeepLaws.{does_tally}
use Rattle.run.specs.Run.{Event, Run, opened_book, Page, pages, Each}
use Rattle.run.specs.Wear.{requested, requests, requested_by, requests_by}
use Rattle.run.specs.Demand.{ClaimN7}
use Rattle.run.proofs.Idle.{idle_read, idle_quiet}
use Rattle.run.proofs.Start.{starts}

-- every request is in a commit, the clock's or the barrel's

abbrev Shared : Option Caller → Option ℕ → Type 0
Shared o e = requested e ≡ cond (is_own Clock o) (requested e) 0 + cond (is_own Barrel o) (requested e) 0

commit_shared : (caller : Caller) (e : Option ℕ) → Shared (Some caller) e
commit_shared Clock e = omega arith
commit_shared Barrel e = omega arith

quiet_shared : (o : Option Caller) (e : Option ℕ) → e ≡ None → Shared o e
quiet_shared None e h = ap requested h
quiet_shared (Some caller) e h = commit_shared caller e

did_shared : (b : Book) (c : Call) (o : Outcome) → Did b c o → Shared (committer c) (erase o.answer)
did_shared b c o (refuses k n) = quiet_shared (committer c) _ (refusal_asks c k)
did_shared b c o (reads a x r) = quiet_shared (committer c) _ (idle_quiet a (idle_read c a r))
did_shared b c o (edits e d) = refl
did_shared b c o (writes way caller room d) = commit_shared caller None
did_shared b c o (moves way caller room d l) = commit_shared caller (request (next_slot b) (next_bank b))
did_shared b c o (overflows caller room d l) = commit_shared caller (request (next_slot b) (next_bank b))

does_shared : (c : Call) (s : Nvram) (w : List ℕ) (a : Answer) (x : List ℕ) (s' : Nvram) (w' : List ℕ) → Does c s w a x s' w' → Shared (committer c) (erase a)
unfolding call on_book
does_shared c s w a x s' w' d = subst (λ (y : Answer). Shared (committer c) (erase y)) (sym d.answer) (go (view s w))
  where
    go : (o : Option Book) → Shared (committer c) (erase (on_book o c s w).answer)
    go None = quiet_shared (committer c) _ (refusal_asks c 6)
    go (Some b) = did_shared b c (step b c) (did b c)

-- a page: the tallies before it are t
record Tallied (t : Tally) (p : Page) : Type 0 where
  tally : p.event.state.tally ≡ tallied p.event.call p.event.answer t
  shared : Shared (committer p.event.call) (erase p.event.answer)

abbrev AllTallied : Tally → List Page → Type 0
AllTallied t [] = Unit {0}
AllTallied t (p ∷ ps) = Tallied t p × AllTallied p.event.state.tally ps

all_tallied : (b : Book) (s : Nvram) (w : List ℕ) (es : List Event) → Run s w es → AllTallied s.tally (pages b es)
unfolding pages
all_tallied b s w [] r = tt
all_tallied b s w (e ∷ es) r = (
  record {
    tally = does_tally e.call s w e.answer e.out e.state e.work r.1;
    shared = does_shared e.call s w e.answer e.out e.state e.work r.1;
  },
  all_tallied (step b e.call).after e.state e.work es r.2,
)

-- a caller's tally, k requests after the opening

counted_is : (own : Bool) (e : Option ℕ) (t k : ℕ) → t ≡ stopped k → counted_if own e t ≡ stopped (k + cond own (requested e) 0)
counted_is false e t k h = omega arith
counted_is true None t k h = omega arith
counted_is true (Some offset) t k h = omega arith

none_counted : (caller : Caller) → tally_of caller no_tally ≡ stopped 0
none_counted Clock = refl
none_counted Barrel = refl

module _ (caller : Caller) where
  abbrev asked : Page → ℕ
  asked p = requested_by caller p.event.call p.event.answer

  one_page : (t : Tally) (k : ℕ) (p : Page) → tally_of caller t ≡ stopped k → Tallied t p → tally_of caller p.event.state.tally ≡ stopped (k + asked p)
  one_page t k p h c =
      ap (tally_of caller) c.tally ∙ counted_tally caller (committer p.event.call) (erase p.event.answer) t
      ∙ counted_is (is_own caller (committer p.event.call)) (erase p.event.answer) (tally_of caller t) k h

  tally_at_lem : (t : Tally) (k : ℕ) (ps : List Page) (p : Page) (qs : List Page) → tally_of caller t ≡ stopped k → AllTallied t (ps ++ (p ∷ qs))
      → tally_of caller p.event.state.tally ≡ stopped (k + requests_by caller (ps ++ (p ∷ [])))
  unfolding requests_by
  tally_at_lem t k [] p qs h a = one_page t k p h a.0 ∙ omega arith
  tally_at_lem t k (q ∷ ps) p qs h a = omega (arith, tally_at_lem q.event.state.tally (k + asked q) ps p qs (one_page t k q h a.0) a.1)

  by_end : (ps : List Page) (p : Page) → requests_by caller (ps ++ (p ∷ [])) ≡ requests_by caller ps + asked p
  unfolding requests_by
  by_end [] p = omega arith
  by_end (q ∷ ps) p = omega (arith, by_end ps p)

  -- a call that isn't the caller's own commit adds none
  by_other : (ps : List Page) (p : Page) → is_own caller (committer p.event.call) ≡ false → requests_by caller (ps ++ (p ∷ [])) ≡ requests_by caller ps
  by_other ps p u =
      by_end ps p ∙ ap (λ (own : Bool). requests_by caller ps + cond own (requested (erase p.event.answer)) 0) u ∙ omega arith

-- all requests
requests_shared : (t : Tally) (ps qs : List Page) → AllTallied t (ps ++ qs) → requests ps ≡ requests_by Clock ps + requests_by Barrel ps
unfolding requests requests_by
requests_shared t [] qs a = refl
requests_shared t (p ∷ ps) qs a = omega (arith, a.0.shared, requests_shared p.event.state.tally ps qs a.1)

pub reading_N7 : ClaimN7
reading_N7 image work s w es o r n =
    let b = opened_book image in
    let c : AllTallied no_tally (pages b es) = subst (λ (t : Tally). AllTallied t (pages b es)) (starts image work s w o).tally (all_tallied b s w es r) in
    let own : Each (pages b es) (λ earlier p. (caller : Caller) → tally_of caller p.event.state.tally ≡ stopped (requests_by caller (earlier ++ (p ∷ [])))) =
    λ earlier p later h caller. tally_at_lem caller no_tally 0 earlier p later (none_counted caller) (subst (AllTallied no_tally) h c) ∙ omega arith in
    record {
      own = own;
      others = λ earlier before p later caller h u.
          let ps = earlier ++ (before ∷ []) in
          own ps p later (h ∙ sym (append_assoc earlier (before ∷ []) (p ∷ later))) caller ∙ ap stopped (by_other caller ps p u)
          ∙ sym (own earlier before (p ∷ later) h caller);
      total = λ earlier p later h.
          let ps = earlier ++ (p ∷ []) in
          let q : pages b es ≡ ps ++ later = h ∙ sym (append_assoc earlier (p ∷ []) later) in
          ap₂ (λ (j k : ℕ). stopped (j + k)) (own earlier p later h Clock) (own earlier p later h Barrel)
          ∙ stopped_sum (requests_by Clock ps) (requests_by Barrel ps)
          ∙ ap stopped (sym (requests_shared no_tally ps later (subst (AllTallied no_tally) q c)));
    }
