-- A run's pages, with what is known before each of them: the book beside the flash, and that the call answers what the book answers.
use Prim.Native.Nat.{ℕ, ◌+◌, ◌<◌}
use native.Mathlib.Omega.{arith}
use mathlib.Core.Path.{◌≡◌, refl, sym, ap, ◌∙◌, subst}
use Rattle.std.specs.Prelude.{Option, Some}
use mathlib.Core.List.{List, [], ◌∷◌, ◌++◌}
use Rattle.crc32.specs.Crc32.{Bytes}
use Rattle.bank.specs.Bank.{Bank, valid}
use Rattle.bank.proofs.PaddedLaws.{blanks}
use Rattle.bank.proofs.ReadLaws.{empty_ff}
use Rattle.book.specs.Edit.{edited_by}
use Rattle.book.specs.Book.{Book, FineBook, active_slot, with_bank, slot_size}
use Rattle.book.specs.Opening.{bank_in, read_slots, banks_of}
use Rattle.book.specs.Call.{Call, Answer, committed, number, erase, refusal, Follows, Outcome, step}
use Rattle.book.proofs.Did.{refuses, reads, edits, writes, moves, overflows, Did, did}
use Rattle.book.proofs.StepLaws.{next_inside, step_fine, settled}
use Rattle.nvram.specs.declared.state.Nvram.{Nvram}
use Rattle.nvram.specs.Layout.{view}
use Rattle.nvram.proofs.KeepLaws.{keeps}
use Rattle.run.specs.Flash.{carried_out}
use Rattle.run.specs.Run.{Opens, Event, Run, opened_book, Page, pages, Each}
use Rattle.run.specs.Wear.{active_size, requested, requests}
use Rattle.run.specs.Demand.{flash_after}
use Rattle.run.proofs.Idle.{Idle, idle_refusal, idle_read, idle_quiet, idle_flash, no_commit}
use Rattle.run.proofs.EachLaws.{each_first, each_rest}
use Rattle.run.proofs.FlashLaws.{bank_long}
use Rattle.run.proofs.ChoiceLaws.{slot_at, active_most}
use Rattle.run.proofs.Aged.{aged_edited}
use Rattle.run.proofs.Invariant.{Base, InFlash, UpToDate, enough, active_stored, move_current, write_base, write_current, edit_base, edit_fixed}
use Rattle.run.proofs.Start.{Starts, starts}

-- one call

-- the book and the flash, m erase requests after the opening of a book
pub record State (opened : Book) (flash : List ℕ) (b : Book) (m : ℕ) : Type 0 where
  pub base : Base flash b
  pub fixed : 0 < m → InFlash flash b
  pub banks : b.n ≡ opened.n
  pub size : active_size b ≡ active_size opened

module _ (b₀ : Book) (f : List ℕ) (b : Book) (m : ℕ) (s : State b₀ f b m) where
  -- a bank of the same size stored
  same_size : (k k' : Bank) (i : ℕ) → active_slot b ≡ valid k → i < b.n → k'.header.size ≡ k.header.size → active_size (with_bank b i k') ≡ active_size b₀
  same_size k k' i e l q =
      ap slot_size (active_stored b s.base.fine i l k') ∙ q ∙ sym (ap slot_size e) ∙ s.size

  still : (a : Answer) (x : List ℕ) → Idle a → State b₀ (carried_out a x f) b (m + requested (erase a))
  still a x i =
      rw (idle_flash a i x f, idle_quiet a i) (record { base = s.base; fixed = λ h. s.fixed (omega arith); banks = s.banks; size = s.size })

  stepped : (c : Call) (o : Outcome) → FineBook o.after → Follows c (number o.answer) → Did b c o
      → State b₀ (carried_out o.answer o.out f) o.after (m + requested (erase o.answer))
  stepped c o fine h (refuses k n) = still (refusal c k) [] (idle_refusal c k n.not_0)
  stepped c o fine h (reads a x r) = still a x (idle_read c a r)
  stepped c o fine h (edits e d) =
      let newer = edited_by e d.bank.records in
      record {
        base = edit_base f b s.base d.bank d.was newer fine;
        fixed = λ p. edit_fixed f b s.base d.bank d.was newer fine (aged_edited e d.bank.records) (s.fixed (omega arith));
        banks = s.banks;
        size = same_size d.bank _ b.active d.was s.base.fine.inside refl;
      }
  stepped c o fine h (writes way caller room d) =
      record {
        base = write_base f b s.base d.bank d.was d.fits;
        fixed = λ p. (write_current f b s.base d.bank d.was d.fits (s.fixed (omega arith))).fixed;
        banks = s.banks;
        size = s.size;
      }
  stepped c o fine h (moves way caller room d l) =
      let x = move_current f b s.base d.bank d.was l d.left fine in
      record { base = x.base; fixed = λ p. x.fixed; banks = s.banks; size = same_size d.bank _ _ d.was (next_inside b s.base.fine) refl }
  stepped c o fine h (overflows caller room d l) = absurd (h refl refl)

  -- an accepted commit, an erase being requested by now
  committed_current : (c : Call) (o : Outcome) (e : Option ℕ) (offset long : ℕ) → FineBook o.after → Follows c (number o.answer)
      → o.answer ≡ committed 0 e offset long
      → 0 < m + requested (erase o.answer)
      → Did b c o
      → UpToDate (carried_out o.answer o.out f) o.after
  committed_current c o e offset long fine h a p (refuses k n) = absurd (no_commit (idle_refusal c k n.not_0) a)
  committed_current c o e offset long fine h a p (reads y x r) = absurd (no_commit (idle_read c y r) a)
  committed_current c o e offset long fine h a p (edits x d) = absurd (no_commit tt a)
  committed_current c o e offset long fine h a p (writes way caller room d) =
      write_current f b s.base d.bank d.was d.fits (s.fixed (omega arith))
  committed_current c o e offset long fine h a p (moves way caller room d l) = move_current f b s.base d.bank d.was l d.left fine
  committed_current c o e offset long fine h a p (overflows caller room d l) = absurd (h refl refl)

-- a page that is of one call on the book b
pub record At (b : Book) (p : Page) : Type 0 where
  pub before : p.before ≡ b
  pub after : p.after ≡ (step b p.event.call).after
  pub fine : FineBook p.after
  pub answer : p.event.answer ≡ (step b p.event.call).answer
  pub out : p.event.out ≡ (step b p.event.call).out
  pub follows : Follows p.event.call (number (step b p.event.call).answer)
  pub viewed : view p.event.state p.event.work ≡ Some p.after

-- the flash after a page, and the erase requests
abbrev pub flash_of : List ℕ → Page → List ℕ
flash_of f p = carried_out p.event.answer p.event.out f

abbrev pub asks : Page → ℕ
asks p = requested (erase p.event.answer)

module _ (b₀ : Book) (f : List ℕ) (b : Book) (m : ℕ) (s : State b₀ f b m) (p : Page) (a : At b p) where
  after_fine : FineBook (step b p.event.call).after
  after_fine = subst FineBook a.after a.fine

  turned : State b₀ (flash_of f p) p.after (m + asks p)
  turned =
      rw (a.answer, a.out, a.after) (stepped b₀ f b m s p.event.call (step b p.event.call) after_fine a.follows (did b p.event.call))

  pub current_at : (e : Option ℕ) (offset long : ℕ) → p.event.answer ≡ committed 0 e offset long → 0 < m + asks p → UpToDate (flash_of f p) p.after
  current_at e offset long q h =
      rw (a.answer, a.out, a.after)
      (committed_current b₀ f b m s p.event.call (step b p.event.call) e offset long after_fine a.follows (sym a.answer ∙ q)
      (subst (λ (x : Answer). 0 < m + requested (erase x)) a.answer h) (did b p.event.call))

-- every call

abbrev pub Along : Book → List ℕ → Book → ℕ → List Page → Type 0
Along b₀ f b m [] = State b₀ f b m
Along b₀ f b m (p ∷ ps) = State b₀ f b m × At b p × Along b₀ (flash_of f p) p.after (m + asks p) ps

-- a premise about each call, given the flash before it, by which the state follows the book
module _ (Premise : List ℕ → Page → Type 0) (enough : (f : List ℕ) (p : Page) → Premise f p → Follows p.event.call (number p.event.answer)) where
  along : (b₀ : Book) (f : List ℕ) (b : Book) (m : ℕ) (s : Nvram) (w : List ℕ) (es : List Event) → State b₀ f b m → view s w ≡ Some b → Run s w es
      → Each (pages b es) (λ earlier p. Premise (flash_after f earlier) p)
      → Along b₀ f b m (pages b es)
  unfolding pages flash_after
  along b₀ f b m s w [] x v r n = x
  along b₀ f b m s w (e ∷ es) x v r n =
      let c = e.call in
      let p : Page = record { before = b; event = e; after = (step b c).after } in
      let ps = pages (step b c).after es in
      let k = keeps c s w b e.answer e.out e.state e.work r.0 x.base.fine v r.1 in
      let h : Follows c (number (step b c).answer) = subst (λ (a : Answer). Follows c (number a)) k.answer (enough f p (each_first p ps _ n)) in
      let same : (step b c).laid ≡ (step b c).after = settled b c h in
      let a : At b p =
      record {
        before = refl;
        after = refl;
        fine = subst FineBook same (step_fine b c r.0 x.base.fine);
        answer = k.answer;
        out = k.out;
        follows = h;
        viewed = k.viewed ∙ ap Some same;
      } in
      let rest = along b₀ (flash_of f p) p.after (m + asks p) e.state e.work es (turned b₀ f b m x p a) a.viewed r.2 (each_rest p ps _ n) in
      (x, a, rest)

-- from the opening

at_start : (image work : List ℕ) (s : Nvram) (w : List ℕ) → Bytes image → Starts image work s w → Base image (opened_book image)
at_start image work s w bytes q =
    record {
      bytes = bytes;
      fine = q.fine;
      count = refl;
      most = q.most;
      blank = λ j l e.
          empty_ff (bank_in image j) (sym (slot_at n image j l) ∙ e) ∙ ap blanks (bank_long image n j l (enough image n refl));
      low = λ k e j l k' e'. active_most (read_slots n image) k e j k' (slot_at n image j l ∙ e');
    }
  where
    n : ℕ
    n = banks_of image

pub opened_along : (Premise : List ℕ → Page → Type 0) → ((f : List ℕ) (p : Page) → Premise f p → Follows p.event.call (number p.event.answer))
    → (image work : List ℕ) (s : Nvram) (w : List ℕ) (es : List Event) → Opens image work s w → Run s w es
    → (let b = opened_book image in
    Each (pages b es) (λ earlier p. Premise (flash_after image earlier) p) → Along b image b 0 (pages b es))
opened_along Premise enough image work s w es o r n =
    let b = opened_book image in
    let q = starts image work s w o in
    let x : State b image b 0 =
    record { base = at_start image work s w o.bytes q; fixed = λ h. absurd (omega arith); banks = refl; size = refl } in
    along Premise enough b image b 0 s w es x q.viewed r n

-- parts

-- the book after a list of pages
unfoldable pub end_of : Book → List Page → Book
end_of b [] = b
end_of b (p ∷ ps) = end_of p.after ps

pub along_split : (b₀ : Book) (f : List ℕ) (b : Book) (m : ℕ) (ps qs : List Page) → Along b₀ f b m (ps ++ qs)
    → Along b₀ (flash_after f ps) (end_of b ps) (m + requests ps) qs
unfolding flash_after end_of requests
along_split b₀ f b m [] qs a = let e : m ≡ m + 0 = omega arith in subst (λ (k : ℕ). Along b₀ f b k qs) e a
along_split b₀ f b m (p ∷ ps) qs a =
    let e : m + asks p + requests ps ≡ m + (asks p + requests ps) = omega arith in
    subst (λ (k : ℕ). Along b₀ (flash_after (flash_of f p) ps) (end_of p.after ps) k qs) e (along_split b₀ (flash_of f p) p.after (m + asks p) ps qs a.2)

pub flash_end : (f : List ℕ) (ps : List Page) (p : Page) → flash_after f (ps ++ (p ∷ [])) ≡ flash_of (flash_after f ps) p
unfolding flash_after
flash_end f [] p = refl
flash_end f (q ∷ ps) p = flash_end (flash_of f q) ps p

pub requests_end : (ps : List Page) (p : Page) → requests (ps ++ (p ∷ [])) ≡ requests ps + asks p
unfolding requests
requests_end [] p = omega arith
requests_end (q ∷ ps) p = omega (arith, requests_end ps p)
