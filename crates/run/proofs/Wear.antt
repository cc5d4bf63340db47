-- The wear bound (01, 'A run, its book and the flash'; 02, N4), with L anything that the live records at accepted commits stay within: one that
-- is refused leaves the book as it was. From one move to the next to the same bank there are n moves or more (`whole_turns`), each drops the total by
-- D or more, and inserts have brought that (`MovesBetween`, `two_moves`).
use Prim.Native.Nat.{ℕ, zero, suc, ◌+◌, ◌*◌, ◌/◌, ◌≤◌, ◌<◌}
use native.Mathlib.Omega.{arith}
use native.Mathlib.Nat.{div-add-mod', mul-le-mul_right, le_trans}
use mathlib.Core.Path.{◌≡◌, refl, sym, ap, ◌∙◌, subst}
use Rattle.std.specs.Prelude.{Some}
use mathlib.Core.Bool.{Bool, true, false, cond}
use mathlib.Core.List.{List, [], ◌∷◌, ◌++◌}
use borrow.Author.Tests.{eq-eqb}
use Rattle.buffers.proofs.Laws.{clash}
use Rattle.bank.specs.Record.{Record, sizes}
use Rattle.bank.specs.Bank.{Bank, Slot, empty, invalid, valid, bank_size}
use Rattle.bank.specs.Totals.{total, live_total}
use Rattle.book.specs.Edit.{edited_by}
use Rattle.book.specs.Book.{Book, FineBook, active_slot, with_bank, with_active, with_records, slot_size}
use Rattle.book.specs.Commit.{moved, next_bank, next_slot, request, moved_book}
use Rattle.book.specs.Call.{Call, edited, number, erase, refusal, Follows, Outcome, step}
use Rattle.book.proofs.EditedRecords.{sizes_edited}
use Rattle.book.proofs.Did.{Due, refuses, reads, edits, writes, moves, overflows, Did, did}
use Rattle.book.proofs.StepLaws.{next_inside}
use Rattle.run.specs.Run.{Page}
use Rattle.run.specs.Wear.{active_size, slot_live, live_at, accepted_commits, most_live, added, inserted_bytes}
use Rattle.run.proofs.Idle.{idle_refusal, idle_read, no_request}
use Rattle.run.proofs.Invariant.{active_stored}
use Rattle.run.proofs.Along.{At, flash_of, asks, Along, end_of, along_split}

-- the live records at the accepted commits of a list stay within a bound
abbrev pub Within : ℕ → List Page → Type 0
Within L [] = Unit {0}
Within L (p ∷ ps) = (number p.event.answer ≡ 0 → live_at p.before p.event.call ≤ L) × Within L ps

counts_accepted : (k : ℕ) → k ≡ 0 → accepted_commits k ≡ true
counts_accepted k q = eq-eqb k 0 q

pub most_within : (L : ℕ) (ps : List Page) → most_live accepted_commits ps ≤ L → Within L ps
unfolding most_live
most_within L [] h = tt
most_within L (p ∷ ps) h = (λ q. let e = rw (counts_accepted _ q) at h in omega arith, most_within L ps (omega arith))

-- L over more commits is no less

cond_more : (s t : Bool) (n : ℕ) → (s ≡ true → t ≡ true) → cond s n 0 ≤ cond t n 0
cond_more false t n h = omega arith
cond_more true t n h = rw (h refl) (omega arith)

pub most_more : (counts counts' : ℕ → Bool) → ((k : ℕ) → counts k ≡ true → counts' k ≡ true) → (ps : List Page)
    → most_live counts ps ≤ most_live counts' ps
unfolding most_live
most_more counts counts' h [] = omega arith
most_more counts counts' h (p ∷ ps) =
    let k = number p.event.answer in
    omega (arith, cond_more (counts k) (counts' k) (live_at p.before p.event.call) (h k), most_more counts counts' h ps)

-- one call

slot_total : Slot → ℕ
slot_total empty = 0
slot_total invalid = 0
slot_total (valid k) = total k

-- the active bank is Valid, of size S, and all of it may be used: so after a move
record Good (S : ℕ) (b : Book) : Type 0 where
  bank : Bank
  at : active_slot b ≡ valid bank
  size : bank.header.size ≡ S
  usable : bank.usable ≡ S

-- m moves from b to b', while `bytes` bytes are inserted: D is a move's least drop of the total
record MovesBetween (S D : ℕ) (b b' : Book) (bytes : ℕ) : Type 0 where
  good : Good S b'
  banks : b'.n ≡ b.n
  m : ℕ
  turns : ℕ
  round : b'.active + turns * b.n ≡ b.active + m
  falls : slot_total (active_slot b') + m * D ≤ slot_total (active_slot b) + bytes

went_nowhere : (S D : ℕ) (b : Book) (bytes : ℕ) → Good S b → MovesBetween S D b b bytes
went_nowhere S D b bytes g = record { good = g; banks = refl; m = 0; turns = 0; round = omega arith; falls = omega arith }

good_kept : (S : ℕ) (b : Book) → FineBook b → (i : ℕ) → i < b.n → (k : Bank) → k.header.size ≡ S → k.usable ≡ S → Good S (with_bank b i k)
good_kept S b f i l k hs hu = record { bank = k; at = active_stored b f i l k; size = hs; usable = hu }

module _ (S : ℕ) (b : Book) (f : FineBook b) (k : Bank) (g : Good S b) (e : active_slot b ≡ valid k) where
  its_size : k.header.size ≡ S
  its_size = let q : g.bank ≡ k = cc (g.at, e) in cc (q, g.size)

  its_usable : k.usable ≡ S
  its_usable = let q : g.bank ≡ k = cc (g.at, e) in cc (q, g.usable)

  went_edit : (D : ℕ) (rs : List Record) (bytes : ℕ) → sizes rs ≡ sizes k.records + bytes → MovesBetween S D b (with_active b (with_records k rs)) bytes
  unfolding slot_total total
  went_edit D rs bytes h =
      record {
        good = good_kept S b f b.active f.inside (with_records k rs) its_size its_usable;
        banks = refl;
        m = 0;
        turns = 0;
        round = omega arith;
        falls = rw (active_stored b f b.active f.inside (with_records k rs), e) (omega arith);
      }

  went_move : (L D : ℕ) → D + L ≤ suc S → (bytes : ℕ) → k.usable < total k → live_total k ≤ L → MovesBetween S D b (moved_book b k) bytes
  unfolding slot_total total live_total
  went_move L D d bytes due l =
      record {
        good = good_kept S b f (next_bank b) (next_inside b f) (moved k) its_size its_size;
        banks = refl;
        m = 1;
        turns = (b.active + 1) / b.n;
        round = omega (arith, div-add-mod' (b.active + 1) b.n);
        falls = rw (active_stored b f (next_bank b) (next_inside b f) (moved k), e) (omega (arith, its_usable));
      }

one_call : (S L D : ℕ) → D + L ≤ suc S → (b : Book) (c : Call) (o : Outcome) → FineBook b → Good S b → Follows c (number o.answer) → (number o.answer ≡ 0 → live_at b c ≤ L) → Did b c o
    → MovesBetween S D b o.after (added c (number o.answer))
one_call S L D d b c o f g h l (refuses k n) = went_nowhere S D b _ g
one_call S L D d b c o f g h l (reads a x r) = went_nowhere S D b _ g
one_call S L D d b c o f g h l (edits e x) = went_edit S b f x.bank g x.was D (edited_by e x.bank.records) _ (sizes_edited e x.bank.records)
one_call S L D d b c o f g h l (writes way caller room x) = went_nowhere S D b _ g
one_call S L D d b c o f g h l (moves way caller room x _) =
    went_move S b f x.bank g x.was L D d _ x.due (subst (λ (s : Slot). slot_live s ≤ L) x.was (l refl))
one_call S L D d b c o f g h l (overflows caller room x _) = absurd (h refl refl)

joined : (S D : ℕ) (b b' b'' : Book) (x y : ℕ) → MovesBetween S D b b' x → MovesBetween S D b' b'' y → MovesBetween S D b b'' (x + y)
joined S D b b' b'' x y u v =
    record {
      good = v.good;
      banks = v.banks ∙ u.banks;
      m = u.m + v.m;
      turns = u.turns + v.turns;
      round = omega (arith, u.round, rw u.banks at v.round);
      falls = omega (arith, u.falls, v.falls);
    }

-- the same of a page
one_page : (S L D : ℕ) → D + L ≤ suc S → (b : Book) (p : Page) → FineBook b → Good S b → At b p → (number p.event.answer ≡ 0 → live_at p.before p.event.call ≤ L)
    → MovesBetween S D b p.after (added p.event.call (number p.event.answer))
one_page S L D d b p f g a l =
    let c = p.event.call in
    rw (a.answer, a.after)
    (one_call S L D d b c (step b c) f g a.follows (λ q. subst (λ (x : Book). live_at x c ≤ L) a.before (l (ap number a.answer ∙ q))) (did b c))

went : (S L D : ℕ) → D + L ≤ suc S → (b₀ : Book) (f : List ℕ) (b : Book) (m : ℕ) (ps qs : List Page) → Along b₀ f b m (ps ++ qs) → Good S b → Within L ps
    → MovesBetween S D b (end_of b ps) (inserted_bytes ps)
unfolding end_of inserted_bytes
went S L D d b₀ f b m [] qs a g l = went_nowhere S D b 0 g
went S L D d b₀ f b m (p ∷ ps) qs a g l =
    let u = one_page S L D d b p a.0.base.fine g a.1 l.0 in
    joined S D b p.after (end_of p.after ps) _ _ u (went S L D d b₀ (flash_of f p) p.after (m + asks p) ps qs a.2 u.good l.1)

-- an erase request is a move's

record Asked (b : Book) (c : Call) (o : Outcome) (offset : ℕ) : Type 0 where
  due : Due b
  accepted : number o.answer ≡ 0
  becomes : o.after ≡ moved_book b due.bank
  live : live_at b c ≡ live_total due.bank
  next : next_bank b * bank_size ≡ offset

asked_slot : (s : Slot) (i o : ℕ) → request s i ≡ Some o → i * bank_size ≡ o
unfolding request
asked_slot empty i o h = cc
asked_slot invalid i o h = cc
asked_slot (valid k) i o h = cc

asked : (b : Book) (c : Call) (o : Outcome) (k : ℕ) → Follows c (number o.answer) → erase o.answer ≡ Some k → Did b c o → Asked b c o k
asked b c o k h q (refuses n x) = absurd (no_request (refusal c n) (idle_refusal c n x.not_0) q)
asked b c o k h q (reads a x r) = absurd (no_request a (idle_read c a r) q)
asked b c o k h q (edits e d) = absurd (no_request (edited 0) tt q)
asked b c o k h q (writes way caller room d) = clash cc
asked b c o k h q (moves way caller room d l) =
    record { due = d; accepted = refl; becomes = refl; live = rw d.was; next = asked_slot (next_slot b) (next_bank b) k q }
asked b c o k h q (overflows caller room d l) = absurd (h refl refl)

asked_page : (b : Book) (p : Page) (k : ℕ) → At b p → erase p.event.answer ≡ Some k → Asked b p.event.call (step b p.event.call) k
asked_page b p k a q =
    asked b p.event.call (step b p.event.call) k a.follows (sym (ap erase a.answer) ∙ q) (did b p.event.call)

same_bank : (i j o : ℕ) → i * bank_size ≡ o → j * bank_size ≡ o → i ≡ j
unfolding bank_size
same_bank i j o p q = omega arith

-- the bank after m + 1 moves is the first one again: m + 1 is a multiple of n, and so at least n
whole_turns : (n m t : ℕ) → t * n ≡ suc m → n ≤ suc m
whole_turns n m zero h = omega arith
whole_turns n m (suc t) h = omega arith

-- from the move of b, with bank k, to b₂, where a move to the same bank is due
two_moves : (b : Book) → FineBook b → (k : Bank) (b₁ b₂ : Book) (k₂ : Bank) (D L bytes : ℕ) → b₁ ≡ moved_book b k
    → D + L ≤ suc k.header.size → live_total k ≤ L → FineBook b₂ → MovesBetween k.header.size D b₁ b₂ bytes
    → active_slot b₂ ≡ valid k₂ → k₂.usable < total k₂ → next_bank b₂ ≡ next_bank b
    → b.n * D ≤ bytes
unfolding slot_total total live_total
two_moves b f k b₁ b₂ k₂ D L bytes q d l f₂ w at due same =
    let first : slot_total (active_slot b₁) ≡ live_total k = rw (q, active_stored b f (next_bank b) (next_inside b f) (moved k)) in
    let second : slot_total (active_slot b₂) ≡ total k₂ = rw at in
    let full : k₂.usable ≡ k.header.size = its_usable k.header.size b₂ f₂ k₂ w.good at in
    let banks : b₂.n ≡ b.n = w.banks ∙ ap (λ (x : Book). x.n) q in
    let start : b₁.active ≡ next_bank b = ap (λ (x : Book). x.active) q in
    let round : b₂.active + w.turns * b.n ≡ b₁.active + w.m = rw (ap (λ (x : Book). x.n) q) at w.round in
    let often : suc w.m * D ≤ bytes = omega (arith, w.falls) in
    let turns : ((b₂.active + 1) / b.n + w.turns) * b.n ≡ suc w.m =
    omega (arith, rw banks at same, div-add-mod' (b₂.active + 1) b.n) in
    le_trans (mul-le-mul_right D (whole_turns b.n w.m ((b₂.active + 1) / b.n + w.turns) turns)) often

-- between two pages of a run
module _ (b₀ : Book) (f : List ℕ) (b : Book) (m : ℕ) (first : Page) (between : List Page) (second : Page) (later : List Page) (offset : ℕ)
    (a : Along b₀ f b m (first ∷ (between ++ (second ∷ later)))) (x : erase first.event.answer ≡ Some offset)
    (y : erase second.event.answer ≡ Some offset) where
  abbrev S : ℕ
  S = active_size b₀

  abbrev b₁ : Book
  b₁ = first.after

  abbrev b₂ : Book
  b₂ = end_of first.after between

  -- D may be any number up to a move's least drop of the total
  pub wear_within : (L D : ℕ) → D + L ≤ suc S → Within L (first ∷ between) → b₀.n * D ≤ inserted_bytes between
  wear_within L D d h =
      let s = a.0 in
      let fine = s.base.fine in
      let t = along_split b₀ (flash_of f first) b₁ (m + asks first) between (second ∷ later) a.2 in
      let u = asked_page b first offset a.1 x in
      let v = asked_page b₂ second offset t.1 y in
      let k = u.due.bank in
      let size : k.header.size ≡ S = sym (ap (λ (z : Slot). slot_size z) u.due.was) ∙ s.size in
      let q : b₁ ≡ moved_book b k = a.1.after ∙ u.becomes in
      let live : live_total k ≤ L =
      omega (arith, u.live, ap (λ (z : Book). live_at z first.event.call) a.1.before, h.0 (ap number a.1.answer ∙ u.accepted)) in
      let drop : D + L ≤ suc k.header.size = omega arith in
      let good : Good k.header.size b₁ =
      subst (Good k.header.size) (sym q) (good_kept _ b fine (next_bank b) (next_inside b fine) (moved k) refl refl) in
      let w = went k.header.size L D drop b₀ (flash_of f first) b₁ (m + asks first) between (second ∷ later) a.2 good h.1 in
      subst (λ (n : ℕ). n * D ≤ inserted_bytes between) s.banks
      (two_moves b fine k b₁ b₂ v.due.bank D L (inserted_bytes between) q drop live t.0.base.fine w v.due.was v.due.due
      (same_bank (next_bank b₂) (next_bank b) offset v.next u.next))
