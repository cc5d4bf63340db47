-- A refusal answers its number, with any other number 0, and changes nothing (01, 'Refusals from the state'; 02, N4), but for 12 of an old commit:
-- `refused`; and the book never answers 6: `not_6`. Both by cases of `did`.
use Prim.Native.Nat.{ℕ}
use mathlib.Core.Path.{◌≡◌, refl, sym, ap}
use mathlib.Core.Logic.{◌≢◌}
use Rattle.std.specs.Prelude.{None}
use native.Mathlib.Omega.{arith}
use Rattle.book.specs.Book.{Book}
use Rattle.book.specs.Call.{Call, edit, lookup, fetch, figures, commit, whole_image, number, erase, refusal, Follows, Outcome, stay, step}
use Rattle.book.proofs.Did.{refuses, reads, edits, writes, moves, overflows, Did, did, read_number, refusal_number}

-- the refusal's own number, or none
pub refusal_again : (c : Call) (k : ℕ) → refusal c (number (refusal c k)) ≡ refusal c k
refusal_again (edit e) k = refl
refusal_again (lookup key typ) k = refl
refusal_again (fetch key typ) k = refl
refusal_again figures k = refl
refusal_again (commit way caller room) k = refl
refusal_again (whole_image room) k = refl

-- a refusal in the number alone asks for nothing
pub refusal_asks : (c : Call) (k : ℕ) → erase (refusal c k) ≡ None
refusal_asks (edit e) k = refl
refusal_asks (lookup key typ) k = refl
refusal_asks (fetch key typ) k = refl
refusal_asks figures k = refl
refusal_asks (commit way caller room) k = refl
refusal_asks (whole_image room) k = refl

-- refused, but for 12 of an old commit: the answer is the refusal's, nothing is handed back, and the book stays
refused_did : (b : Book) (c : Call) (o : Outcome) → number o.answer ≢ 0 → Follows c (number o.answer) → Did b c o
    → o ≡ stay b (refusal c (number o.answer))
refused_did b c o h m (refuses k n) = ap (stay b) (sym (refusal_again c k))
refused_did b c o h m (reads a x r) = absurd (h (read_number c a r))
refused_did b c o h m (edits e d) = absurd (h refl)
refused_did b c o h m (writes way caller room d) = absurd (h refl)
refused_did b c o h m (moves way caller room d l) = absurd (h refl)
refused_did b c o h m (overflows caller room d l) = absurd (m refl refl)

pub refused : (b : Book) (c : Call) → number (step b c).answer ≢ 0 → Follows c (number (step b c).answer)
    → step b c ≡ stay b (refusal c (number (step b c).answer))
refused b c h m = refused_did b c (step b c) h m (did b c)

-- the book never answers 6
not_6_did : (b : Book) (c : Call) (o : Outcome) → Did b c o → number o.answer ≢ 6
not_6_did b c o (refuses k n) e = refusal_number c k 6 n.not_6 (omega arith) e
not_6_did b c o (reads a x r) e = absurd (omega (arith, read_number c a r))
not_6_did b c o (edits x d) e = omega arith
not_6_did b c o (writes way caller room d) e = omega arith
not_6_did b c o (moves way caller room d l) e = omega arith
not_6_did b c o (overflows caller room d l) e = omega arith

pub not_6 : (b : Book) (c : Call) → number (step b c).answer ≢ 6
not_6 b c = not_6_did b c (step b c) (did b c)
