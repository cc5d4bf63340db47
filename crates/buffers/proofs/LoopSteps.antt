-- Turns of loops over bytes: a test of all is one test and that of the rest (`Both`), and decides or goes on (`test_fails`, `test_holds`) or is kept in a
-- flag (`flag_more`, `flag_none`); what is lent as a part of a slice; one byte more compared, and copied.
use Prim.Native.Nat.{ℕ, suc, ◌+◌, ◌-◌, ◌≤◌, ◌<◌}
use mathlib.Core.Path.{◌≡◌, refl, sym, ap, ◌∙◌}
use mathlib.Core.List.{List, [], ◌∷◌, ◌++◌, append_assoc}
use mathlib.Core.Bool.{Bool, true, false, ◌&&◌, and_assoc, and-true}
use native.Mathlib.Numerals.{add-one}
use native.Mathlib.Omega.{arith}
use lib.Dec.{eqb}
use lib.ListN.{length, get_or, set, take, drop, take-append-drop, drop_of_length-le, length-drop}
use lib.Seq.{drop-cons, drop-drop, take_all, length-take-le, set_at, take-suc}
use Rattle.buffers.specs.Bytes.{eq_bytes}
use Rattle.buffers.proofs.Laws.{eq_bytes_lem}

-- a test of all, by one test and the test of the rest
pub record Both (all t rest : Bool) : Type 0 where
  pub is : all ≡ (t && rest)

-- a loop that keeps a flag: one test more, and none left
pub flag_more : {all ok left t rest : Bool} → Both all ok left → Both left t rest → Both all (ok && t) rest
flag_more {ok = ok} {t = t} {rest = rest} p q = record { is = p.is ∙ ap (λ (b : Bool). ok && b) q.is ∙ sym (and_assoc ok t rest) }

pub flag_none : {all ok left : Bool} → Both all ok left → left ≡ true → ok ≡ all
flag_none {ok = ok} p q = sym (p.is ∙ ap (λ (b : Bool). ok && b) q ∙ and-true ok)

-- a loop that leaves at the first test that fails: one that fails, and one that does not
module _ {all left t rest : Bool} (p : all ≡ left) (q : Both left t rest) where
  pub test_fails : t ≡ false → false ≡ all
  test_fails e = sym (p ∙ q.is ∙ ap (λ (b : Bool). b && rest) e)

  pub test_holds : t ≡ true → all ≡ rest
  test_holds e = p ∙ q.is ∙ ap (λ (b : Bool). b && rest) e

-- what is lent as `&s[i..]`
pub tail : (s : List ℕ) (i : ℕ) → take (length s - i) (drop i s) ≡ drop i s
tail s i = take_all (length s - i) (drop i s) (omega (arith, length-drop i s))

-- what a match tells of a call on it
pub told_tail : {A : Type 0} {r x : A} (f : List ℕ → A) (s : List ℕ) (i : ℕ) → r ≡ f (take (length s - i) (drop i s)) → r ≡ x → f (drop i s) ≡ x
told_tail f s i e g = ap f (sym (tail s i)) ∙ sym e ∙ g

-- what is lent as `&s[i..e]`, and what comes after it
pub part : (s : List ℕ) (i e : ℕ) → i ≤ e → drop i s ≡ take (e - i) (drop i s) ++ drop e s
part s i e h =
    let n : i + (e - i) ≡ e = omega arith in
    sym (take-append-drop (e - i) (drop i s)) ∙ ap (λ (l : List ℕ). take (e - i) (drop i s) ++ l) (drop-drop (e - i) i s ∙ ap (λ (k : ℕ). drop k s) n)

pub other_length : (a b : List ℕ) → (length a ≡ length b → ⊥) → false ≡ eq_bytes a b
other_length a b h = go (eq_bytes a b) refl
  where
    go : (t : Bool) → eq_bytes a b ≡ t → false ≡ t
    go false e = refl
    go true e = absurd (h (ap length (eq_bytes_lem a b e)))

module _ (a b : List ℕ) (l : length a ≡ length b) where
  pub eq_more : (i : ℕ) → i < length a → Both (eq_bytes (drop i a) (drop i b)) (eqb (get_or a i 0) (get_or b i 0)) (eq_bytes (drop (i + 1) a) (drop (i + 1) b))
  unfolding eq_bytes
  eq_more i h =
      let k : i < length b = omega arith in
      record { is = rw (add-one, drop-cons a i 0 h, drop-cons b i 0 k) }

  pub eq_none : (i : ℕ) → length a ≤ i → eq_bytes (drop i a) (drop i b) ≡ true
  unfolding eq_bytes
  eq_none i h = let k : length b ≤ i = omega arith in rw (drop_of_length-le a h, drop_of_length-le b k)

-- one byte more over the front of what was there
write_more : (p d : List ℕ) (i x : ℕ) → length p ≡ i → i < length d → set (p ++ drop i d) i x ≡ (p ++ (x ∷ [])) ++ drop (i + 1) d
write_more p d i x h k =
    rw (add-one, drop-cons d i 0, set_at p (get_or d i 0) (drop (suc i) d) x i h) (sym (append_assoc p (x ∷ []) (drop (suc i) d)))

pub copy_more : (s d : List ℕ) (i : ℕ) → i < length s → i < length d
    → set (take i s ++ drop i d) i (get_or s i 0) ≡ take (i + 1) s ++ drop (i + 1) d
copy_more s d i h k =
    write_more (take i s) d i (get_or s i 0) (length-take-le i s (omega arith)) k ∙ rw (add-one, take-suc s i 0)
