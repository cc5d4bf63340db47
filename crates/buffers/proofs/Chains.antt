-- What the code's chains of iterators give is what specs/Bytes says: of each byte, of blocks and the rest, of the first that is not 0xFF.
use Prim.Native.Nat.{ℕ, zero, suc, ◌+◌, ◌*◌, ◌≤◌}
use mathlib.Core.Path.{◌≡◌, refl, sym, ap, ◌∙◌}
use mathlib.Core.List.{List, [], ◌∷◌, ◌++◌}
use mathlib.Core.Bool.{Bool, true, false, ◌&&◌, ◌||◌, cond, not, and_assoc, and-true}
use native.Mathlib.Omega.{arith}
use lib.Dec.{eqb, ltb}
use borrow.Author.Tests.{ltb-false}
use lib.ListN.{length, take, drop, replicate, take-append-drop, length-drop}
use lib.Seq.{drop-drop, length-take-le}
use Rattle.std.specs.Cmp.Lexicographic.{pointwise}
use Rattle.std.specs.List.{fold, list_all, position_or_len}
use Rattle.std.specs.Prelude.{Option, Some, None}
use Rattle.std.specs.Option.{unwrap_or}
use Rattle.std.specs.Simd.{first_chunks}
use Rattle.std.proofs.lemmas.List.Recursion.{is_position_or_len}
use Rattle.std.proofs.lemmas.List.Sums.{prefix_len-le-length}
use Rattle.buffers.specs.Bytes.{all_ff, all_blank, count_ff, eq_bytes}
use Rattle.buffers.proofs.Laws.{by_test, all_ff_is, all_ff_append, count_ff_append}

pub all_ff_fold : (ok : Bool) (s : List ℕ) → fold (λ (t : Bool) (x : ℕ). t && eqb x 255) ok s ≡ (ok && all_ff s)
unfolding all_ff
all_ff_fold ok [] = sym (and-true ok)
all_ff_fold ok (x ∷ s) = all_ff_fold (ok && eqb x 255) s ∙ and_assoc ok (eqb x 255) (all_ff s)

pub all_blank_each : (s : List ℕ) → list_all (λ (x : ℕ). eqb x 0 || eqb x 255) s ≡ all_blank s
unfolding all_blank
all_blank_each [] = refl
all_blank_each (x ∷ s) = rw (all_blank_each s)

pub eq_bytes_each : (a b : List ℕ) → pointwise eqb a b ≡ eq_bytes a b
unfolding eq_bytes
eq_bytes_each [] [] = refl
eq_bytes_each [] (y ∷ b) = refl
eq_bytes_each (x ∷ a) [] = refl
eq_bytes_each (x ∷ a) (y ∷ b) = rw (eq_bytes_each a b)

-- the place of the first that is not 0xFF, or where there is none the length
pub lead_place : (s : List ℕ) → count_ff s ≡ position_or_len (λ (x : ℕ). not (eqb x 255)) s
unfolding count_ff
lead_place s = is_position_or_len count_ff (λ (x : ℕ). not (eqb x 255)) refl (λ x xs. other (eqb x 255) (count_ff xs)) s
  where
    other : (t : Bool) (n : ℕ) → cond t (suc n) 0 ≡ cond (not t) 0 (1 + n)
    other true n = omega arith
    other false n = refl

-- what `position` gives, and the length where it gives None
pub place : {X : Type 0} (p : X → Bool) (xs : List X) (o : Option ℕ)
    → o ≡ cond (ltb (position_or_len p xs) (length xs)) (Some (position_or_len p xs)) None → unwrap_or o (length xs) ≡ position_or_len p xs
place p xs o e =
    let n = position_or_len p xs in
    ap (λ (r : Option ℕ). unwrap_or r (length xs)) e
    ∙ by_test (λ r. unwrap_or r (length xs) ≡ n) (ltb n (length xs)) (Some n) None (λ _. refl) (λ f. omega (arith, prefix_len-le-length (λ x. not (p x)) xs, ltb-false n (length xs) f))

-- k blocks of n bytes and what comes after them
pub all_ff_chunks : (n k : ℕ) (s : List ℕ) → (list_all all_ff (first_chunks n k s) && all_ff (drop (k * n) s)) ≡ all_ff s
all_ff_chunks n zero s = let z : 0 * n ≡ 0 = omega arith in ap (λ (i : ℕ). all_ff (drop i s)) z
all_ff_chunks n (suc k) s =
    let e : n + k * n ≡ suc k * n = omega arith in
    and_assoc (all_ff (take n s)) (list_all all_ff (first_chunks n k (drop n s))) (all_ff (drop (suc k * n) s))
    ∙ ap (λ (t : Bool). all_ff (take n s) && t)
    (ap (λ (l : List ℕ). list_all all_ff (first_chunks n k (drop n s)) && all_ff l) (sym (drop-drop (k * n) n s ∙ ap (λ (i : ℕ). drop i s) e)) ∙ all_ff_chunks n k (drop n s))
    ∙ sym (ap all_ff (sym (take-append-drop n s)) ∙ all_ff_append (take n s) (drop n s))

-- what `as_chunks` parts, tested by parts
pub all_ff_parts : (n k : ℕ) (s rest : List ℕ) (blocks : List (List ℕ)) (t : Bool) → blocks ≡ first_chunks n k s → rest ≡ drop (k * n) s
    → t ≡ list_all all_ff blocks → (t && all_ff rest) ≡ all_ff s
all_ff_parts n k s rest blocks t b r e =
    ap (λ (a : Bool). a && all_ff rest) (e ∙ ap (list_all all_ff) b)
    ∙ ap (λ (l : List ℕ). list_all all_ff (first_chunks n k s) && all_ff l) r
    ∙ all_ff_chunks n k s

full_block : (n : ℕ) (s : List ℕ) → n ≤ length s → all_ff (take n s) ≡ true → count_ff s ≡ n + count_ff (drop n s)
full_block n s h f =
    let e : take n s ≡ replicate n 255 = all_ff_is (take n s) f ∙ ap (λ (m : ℕ). replicate m 255) (length-take-le n s h) in
    ap count_ff (sym (take-append-drop n s) ∙ ap (λ (l : List ℕ). l ++ drop n s) e) ∙ count_ff_append n (drop n s)

-- the blocks before the first that is not all 0xFF
abbrev pub full_blocks : ℕ → ℕ → List ℕ → ℕ
full_blocks n k s = position_or_len (λ (b : List ℕ). not (all_ff b)) (first_chunks n k s)

pub lead_chunks : (n k : ℕ) (s : List ℕ) → k * n ≤ length s → count_ff s ≡ full_blocks n k s * n + count_ff (drop (full_blocks n k s * n) s)
lead_chunks n zero s h = let z : 0 * n ≡ 0 = omega arith in rw z (omega arith)
lead_chunks n (suc k) s h = go (lead_chunks n k (drop n s)) (all_ff (take n s)) refl
  where
    p : ℕ
    p = full_blocks n k (drop n s)

    go : (k * n ≤ length (drop n s) → count_ff (drop n s) ≡ p * n + count_ff (drop (p * n) (drop n s)))
        → (t : Bool) → all_ff (take n s) ≡ t → count_ff s ≡ cond (not (not t)) (1 + p) 0 * n + count_ff (drop (cond (not (not t)) (1 + p) 0 * n) s)
    go r false e = let z : 0 * n ≡ 0 = omega arith in rw z (omega arith)
    go r true e =
        let m : n + p * n ≡ (1 + p) * n = omega arith in
        let d : drop (p * n) (drop n s) ≡ drop ((1 + p) * n) s = drop-drop (p * n) n s ∙ ap (λ (i : ℕ). drop i s) m in
        full_block n s (omega arith) e
        ∙ ap (λ (i : ℕ). n + i) (r (omega (arith, length-drop n s)) ∙ ap (λ (l : List ℕ). p * n + count_ff l) d)
        ∙ omega arith
