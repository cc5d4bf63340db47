-- Bytes put over others: where they stand, one run behind another, and what the code's writes come to.
use Prim.Native.Nat.{ℕ, suc, ◌+◌, ◌-◌, ◌≤◌, ◌<◌}
use mathlib.Core.Path.{◌≡◌, refl, sym, ap, ap₂, ◌∙◌}
use mathlib.Core.List.{List, [], ◌∷◌, ◌++◌, append_assoc, append-nil}
use native.Mathlib.Omega.{arith}
use lib.ListN.{length, set, take, drop, take-append-drop, drop_of_length-le, length-append, length-drop}
use lib.Seq.{take_at, drop_at, take-append-add, take-append-le, drop-append-le, drop-drop, set_split, length-take-le}
use Rattle.buffers.specs.Bytes.{onto, over}
use Rattle.buffers.proofs.Laws.{onto_fits, past_drop}
use Rattle.buffers.proofs.LoopSteps.{tail}

pub over_none : (at : ℕ) (w : List ℕ) → over at [] w ≡ w
unfolding over
over_none at w = let e : at + 0 ≡ at = omega arith in ap (λ (n : ℕ). take at w ++ drop n w) e ∙ take-append-drop at w

-- where the bytes fit
module _ (at : ℕ) (x w : List ℕ) (h : at + length x ≤ length w) where
  front : length (take at w ++ x) ≡ at + length x
  front = length-append (take at w) x ∙ omega (arith, length-take-le at w (omega arith))

  joined : over at x w ≡ (take at w ++ x) ++ drop (at + length x) w
  unfolding over
  joined = sym (append_assoc (take at w) x (drop (at + length x) w))

  pub length_over : length (over at x w) ≡ length w
  length_over =
      ap length joined ∙ length-append (take at w ++ x) (drop (at + length x) w) ∙ omega (arith, front, length-drop (at + length x) w)

  pub take_over : take (at + length x) (over at x w) ≡ take at w ++ x
  take_over = ap (take (at + length x)) joined ∙ take_at (take at w ++ x) (drop (at + length x) w) (at + length x) front

  pub drop_over : (n : ℕ) → at + length x ≤ n → drop n (over at x w) ≡ drop n w
  drop_over n l =
      let k = n - (at + length x) in
      let e : n ≡ at + length x + k = omega arith in
      ap (λ (i : ℕ). drop i (over at x w)) e ∙ ap (drop (at + length x + k)) joined
      ∙ past_drop (take at w ++ x) (drop (at + length x) w) (at + length x) k front
      ∙ drop-drop k (at + length x) w
      ∙ ap (λ (i : ℕ). drop i w) (sym e)

-- y in the place of x
pub over_mid : (p x y q : List ℕ) (at : ℕ) → length p ≡ at → length x ≡ length y → over at y (p ++ (x ++ q)) ≡ p ++ (y ++ q)
unfolding over
over_mid p x y q at l e =
    let n : at + length y ≡ at + length x = omega arith in
    ap₂ (λ (a b : List ℕ). a ++ (y ++ b)) (take_at p (x ++ q) at l)
    (ap (λ (i : ℕ). drop i (p ++ (x ++ q))) n ∙ past_drop p (x ++ q) at (length x) l ∙ drop_at x q (length x) (omega arith))

-- bytes put over a middle part
pub over_inside : (p m q : List ℕ) (at j : ℕ) (x : List ℕ) → length p ≡ at → j + length x ≤ length m
    → over (at + j) x (p ++ (m ++ q)) ≡ p ++ (over j x m ++ q)
unfolding over
over_inside p m q at j x l h =
    let a : take (at + j) (p ++ (m ++ q)) ≡ p ++ take j m =
    rw l at (take-append-add p (m ++ q) j) ∙ ap (λ (y : List ℕ). p ++ y) (take-append-le j m q (omega arith)) in
    let n : at + j + length x ≡ at + (j + length x) = omega arith in
    let b : drop (at + j + length x) (p ++ (m ++ q)) ≡ drop (j + length x) m ++ q =
    ap (λ (i : ℕ). drop i (p ++ (m ++ q))) n ∙ past_drop p (m ++ q) at (j + length x) l ∙ drop-append-le (j + length x) m q h in
    rw (a, b) (simp append_assoc)

-- a run behind another
pub over_over : (at p : ℕ) (x y w : List ℕ) → p ≡ at + length x → p + length y ≤ length w → over p y (over at x w) ≡ over at (x ++ y) w
unfolding over
over_over at p x y w e h =
    let u = over at x w in
    let a : take p u ≡ take at w ++ x = ap (λ (i : ℕ). take i u) e ∙ take_over at x w (omega arith) in
    let b : drop (p + length y) u ≡ drop (p + length y) w = drop_over at x w (omega arith) (p + length y) (omega arith) in
    let c : p + length y ≡ at + length (x ++ y) = omega (arith, length-append x y) in
    rw (a, b, c) (simp append_assoc)

-- a byte that is set
pub over_set : (at b : ℕ) (w : List ℕ) → at < length w → set w at b ≡ over at (b ∷ []) w
unfolding over
over_set at b w h = let e : suc at ≡ at + 1 = omega arith in set_split w at b h ∙ ap (λ (n : ℕ). take at w ++ (b ∷ drop n w)) e

-- and those behind it
pub over_cons : (at b : ℕ) (x w : List ℕ) → at + suc (length x) ≤ length w → over at (b ∷ x) w ≡ over (at + 1) x (set w at b)
over_cons at b x w h =
    sym (ap (over (at + 1) x) (over_set at b w (omega arith)) ∙ over_over at (at + 1) (b ∷ []) x w refl (omega arith))

-- the part from a place on, lent and given back as y
pub put_tail : (at : ℕ) (w y : List ℕ) → take at w ++ (y ++ drop (length w - at) (drop at w)) ≡ take at w ++ y
put_tail at w y =
    let l : length (drop at w) ≤ length w - at = omega (arith, length-drop at w) in
    ap (λ (z : List ℕ). take at w ++ (y ++ z)) (drop_of_length-le (drop at w) l) ∙ ap (λ (z : List ℕ). take at w ++ z) (append-nil y)

-- bytes that are copied to that part
pub over_copy : (at : ℕ) (x w y : List ℕ) → at + length x ≤ length w → y ≡ onto x (take (length w - at) (drop at w))
    → take at w ++ (y ++ drop (length w - at) (drop at w)) ≡ over at x w
unfolding over
over_copy at x w y h e =
    let l : length x ≤ length (drop at w) = omega (arith, length-drop at w) in
    put_tail at w y
    ∙ ap (λ (z : List ℕ). take at w ++ z)
    (e ∙ ap (onto x) (tail w at) ∙ onto_fits x (drop at w) l ∙ ap (λ (z : List ℕ). x ++ z) (drop-drop (length x) at w))
