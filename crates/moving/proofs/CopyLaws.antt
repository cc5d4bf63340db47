-- Parts of a list that bytes put over it leave alone, and a copy from one place of a list to another.
use Prim.Native.Nat.{ℕ, ◌+◌, ◌≤◌, ◌<◌}
use mathlib.Core.Path.{◌≡◌, sym, ap, ◌∙◌}
use mathlib.Core.Logic.{◌⊎◌, inl, inr}
use mathlib.Core.List.{List, [], ◌∷◌, ◌++◌}
use native.Mathlib.Numerals.{add-one}
use native.Mathlib.Omega.{arith}
use lib.ListN.{length, get_or, take, drop, set, take-append-drop, length-drop}
use lib.Seq.{take-append-le, drop-append-le, drop-drop, take_all, take-suc, length-take-le, get_or-take, get_or-drop}
use Rattle.buffers.specs.Bytes.{over}
use Rattle.buffers.proofs.OverLaws.{over_over, over_set, length_over, drop_over}
use Rattle.moving.specs.Move.{ReadFirst}

pub span_long : (at n : ℕ) (w : List ℕ) → at + n ≤ length w → length (take n (drop at w)) ≡ n
span_long at n w h = length-take-le n (drop at w) (omega (arith, length-drop at w))

-- a part in front of others, whatever they are
front : (k n : ℕ) (p y z : List ℕ) → k + n ≤ length p → take n (drop k (p ++ y)) ≡ take n (drop k (p ++ z))
front k n p y z h =
    let a : k ≤ length p = omega arith in
    let b : n ≤ length (drop k p) = rw length-drop (omega arith) in
    rw (drop-append-le k p y a, drop-append-le k p z a, take-append-le n (drop k p) y b, take-append-le n (drop k p) z b)

-- behind the bytes put, or in front of them
module _ (at : ℕ) (x w : List ℕ) (f : at + length x ≤ length w) where
  pub span_over : (k n : ℕ) → (at + length x ≤ k) ⊎ (k + n ≤ at) → take n (drop k (over at x w)) ≡ take n (drop k w)
  unfolding over
  span_over k n (inl h) = ap (take n) (drop_over at x w f k h)
  span_over k n (inr h) =
      front k n (take at w) (x ++ drop (at + length x) w) (drop at w) (omega (arith, length-take-le at w (omega arith)))
      ∙ ap (λ (l : List ℕ). take n (drop k l)) (take-append-drop at w)

  get_over : (k : ℕ) → (at + length x ≤ k) ⊎ (k + 1 ≤ at) → get_or (over at x w) k 0 ≡ get_or w k 0
  get_over k h = sym (one (over at x w)) ∙ ap (λ (l : List ℕ). get_or l 0 0) (span_over k 1 h) ∙ one w
    where
      one : (l : List ℕ) → get_or (take 1 (drop k l)) 0 0 ≡ get_or l k 0
      one l =
          let e : k + 0 ≡ k = omega arith in
          get_or-take 1 (drop k l) 0 0 (omega arith) ∙ get_or-drop k l 0 0 ∙ ap (λ (i : ℕ). get_or l i 0) e

-- a forward copy of n bytes, by the bytes copied so far
module _ (from to n : ℕ) (w₀ : List ℕ) (a : ReadFirst to from (from + n)) (f : from + n ≤ length w₀) (t : to + n ≤ length w₀) where
  abbrev bytes : List ℕ
  bytes = take n (drop from w₀)

  long : length bytes ≡ n
  long = span_long from n w₀ f

  pub copy_more : (i : ℕ) (w : List ℕ) → i < n → w ≡ over to (take i bytes) w₀ → set w (to + i) (get_or w (from + i) 0) ≡ over to (take (i + 1) bytes) w₀
  copy_more i w h e =
      let li : length (take i bytes) ≡ i = length-take-le i bytes (omega (arith, long)) in
      let lw : length w ≡ length w₀ = ap length e ∙ length_over to (take i bytes) w₀ (omega arith) in
      let b : get_or w (from + i) 0 ≡ get_or bytes i 0 =
      ap (λ (l : List ℕ). get_or l (from + i) 0) e
      ∙ get_over to (take i bytes) w₀ (omega arith) (from + i) (clear a li)
      ∙ sym (get_or-take n (drop from w₀) i 0 h ∙ get_or-drop from w₀ i 0) in
      let s : take i bytes ++ (get_or bytes i 0 ∷ []) ≡ take (i + 1) bytes = rw add-one (sym (take-suc bytes i 0 (omega (arith, long)))) in
      ap (set w (to + i)) b
      ∙ over_set (to + i) (get_or bytes i 0) w (omega arith)
      ∙ ap (over (to + i) (get_or bytes i 0 ∷ [])) e
      ∙ over_over to (to + i) (take i bytes) (get_or bytes i 0 ∷ []) w₀ (omega arith) (omega arith)
      ∙ ap (λ (x : List ℕ). over to x w₀) s
    where
      clear : {m : ℕ} → ReadFirst to from (from + n) → m ≡ i → (to + m ≤ from + i) ⊎ (from + i + 1 ≤ to)
      clear (inl u) e = inl (omega arith)
      clear (inr u) e = inr (omega arith)

  pub copy_done : (i : ℕ) (w : List ℕ) → n ≤ i → w ≡ over to (take i bytes) w₀ → w ≡ over to bytes w₀
  copy_done i w h e = e ∙ ap (λ (x : List ℕ). over to x w₀) (take_all i bytes (omega (arith, long)))

-- bytes copied onto themselves
pub copy_self : (at to n : ℕ) (w : List ℕ) → at ≡ to → at + n ≤ length w → w ≡ over to (take n (drop at w)) w
unfolding over
copy_self at to n w e h =
    sym
    (ap (λ (k : ℕ). over k (take n (drop at w)) w) (sym e)
    ∙ ap (λ (k : ℕ). take at w ++ (take n (drop at w) ++ drop (at + k) w)) (span_long at n w h)
    ∙ ap (λ (z : List ℕ). take at w ++ (take n (drop at w) ++ z)) (sym (drop-drop n at w))
    ∙ ap (λ (z : List ℕ). take at w ++ z) (take-append-drop n (drop at w))
    ∙ take-append-drop at w)
