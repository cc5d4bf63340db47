-- The loop over the groups of a number.
use Prim.Native.Nat.{ℕ, ◌+◌, ◌-◌, ◌*◌, ◌≤◌, ◌<◌}
use mathlib.Core.Path.{◌≡◌, refl, sym, ap, ◌∙◌}
use mathlib.Core.List.{List}
use mathlib.Core.Bool.{Bool, true, false, ◌&&◌, cond, and-false}
use native.Mathlib.Nat.{mul-add, mul_assoc, mul-le-mul_left}
use native.Mathlib.Numerals.{add-one}
use native.Mathlib.Omega.{arith}
use lib.Dec.{eqb, ltb}
use lib.ListN.{length, get_or, drop, drop_of_length-le}
use lib.Seq.{drop-cons}
use borrow.Author.Tests.{lt-ltb, le-ltb, ltb-true, eqb-false, eq-eqb, ne_eqb}
use Rattle.buffers.proofs.Laws.{by_test}
use Rattle.std.specs.Prelude.{Option, Some, None}
use Rattle.leb128.specs.Leb128.{grouped, decoded_groups, below32, decoded}

-- i groups of the value v in front of a number; c is what the next one counts
unfoldable pub grouping : ℕ → ℕ → ℕ → Option (ℕ × ℕ) → Option (ℕ × ℕ)
grouping v c i None = None
grouping v c i (Some (n, k)) = cond (ltb 0 i && eqb n 0) None (Some (v + c * n, i + k))

grouping_none : (r : Option (ℕ × ℕ)) → r ≡ grouping 0 1 0 r
unfolding grouping
grouping_none None = refl
grouping_none (Some (n, k)) =
    let a : 0 + 1 * n ≡ n = omega arith in
    let b : 0 + k ≡ k = omega arith in
    rw (a, b) refl

grouping_more : (v c i g : ℕ) (r : Option (ℕ × ℕ)) → grouping v c i (grouped g r) ≡ grouping (v + c * g) (c * 128) (i + 1) r
unfolding grouping grouped
grouping_more v c i g None = refl
grouping_more v c i g (Some (n, k)) = go (eqb n 0) refl
  where
    l : 0 < i + 1
    l = omega arith

    none : eqb n 0 ≡ true → None ≡ grouping (v + c * g) (c * 128) (i + 1) (Some (n, k))
    none e = simp (lt-ltb 0 (i + 1) l, e)

    some : eqb n 0 ≡ false → grouping v c i (Some (g + 128 * n, k + 1)) ≡ grouping (v + c * g) (c * 128) (i + 1) (Some (n, k))
    some e =
        let z : n ≡ 0 → ⊥ = eqb-false _ _ e in
        let y : g + 128 * n ≡ 0 → ⊥ = λ q. z (omega arith) in
        let p : v + c * (g + 128 * n) ≡ v + c * g + c * 128 * n = omega (arith, mul-add c g (128 * n), mul_assoc c 128 n) in
        let q : i + (k + 1) ≡ i + 1 + k = omega arith in
        simp (ne_eqb _ 0 y, and-false, lt-ltb 0 (i + 1) l, e) (rw (p, q) refl)

    go : (t : Bool) → eqb n 0 ≡ t → grouping v c i (cond t None (Some (g + 128 * n, k + 1))) ≡ grouping (v + c * g) (c * 128) (i + 1) (Some (n, k))
    go true e = none e
    go false e = some e

-- i groups were passed
pub record GroupsPassed (s : List ℕ) (v c i : ℕ) : Type 0 where
  pub same : decoded_groups s ≡ grouping v c i (decoded_groups (drop i s))
  pub low : v < c
  pub high : c ≤ 549755813888
  pub first : c ≤ 1 + i * 549755813888

pub passed_none : (s : List ℕ) → GroupsPassed s 0 1 0
passed_none s = record { same = grouping_none (decoded_groups s); low = omega arith; high = omega arith; first = omega arith }

module _ {s : List ℕ} {v c i : ℕ} (h : GroupsPassed s v c i) where
  pub passed_end : length s ≤ i → None ≡ decoded s
  unfolding decoded below32 grouping decoded_groups
  passed_end l = let e : decoded_groups (drop i s) ≡ None = ap decoded_groups (drop_of_length-le s l) in rw (h.same, e)

  pub passed_high : 4294967296 ≤ c → None ≡ decoded s
  unfolding decoded below32 grouping
  passed_high l = rw h.same (sym (go (decoded_groups (drop i s))))
    where
      big : (n k : ℕ) → (n ≡ 0 → ⊥) → below32 (Some (v + c * n, k)) ≡ None
      big n k z =
          let p : c * 1 ≤ c * n = mul-le-mul_left c (omega arith) in
          let q : 4294967296 ≤ v + c * n = omega arith in
          simp (le-ltb _ 4294967296 q)

      go : (r : Option (ℕ × ℕ)) → below32 (grouping v c i r) ≡ None
      go None = refl
      go (Some (n, k)) =
          let m : 0 < i = omega (arith, h.first) in
          simp (lt-ltb 0 i m)
          (by_test (λ (r : Option (ℕ × ℕ)). below32 r ≡ None) (eqb n 0) _ _ (λ e. refl) (λ e. big n (i + k) (eqb-false _ _ e)))

  module _ (l : i < length s) (b : ℕ) (e : b ≡ get_or s i 0) where
    pub passed_more : 128 ≤ b → b < 256 → c < 4294967296 → GroupsPassed s (v + c * (b - 128)) (c * 128) (i + 1)
    unfolding decoded_groups
    passed_more p q r =
        let d : decoded_groups (drop i s) ≡ grouped (b - 128) (decoded_groups (drop (i + 1) s)) =
        rw (add-one, drop-cons s i 0 l, ← e) (simp (le-ltb b 128 p)) in
        let m : c * (b - 128) ≤ c * 127 = mul-le-mul_left c (omega arith) in
        record {
          same = h.same ∙ ap (grouping v c i) d ∙ grouping_more v c i (b - 128) (decoded_groups (drop (i + 1) s));
          low = omega (arith, h.low);
          high = omega arith;
          first = omega arith;
        }

    last : b < 128 → decoded_groups s ≡ cond (ltb 0 i && eqb b 0) None (Some (v + c * b, i + 1))
    unfolding decoded_groups grouping
    last p =
        let d : decoded_groups (drop i s) ≡ Some (b, 1) = rw (drop-cons s i 0 l, ← e) (simp (lt-ltb b 128 p)) in
        h.same ∙ ap (grouping v c i) d

    pub last_zero : b < 128 → 0 < i → b ≡ 0 → None ≡ decoded s
    unfolding decoded below32
    last_zero p q z = rw (last p) (simp (lt-ltb 0 i q, eq-eqb b 0 z))

    module _ (p : b < 128) (t : 0 < i → b ≡ 0 → ⊥) where
      shortest_form : decoded_groups s ≡ Some (v + c * b, i + 1)
      shortest_form = last p ∙ go (ltb 0 i) refl
        where
          go : (r : Bool) → ltb 0 i ≡ r → cond {A = Option (ℕ × ℕ)} (r && eqb b 0) None (Some (v + c * b, i + 1)) ≡ Some (v + c * b, i + 1)
          go true e = simp (ne_eqb b 0 (t (ltb-true _ _ e)))
          go false e = refl

      pub last_large : 4294967296 ≤ v + c * b → None ≡ decoded s
      unfolding decoded below32
      last_large g = rw shortest_form (simp (le-ltb _ 4294967296 g))

      pub last_fits : v + c * b < 4294967296 → Some (v + c * b, i + 1) ≡ decoded s
      unfolding decoded below32
      last_fits g = rw shortest_form (simp (lt-ltb _ 4294967296 g))
