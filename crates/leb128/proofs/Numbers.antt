-- Numbers, one after another: their bytes and lengths, and the loops that decode and encode them.
use Prim.Native.Nat.{ℕ, zero, suc, ◌+◌, ◌-◌, ◌/◌, ◌%◌, ◌≤◌, ◌<◌}
use mathlib.Core.Path.{◌≡◌, refl, sym, ap, ◌∙◌}
use mathlib.Core.List.{List, [], ◌∷◌, ◌++◌}
use native.Mathlib.Numerals.{add-one}
use native.Mathlib.Omega.{arith}
use lib.ListN.{length, get_or, set, take, drop, length-append, take-append-drop, drop_of_length-le}
use lib.Seq.{drop-cons, length-take-le}
use Rattle.buffers.specs.Bytes.{over}
use Rattle.buffers.proofs.OverLaws.{over_none, length_over, over_inside, over_over, over_set, over_cons}
use Rattle.std.specs.Prelude.{Some, None}
use Rattle.leb128.specs.Leb128.{encoded, encoded_all, decoded, by_number, decoded_all}
use Rattle.leb128.proofs.Forms.{encoded_small, encoded_large, size_some}
use Rattle.leb128.proofs.Decoding.{by_decoded}

-- each takes a byte at least
pub sizes_some : (ns : List ℕ) → length ns ≤ length (encoded_all ns)
unfolding encoded_all
sizes_some [] = omega arith
sizes_some (n ∷ ns) = omega (arith, sizes_some ns, size_some n, length-append (encoded n) (encoded_all ns))

-- from the i-th on
module _ (ns : List ℕ) (i : ℕ) where
  pub all_more : i < length ns → encoded_all (drop i ns) ≡ encoded (get_or ns i 0) ++ encoded_all (drop (i + 1) ns)
  unfolding encoded_all
  all_more h = rw (add-one, drop-cons ns i 0)

  pub all_none : length ns ≤ i → encoded_all (drop i ns) ≡ []
  unfolding encoded_all
  all_none h = rw (drop_of_length-le ns h)

  pub sizes_more : i < length ns
      → length (encoded_all (drop i ns)) ≡ length (encoded (get_or ns i 0)) + length (encoded_all (drop (i + 1) ns))
  sizes_more h = ap length (all_more h) ∙ length-append (encoded (get_or ns i 0)) (encoded_all (drop (i + 1) ns))

  pub sizes_none : length ns ≤ i → length (encoded_all (drop i ns)) ≡ 0
  sizes_none h = ap length (all_none h)

-- a number's groups, one after another
pub encode_more : (p n : ℕ) (w : List ℕ) → 128 ≤ n → p + length (encoded n) ≤ length w
    → over p (encoded n) w ≡ over (p + 1) (encoded (n / 128)) (set w p (128 + n % 128))
encode_more p n w h l =
    let e = encoded_large n h in
    ap (λ (x : List ℕ). over p x w) e ∙ over_cons p (128 + n % 128) (encoded (n / 128)) w (omega (arith, ap length e))

pub encode_last : (p n : ℕ) (w : List ℕ) → n < 128 → p < length w → over p (encoded n) w ≡ set w p n
encode_last p n w h l = ap (λ (x : List ℕ). over p x w) (encoded_small n h) ∙ sym (over_set p n w l)

-- one number more, and none left
module _ (ns : List ℕ) (i p : ℕ) (w : List ℕ) where
  pub encodes_more : {q : ℕ} {u : List ℕ} → i < length ns → p + length (encoded_all (drop i ns)) ≤ length w
      → q ≡ p + length (encoded (get_or ns i 0))
      → u ≡ over p (encoded (get_or ns i 0)) w
      → (over p (encoded_all (drop i ns)) w ≡ over q (encoded_all (drop (i + 1) ns)) u) × (length u ≡ length w)
      × (q + length (encoded_all (drop (i + 1) ns)) ≤ length u)
  encodes_more {q} {u} h l d e =
      let x = encoded (get_or ns i 0) in
      let m = sizes_more ns i h in
      let k : length u ≡ length w = ap length e ∙ length_over p x w (omega arith) in
      let o = over_over p q x (encoded_all (drop (i + 1) ns)) w d (omega arith) in
      (ap (λ (y : List ℕ). over p y w) (all_more ns i h) ∙ sym (ap (over q (encoded_all (drop (i + 1) ns))) e ∙ o), k, omega arith)

  pub encodes_none : length ns ≤ i → over p (encoded_all (drop i ns)) w ≡ w
  encodes_none h = ap (λ (x : List ℕ). over p x w) (all_none ns i h) ∙ over_none p w

-- no more than were asked for
decoded_count : (count : ℕ) (s : List ℕ) → length (decoded_all count s) ≤ count
unfolding decoded_all
decoded_count zero s = omega arith
decoded_count (suc count) s =
    by_decoded (λ (x : List ℕ). length x ≤ suc count) (decoded s) [] (λ n k. n ∷ decoded_all count (drop k s)) (λ e. omega arith)
    (λ n k e. omega (arith, decoded_count count (drop k s)))

-- the numbers left, one after another
module _ (count i : ℕ) (s w : List ℕ) where
  pub decodes_more : {n k : ℕ} → i < count → count ≤ length w → decoded s ≡ Some (n, k)
      → over i (decoded_all (count - i) s) w ≡ over (i + 1) (decoded_all (count - (i + 1)) (drop k s)) (set w i n)
  unfolding decoded_all by_number
  decodes_more {n} {k} h l e =
      let d : count - i ≡ suc (count - (i + 1)) = omega arith in
      let m = decoded_count (count - (i + 1)) (drop k s) in
      rw (d, e) (over_cons i n (decoded_all (count - (i + 1)) (drop k s)) w (omega arith))

  pub decodes_stop : i < count → decoded s ≡ None → over i (decoded_all (count - i) s) w ≡ w
  unfolding decoded_all by_number
  decodes_stop h e = let d : count - i ≡ suc (count - (i + 1)) = omega arith in rw (d, e) (over_none i w)

  pub decodes_none : count ≤ i → over i (decoded_all (count - i) s) w ≡ w
  unfolding decoded_all
  decodes_none h = let d : count - i ≡ 0 = omega arith in rw d (over_none i w)

-- decoded into n numbers in front
pub decodes_front : (n : ℕ) (s w : List ℕ) {u : List ℕ} → n ≤ length w → u ≡ over 0 (decoded_all (length (take n w)) s) (take n w)
    → u ++ drop n w ≡ over 0 (decoded_all n s) w
decodes_front n s w l e =
    let x = decoded_all n s in
    let k : length (take n w) ≡ n = length-take-le n w l in
    let m = decoded_count n s in
    ap (λ (y : List ℕ). y ++ drop n w) (rw k at e)
    ∙ sym (over_inside [] (take n w) (drop n w) 0 0 x refl (omega arith))
    ∙ ap (over 0 x) (take-append-drop n w)
