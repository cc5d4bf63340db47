-- The shares of some bytes: those of one byte more (`share_cons`), and that the four entries which the code looks up are those of four (`early`).
use mathlib.Core.Path.{◌≡◌, refl, sym, ap, ap₂, ◌∙◌}
use mathlib.Core.List.{List, [], ◌∷◌}
use Prim.Native.Nat.{ℕ, ◌+◌, ◌*◌, ◌/◌, ◌%◌, ◌<◌}
use native.Mathlib.Nat.{add-zero, div-div-eq-div-mul}
use native.Mathlib.Omega.{arith}
use lib.Bits.{bit_xor, bit_and, and_mask, xor_mod, xor_shr, xor_zero_r}
use lib.ListN.{length, get_or}
use Rattle.crc32.specs.Table.{table_entry, number_of, shares_of, shares}
use Rattle.crc32.proofs.Linear.{xor_assoc}

-- of a number joined to the register, the low byte and the rest
low : (c b n : ℕ) → b < 256 → bit_and (bit_xor c (b + 256 * n)) 255 ≡ bit_and (bit_xor c b) 255
low c b n h =
    let e : (b + 256 * n) % 256 ≡ b % 256 = omega arith in
    and_mask (bit_xor c (b + 256 * n)) 8 ∙ xor_mod c (b + 256 * n) 8 ∙ ap (bit_xor (c % 256)) e ∙ sym (xor_mod c b 8)
    ∙ sym (and_mask (bit_xor c b) 8)

rest : (c b n : ℕ) → b < 256 → bit_xor c (b + 256 * n) / 256 ≡ bit_xor (c / 256) n
rest c b n h =
    let e : (b + 256 * n) / 256 ≡ n = omega arith in
    xor_shr c (b + 256 * n) 8 ∙ ap (bit_xor (c / 256)) e

module _ (t : List ℕ) (after : ℕ) where
  pub share_nil : (c : ℕ) → shares t after c [] ≡ 0
  unfolding shares shares_of
  share_nil c = refl

  pub share_cons : (c b : ℕ) (l : List ℕ) → b < 256
      → shares t after c (b ∷ l) ≡ bit_xor (table_entry t (after + length l) (bit_xor c b)) (shares t after (c / 256) l)
  unfolding shares shares_of number_of table_entry
  share_cons c b l h =
      ap₂ (λ (x y : ℕ). bit_xor (get_or t ((after + length l) * 256 + x) 0) (shares_of t after (length l) y))
      (low c b (number_of l) h)
      (rest c b (number_of l) h)

  four_shares : (x : ℕ)
      → bit_xor (bit_xor (bit_xor (table_entry t (after + 3) x) (table_entry t (after + 2) (x / 256))) (table_entry t (after + 1) (x / 65536))) (table_entry t after (x / 16777216))
      ≡ shares_of t after 4 x
  unfolding shares_of
  four_shares x =
      let p = table_entry t (after + 3) x in
      let q = table_entry t (after + 2) (x / 256) in
      let r = table_entry t (after + 1) (x / 65536) in
      let s = table_entry t after (x / 16777216) in
      let two : x / 65536 ≡ x / 256 / 256 = sym (div-div-eq-div-mul x 256 256) in
      let three : x / 16777216 ≡ x / 256 / 256 / 256 = sym (div-div-eq-div-mul x 65536 256) ∙ ap (λ (i : ℕ). i / 256) two in
      xor_assoc (bit_xor p q) r s ∙ xor_assoc p q (bit_xor r s)
      ∙ ap (λ (i : ℕ). bit_xor p (bit_xor q i))
      (ap₂ bit_xor (ap (table_entry t (after + 1)) two)
      (ap₂ (table_entry t) (sym (add-zero after)) three ∙ sym (xor_zero_r (table_entry t (after + 0) (x / 256 / 256 / 256)))))

number_four : (l : List ℕ) → length l ≡ 4 → number_of l ≡ get_or l 0 0 + 256 * get_or l 1 0 + 65536 * get_or l 2 0 + 16777216 * get_or l 3 0
unfolding number_of
number_four [] e = absurd (omega arith)
number_four (a ∷ []) e = absurd (omega arith)
number_four (a ∷ b ∷ []) e = absurd (omega arith)
number_four (a ∷ b ∷ c ∷ []) e = absurd (omega arith)
number_four (a ∷ b ∷ c ∷ d ∷ []) e = omega arith
number_four (a ∷ b ∷ c ∷ d ∷ x ∷ l) e = absurd (omega arith)

-- four bytes as the number w, in the entries that the code looks up
pub early : (t : List ℕ) (after c : ℕ) (l : List ℕ) → length l ≡ 4 → (w : ℕ)
    → w ≡ get_or l 0 0 + 256 * get_or l 1 0 + 65536 * get_or l 2 0 + 16777216 * get_or l 3 0
    → (p q r s : ℕ)
    → p ≡ table_entry t (after + 3) (bit_xor c w)
    → q ≡ table_entry t (after + 2) (bit_xor c w / 256)
    → r ≡ table_entry t (after + 1) (bit_xor c w / 65536)
    → s ≡ table_entry t after (bit_xor c w / 16777216)
    → bit_xor (bit_xor (bit_xor p q) r) s ≡ shares t after c l
unfolding shares
early t after c l len w is p q r s ep eq er es =
    rw (ep, eq, er, es, len) (four_shares t after (bit_xor c w) ∙ ap (λ (i : ℕ). shares_of t after 4 (bit_xor c i)) (is ∙ sym (number_four l len)))
