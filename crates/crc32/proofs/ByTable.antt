-- By tables that follow the rule, a byte, four or sixteen at a time, the register goes as it does bit by bit.
use mathlib.Core.Path.{◌≡◌, refl, sym, ap, ap₂, ◌∙◌, subst}
use mathlib.Core.List.{List, [], ◌∷◌, ◌++◌, append-nil}
use Prim.Native.Nat.{ℕ, zero, suc, ◌+◌, ◌*◌, ◌/◌, ◌^◌, ◌<◌, ◌≤◌}
use native.Mathlib.Nat.{div-mul-le_self, div-lt_iff_lt-mul, pow-suc, one-le-pow, suc-mul}
use native.Mathlib.Omega.{arith}
use lib.Dec.{lit≤}
use lib.Bits.{bit_xor, bit_and, mask_lt, xor_zero_r, xor_zero_l, xor_comm}
use lib.ListN.{length, take, drop, take-append-drop, length-append, length-drop}
use lib.Seq.{length-take-le}
use Rattle.crc32.specs.Crc32.{bit_steps, byte_steps, crc32_of, Bytes}
use Rattle.crc32.specs.Table.{IsTables, table_entry, by_bytes, shares, block, times, in_runs, by_words, by_blocks, crc32_by}
use Rattle.buffers.proofs.BelowLaws.{below_take, below_drop}
use Rattle.crc32.proofs.Linear.{xor_assoc, byte_step_lem, share, steps_append, byte_steps_lt}
use Rattle.crc32.proofs.Shares.{share_nil, share_cons}

module _ {n : ℕ} {t : List ℕ} (is : IsTables n t) where
  entry_steps : (row x : ℕ) → row < n → table_entry t row x ≡ bit_steps (8 * (row + 1)) (bit_and x 255)
  unfolding table_entry
  entry_steps row x h = is.rule row (bit_and x 255) h (mask_lt x 8)

  pub by_bytes_lem : 0 < n → (c : ℕ) (l : List ℕ) → Bytes l → by_bytes t c l ≡ byte_steps c l
  unfolding by_bytes byte_steps
  by_bytes_lem h c [] k = refl
  by_bytes_lem h c (b ∷ l) k =
      by_bytes_lem h (bit_xor (table_entry t 0 (bit_xor c b)) (c / 256)) l (λ i. k (suc i))
      ∙ ap (λ (x : ℕ). byte_steps x l)
      (ap (λ (x : ℕ). bit_xor x (c / 256)) (entry_steps 0 (bit_xor c b) h) ∙ byte_step_lem c b (k 0))

-- what is left of the register behind a list of bytes
unfoldable left : ℕ → List ℕ → ℕ
left c [] = c
left c (b ∷ bs) = left (c / 256) bs

left_none : (c : ℕ) (l : List ℕ) → c < 256 ^ length l → left c l ≡ 0
unfolding left
left_none c [] h = omega arith
left_none c (b ∷ l) h = left_none (c / 256) l ((div-lt_iff_lt-mul {k = 256} (lit≤ tt)).1 (rw pow-suc at h))

module _ {n : ℕ} {t : List ℕ} (is : IsTables n t) where
  -- the shares of some bytes, with what the bytes behind them make of the rest of the register
  shares_steps : (c : ℕ) (l m : List ℕ) → length m + length l ≤ n → Bytes l
      → bit_xor (shares t (length m) c l) (byte_steps (left c l) m) ≡ byte_steps c (l ++ m)
  unfolding left
  shares_steps c [] m h k = ap (λ (x : ℕ). bit_xor x (byte_steps c m)) (share_nil t (length m) c) ∙ xor_zero_l (byte_steps c m)
  shares_steps c (b ∷ l) m h k =
      let row = length m + length l in
      let e = table_entry t row (bit_xor c b) in
      let x = bit_and (bit_xor c b) 255 in
      let s : 8 * (row + 1) ≡ 8 * suc (length (l ++ m)) = omega (arith, length-append l m) in
      ap (λ (y : ℕ). bit_xor y (byte_steps (left (c / 256) l) m)) (share_cons t (length m) c b l (k 0))
      ∙ xor_assoc e (shares t (length m) (c / 256) l) (byte_steps (left (c / 256) l) m)
      ∙ ap (bit_xor e) (shares_steps (c / 256) l m (omega arith) (λ i. k (suc i)))
      ∙ ap (λ (y : ℕ). bit_xor y (byte_steps (c / 256) (l ++ m)))
      (entry_steps is row (bit_xor c b) (omega arith) ∙ ap (λ (i : ℕ). bit_steps i x) s)
      ∙ sym (share c b (l ++ m) (k 0))

-- w bytes at a time by f and the rest by g, where both go as bit by bit
module _
    (w : ℕ)
    (f g : ℕ → List ℕ → ℕ)
    (run : (c : ℕ) (l : List ℕ) → c < 2 ^ 32 → length l ≡ w → Bytes l → f c l ≡ byte_steps c l)
    (rest : (c : ℕ) (l : List ℕ) → c < 2 ^ 32 → Bytes l → g c l ≡ byte_steps c l) where
  times_steps : (n c : ℕ) (l : List ℕ) → c < 2 ^ 32 → n * w ≤ length l → Bytes l → times n w f g c l ≡ byte_steps c l
  unfolding times
  times_steps zero c l h len k = rest c l h k
  times_steps (suc n) c l h len k =
      let x = take w l in
      let bx = below_take w l k in
      let long : n * w + w ≤ length l = rw (suc-mul n w) at len in
      let e : f c x ≡ byte_steps c x = run c x h (length-take-le w l (omega arith)) bx in
      ap (λ (i : ℕ). times n w f g i (drop w l)) e
      ∙ times_steps n (byte_steps c x) (drop w l) (byte_steps_lt c x h bx) (omega (arith, length-drop w l)) (below_drop w l k)
      ∙ sym (steps_append x (drop w l) c)
      ∙ ap (byte_steps c) (take-append-drop w l)

  runs_steps : (c : ℕ) (l : List ℕ) → c < 2 ^ 32 → Bytes l → in_runs w f g c l ≡ byte_steps c l
  unfolding in_runs
  runs_steps c l h k = times_steps (length l / w) c l h (div-mul-le_self (length l) w) k

module _ {t : List ℕ} (is : IsTables 16 t) where
  -- the shares of bytes that reach past the register
  all_steps : (c : ℕ) (l : List ℕ) → c < 256 ^ length l → length l ≤ 16 → Bytes l → shares t 0 c l ≡ byte_steps c l
  unfolding byte_steps
  all_steps c l less h k =
      sym (xor_zero_r (shares t 0 c l)) ∙ ap (bit_xor (shares t 0 c l)) (sym (left_none c l less))
      ∙ shares_steps is c l [] (omega arith) k
      ∙ ap (byte_steps c) (append-nil l)

  word_steps : (c : ℕ) (l : List ℕ) → c < 2 ^ 32 → length l ≡ 4 → Bytes l → shares t 0 c l ≡ byte_steps c l
  word_steps c l h len k = all_steps c l (subst (λ (i : ℕ). c < 256 ^ i) (sym len) h) (omega arith) k

  block_steps : (c : ℕ) (l : List ℕ) → c < 2 ^ 32 → length l ≡ 16 → Bytes l → block t c l ≡ byte_steps c l
  unfolding block
  block_steps c l h len k =
      let x = take 4 l in
      let y = drop 4 l in
      let lx : length x ≡ 4 = length-take-le 4 l (omega arith) in
      let ly : length y ≡ 12 = omega (arith, length-drop 4 l) in
      let first : left c x ≡ 0 = left_none c x (subst (λ (i : ℕ). c < 256 ^ i) (sym lx) h) in
      let late : shares t 0 0 y ≡ byte_steps (left c x) y =
      all_steps 0 y (one-le-pow (length y) 256 (lit≤ tt)) (omega arith) (below_drop 4 l k) ∙ ap (λ (i : ℕ). byte_steps i y) (sym first) in
      xor_comm (shares t 0 0 y) (shares t 12 c x)
      ∙ ap₂ (λ (i j : ℕ). bit_xor (shares t i c x) j) (sym ly) late
      ∙ shares_steps is c x y (omega arith) (below_take 4 l k)
      ∙ ap (byte_steps c) (take-append-drop 4 l)

  words_steps : (c : ℕ) (l : List ℕ) → c < 2 ^ 32 → Bytes l → by_words t c l ≡ byte_steps c l
  unfolding by_words
  words_steps = runs_steps 4 (shares t 0) (by_bytes t) word_steps (λ c l h k. by_bytes_lem is (lit≤ tt) c l k)

  blocks_steps : (c : ℕ) (l : List ℕ) → c < 2 ^ 32 → Bytes l → by_blocks t c l ≡ byte_steps c l
  unfolding by_blocks
  blocks_steps = runs_steps 16 (block t) (by_words t) block_steps words_steps

  -- right tables give the CRC-32
  pub crc_by : (l : List ℕ) → Bytes l → crc32_by t l ≡ crc32_of l
  unfolding crc32_by crc32_of
  crc_by l k = ap (λ (i : ℕ). bit_xor i 0xFFFFFFFF) (blocks_steps 0xFFFFFFFF l (lit≤ tt) k)
