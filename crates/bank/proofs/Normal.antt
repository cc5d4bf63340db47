-- A record whose reserved and closing bytes are zeroed is the record as it would be written.
use Prim.Native.Nat.{ℕ, ◌+◌, ◌-◌, ◌*◌, ◌/◌, ◌%◌, ◌≤◌, ◌<◌}
use mathlib.Core.Path.{◌≡◌, sym, ap, ap₂, ◌∙◌}
use mathlib.Core.List.{List, [], ◌∷◌, ◌++◌, append_assoc}
use native.Mathlib.Numerals.{add-one}
use native.Mathlib.Omega.{arith}
use lib.ListN.{length, get_or, set, take, drop, take-append-drop, length-append, length-drop}
use lib.Seq.{drop-cons, drop-drop, take_all, set_at, length-take-le}
use Rattle.crc32.specs.Crc32.{Bytes}
use Rattle.bank.specs.Number.{u32_at, le32}
use Rattle.bank.specs.Record.{record_of, name_at, value_at, var_header_bytes, record_bytes}
use Rattle.bank.specs.Raw.{Whole}
use Rattle.bank.proofs.NumberLaws.{length_le32, start_low, start_high}

-- the bytes of a number that was read
four_bytes : (a b c d : ℕ) → a < 256 → b < 256 → c < 256 → d < 256 → le32 (a + 256 * b + 65536 * c + 16777216 * d) ≡ a ∷ b ∷ c ∷ d ∷ []
unfolding le32
four_bytes a b c d ha hb hc hd =
    let n = a + 256 * b + 65536 * c + 16777216 * d in
    let q1 : n / 256 ≡ b + 256 * c + 65536 * d = omega arith in
    let q2 : (b + 256 * c + 65536 * d) / 256 ≡ c + 256 * d = omega arith in
    let q3 : (c + 256 * d) / 256 ≡ d = omega arith in
    let e0 : n % 256 ≡ a = omega arith in
    let e1 : n / 256 % 256 ≡ b = rw q1 (omega arith) in
    let e2 : n / 256 / 256 % 256 ≡ c = rw (q1, q2) (omega arith) in
    let e3 : n / 256 / 256 / 256 % 256 ≡ d = rw (q1, q2, q3) (omega arith) in
    λ i. e0 i ∷ e1 i ∷ e2 i ∷ e3 i ∷ []

pub one_more : (s : List ℕ) (i : ℕ) → i < length s → drop i s ≡ get_or s i 0 ∷ drop (i + 1) s
one_more s i h = rw (add-one, drop-cons s i 0)

pub u32_split : (s : List ℕ) (i : ℕ) → Bytes s → i + 4 ≤ length s → drop i s ≡ le32 (u32_at s i) ++ drop (i + 4) s
unfolding u32_at
u32_split s i k h =
    let a1 : i + 1 + 1 ≡ i + 2 = omega arith in
    let a2 : i + 2 + 1 ≡ i + 3 = omega arith in
    let a3 : i + 3 + 1 ≡ i + 4 = omega arith in
    one_more s i (omega arith) ∙ ap (λ (l : List ℕ). get_or s i 0 ∷ l) (one_more s (i + 1) (omega arith))
    ∙ ap (λ (n : ℕ). get_or s i 0 ∷ get_or s (i + 1) 0 ∷ drop n s) a1
    ∙ ap (λ (l : List ℕ). get_or s i 0 ∷ get_or s (i + 1) 0 ∷ l) (one_more s (i + 2) (omega arith))
    ∙ ap (λ (n : ℕ). get_or s i 0 ∷ get_or s (i + 1) 0 ∷ get_or s (i + 2) 0 ∷ drop n s) a2
    ∙ ap (λ (l : List ℕ). get_or s i 0 ∷ get_or s (i + 1) 0 ∷ get_or s (i + 2) 0 ∷ l) (one_more s (i + 3) (omega arith))
    ∙ ap (λ (n : ℕ). get_or s i 0 ∷ get_or s (i + 1) 0 ∷ get_or s (i + 2) 0 ∷ get_or s (i + 3) 0 ∷ drop n s) a3
    ∙ ap (λ (l : List ℕ). l ++ drop (i + 4) s)
    (sym (four_bytes (get_or s i 0) (get_or s (i + 1) 0) (get_or s (i + 2) 0) (get_or s (i + 3) 0) (k i) (k (i + 1)) (k (i + 2)) (k (i + 3))))

part_split : (s : List ℕ) (i n : ℕ) → drop i s ≡ take n (drop i s) ++ drop (i + n) s
part_split s i n = sym (take-append-drop n (drop i s)) ∙ ap (λ (l : List ℕ). take n (drop i s) ++ l) (drop-drop n i s)

module _ (x : List ℕ) (w : Whole x) where
  abbrev fields : List ℕ
  fields = le32 (u32_at x 4) ++ (le32 (name_at x) ++ (le32 (value_at x) ++ (take 16 (drop 16 x) ++ le32 (u32_at x 32))))

  abbrev key : List ℕ
  key = take (name_at x - 1) (drop 36 x)

  abbrev value : List ℕ
  value = take (value_at x) (drop (36 + name_at x) x)

  long_enough : 37 ≤ length x
  long_enough = let l = w.long in let n = w.named in omega arith

  from_four : drop 4 x ≡ fields ++ drop 36 x
  from_four =
      let l = long_enough in
      u32_split x 4 w.bytes (omega arith)
      ∙ ap (λ (r : List ℕ). le32 (u32_at x 4) ++ r)
      (u32_split x 8 w.bytes (omega arith)
      ∙ ap (λ (r : List ℕ). le32 (name_at x) ++ r)
      (u32_split x 12 w.bytes (omega arith)
      ∙ ap (λ (r : List ℕ). le32 (value_at x) ++ r)
      (part_split x 16 16 ∙ ap (λ (r : List ℕ). take 16 (drop 16 x) ++ r) (u32_split x 32 w.bytes (omega arith)))))
      ∙ simp append_assoc

  from_key : drop 36 x ≡ key ++ (get_or x (35 + name_at x) 0 ∷ value)
  from_key =
      let l = w.long in
      let n = w.named in
      let a : 36 + (name_at x - 1) ≡ 35 + name_at x = omega arith in
      let b : 35 + name_at x + 1 ≡ 36 + name_at x = omega arith in
      let m : length (drop (36 + name_at x) x) ≤ value_at x = omega (arith, length-drop (36 + name_at x) x) in
      part_split x 36 (name_at x - 1)
      ∙ ap (λ (r : List ℕ). key ++ r)
      (ap (λ (i : ℕ). drop i x) a ∙ one_more x (35 + name_at x) (omega arith)
      ∙ ap (λ (i : ℕ). get_or x (35 + name_at x) 0 ∷ drop i x) b
      ∙ ap (λ (r : List ℕ). get_or x (35 + name_at x) 0 ∷ r) (sym (take_all (value_at x) (drop (36 + name_at x) x) m)))

  head : x ≡ get_or x 0 0 ∷ get_or x 1 0 ∷ get_or x 2 0 ∷ get_or x 3 0 ∷ drop 4 x
  head =
      let l = long_enough in
      one_more x 0 (omega arith) ∙ ap (λ (r : List ℕ). get_or x 0 0 ∷ r) (one_more x 1 (omega arith))
      ∙ ap (λ (r : List ℕ). get_or x 0 0 ∷ get_or x 1 0 ∷ r) (one_more x 2 (omega arith))
      ∙ ap (λ (r : List ℕ). get_or x 0 0 ∷ get_or x 1 0 ∷ get_or x 2 0 ∷ r) (one_more x 3 (omega arith))

  -- the reserved byte zeroed
  abbrev before : List ℕ
  before = 0xAA ∷ 0x55 ∷ get_or x 2 0 ∷ 0 ∷ (fields ++ key)

  reserved : set x 3 0 ≡ before ++ (get_or x (35 + name_at x) 0 ∷ value)
  reserved =
      ap (λ (l : List ℕ). set l 3 0) head
      ∙ ap₂ (λ (a b : ℕ). a ∷ b ∷ get_or x 2 0 ∷ 0 ∷ drop 4 x) (start_low x w.bytes w.starts) (start_high x w.bytes w.starts)
      ∙ ap (λ (l : List ℕ). 0xAA ∷ 0x55 ∷ get_or x 2 0 ∷ 0 ∷ l)
      (from_four ∙ ap (λ (r : List ℕ). fields ++ r) from_key ∙ sym (append_assoc fields key (get_or x (35 + name_at x) 0 ∷ value)))

  length_before : length before ≡ 35 + name_at x
  length_before =
      let l = w.long in
      let n = w.named in
      let g : length (take 16 (drop 16 x)) ≡ 16 = length-take-le 16 (drop 16 x) (omega (arith, length-drop 16 x)) in
      let k : length key ≡ name_at x - 1 = length-take-le (name_at x - 1) (drop 36 x) (omega (arith, length-drop 36 x)) in
      simp (length-append, length_le32) (omega (arith, g, k))

  name_length : length key + 1 ≡ name_at x
  name_length =
      let l = w.long in
      let n = w.named in
      let k : length key ≡ name_at x - 1 = length-take-le (name_at x - 1) (drop 36 x) (omega (arith, length-drop 36 x)) in
      omega arith

  value_length : length value ≡ value_at x
  value_length =
      let l = w.long in length-take-le (value_at x) (drop (36 + name_at x) x) (omega (arith, length-drop (36 + name_at x) x))

  written : record_bytes (record_of x) ≡ before ++ (0 ∷ value)
  unfolding record_bytes record_of var_header_bytes
  written =
      rw (name_length, value_length, sym w.summed)
      (ap (λ (l : List ℕ). 0xAA ∷ 0x55 ∷ get_or x 2 0 ∷ 0 ∷ l) (sym (append_assoc fields key (0 ∷ value))))

  pub normal : set (set x 3 0) (35 + name_at x) 0 ≡ record_bytes (record_of x)
  normal =
      ap (λ (l : List ℕ). set l (35 + name_at x) 0) reserved
      ∙ set_at before (get_or x (35 + name_at x) 0) value 0 (35 + name_at x) length_before
      ∙ sym written
