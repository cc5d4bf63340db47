-- What an erase and a write leave of the flash: one bank is replaced and the others stay (`erased_bank`, `written_bank`). A write ANDs, so onto 0xFF
-- it comes out as it is (`ands_ff`), and onto any bytes what can be read has no greater generation (`generation_below`).
use Prim.Native.Nat.{ℕ, ◌+◌, ◌≤◌, ◌<◌, zero, suc, ◌*◌}
use mathlib.Core.Path.{◌≡◌, refl, ap, ◌∙◌, sym, ap₂, subst}
use mathlib.Core.List.{List, ◌++◌, [], ◌∷◌, append-nil}
use mathlib.Core.Logic.{◌≢◌}
use native.Mathlib.Omega.{arith}
use native.Mathlib.Nat.{mul-le-mul_right, suc-mul, mod-eq_of_lt, lt_of_le_of_lt}
use native.Mathlib.Decide.{dec_le}
use lib.ListN.{length, get_or-append, get_or, take, drop, take-append-drop, length-drop, drop_of_length-le}
use lib.Bits.{bit_and, and_self, and_mask, and_comm, and_le_r}
use lib.Seq.{take-append-le, drop-append-le, take_at, drop_at, length-take-le, drop-drop}
use Rattle.crc32.specs.Crc32.{Bytes}
use Rattle.buffers.proofs.BelowLaws.{below_append, bytes_ff, below_take, below_drop}
use Rattle.buffers.specs.Bytes.{over}
use Rattle.buffers.proofs.OverLaws.{length_over, drop_over, over_inside}
use Rattle.bank.specs.Number.{u32_at}
use Rattle.bank.specs.Bank.{Bank, valid, bank_size, output}
use Rattle.bank.specs.Read.{read_bank}
use Rattle.bank.proofs.PaddedLaws.{blanks, length_blanks}
use Rattle.bank.proofs.ReadLaws.{generation_at}
use Rattle.bank.proofs.OutputLaws.{output_generation}
use Rattle.book.specs.Opening.{bank_in}
use Rattle.run.specs.Flash.{ands, erased, written}

bytes_over : (at : ℕ) (x w : List ℕ) → Bytes x → Bytes w → Bytes (over at x w)
unfolding over
bytes_over at x w h k =
    below_append (take at w) (x ++ drop (at + length x) w) (below_take at w k) (below_append x (drop (at + length x) w) h (below_drop (at + length x) w k))

-- ANDs

-- an AND cannot raise a byte
pub ands_below : (x y : List ℕ) (i : ℕ) → get_or (ands x y) i 0 ≤ get_or y i 0
unfolding ands
ands_below [] y i = omega arith
ands_below (a ∷ x) [] i = omega arith
ands_below (a ∷ x) (b ∷ y) zero = and_le_r a b
ands_below (a ∷ x) (b ∷ y) (suc i) = ands_below x y i

bytes_ands : (x y : List ℕ) → Bytes y → Bytes (ands x y)
bytes_ands x y h i = lt_of_le_of_lt (ands_below x y i) (h i)

pub length_ands : (x y : List ℕ) → length x ≡ length y → length (ands x y) ≡ length y
unfolding ands
length_ands [] [] h = refl
length_ands [] (b ∷ y) h = omega arith
length_ands (a ∷ x) [] h = omega arith
length_ands (a ∷ x) (b ∷ y) h = ap suc (length_ands x y (omega arith))

and_ones : (b : ℕ) → b < 256 → bit_and 255 b ≡ b
and_ones b h = and_comm 255 b ∙ and_mask b 8 ∙ mod-eq_of_lt h

-- onto 0xFF what is written comes out as it is
pub ands_ff : (y : List ℕ) → Bytes y → ands (blanks (length y)) y ≡ y
unfolding ands
ands_ff [] h = refl
ands_ff (b ∷ y) h = ap₂ (λ (a : ℕ) (l : List ℕ). a ∷ l) (and_ones b (h 0)) (ands_ff y (λ i. h (suc i)))

-- and so it does onto itself
pub ands_same : (x y z : List ℕ) → ands (x ++ y) (x ++ z) ≡ x ++ ands y z
unfolding ands
ands_same [] y z = refl
ands_same (a ∷ x) y z = ap₂ (λ (b : ℕ) (l : List ℕ). b ∷ l) (and_self a) (ands_same x y z)

-- banks

-- the flash f' is f but for bank i, where x stands
pub record Replaced (f f' : List ℕ) (i : ℕ) (x : List ℕ) : Type 0 where
  pub bytes : Bytes f'
  pub here : bank_in f' i ≡ x
  pub other : (j : ℕ) → j ≢ i → bank_in f' j ≡ bank_in f j
  pub long : length f' ≡ length f

pub untouched : (f : List ℕ) (i : ℕ) → Bytes f → Replaced f f i (bank_in f i)
untouched f i b = record { bytes = b; here = refl; other = λ j ne. refl; long = refl }

pub replaced_again : {f g h : List ℕ} {i : ℕ} {x y : List ℕ} → Replaced f g i x → Replaced g h i y → Replaced f h i y
replaced_again r s =
    record { bytes = s.bytes; here = s.here; other = λ j ne. s.other j ne ∙ r.other j ne; long = s.long ∙ r.long }

-- the same k bytes from m on, whatever stands behind a
before : (a y z : List ℕ) (m k : ℕ) → m + k ≤ length a → take k (drop m (a ++ y)) ≡ take k (drop m (a ++ z))
before a y z m k h =
    let i : m ≤ length a = omega arith in
    let j : k ≤ length (drop m a) = simp length-drop (omega arith) in
    rw (drop-append-le m a y, drop-append-le m a z, take-append-le k (drop m a) y, take-append-le k (drop m a) z)

-- bank i of n
module _ (flash : List ℕ) (n i : ℕ) (inside : i < n) (long : n * bank_size ≤ length flash) where
  bank_ends : i * bank_size + bank_size ≤ length flash
  bank_ends = omega (arith, mul-le-mul_right bank_size inside, suc-mul i bank_size)

  pub bank_long : length (bank_in flash i) ≡ bank_size
  bank_long = length-take-le bank_size (drop (i * bank_size) flash) (omega (arith, length-drop (i * bank_size) flash, bank_ends))

  -- what stands before it, the bank, and what stands behind it
  abbrev front : List ℕ
  front = take (i * bank_size) flash

  abbrev back : List ℕ
  back = drop bank_size (drop (i * bank_size) flash)

  front_long : length front ≡ i * bank_size
  front_long = length-take-le (i * bank_size) flash (omega (arith, bank_ends))

  parts : flash ≡ front ++ (bank_in flash i ++ back)
  parts =
      sym (take-append-drop (i * bank_size) flash)
      ∙ ap (λ (y : List ℕ). front ++ y) (sym (take-append-drop bank_size (drop (i * bank_size) flash)))

  -- bytes that are put over it, anywhere inside
  module _ (j : ℕ) (x : List ℕ) (small : j + length x ≤ bank_size) where
    abbrev at : ℕ
    at = i * bank_size + j

    fits : at + length x ≤ length flash
    fits = omega (arith, bank_ends)

    over_here : bank_in (over at x flash) i ≡ over j x (bank_in flash i)
    over_here =
        let m = over j x (bank_in flash i) in
        let l : length m ≡ bank_size = length_over j x (bank_in flash i) (omega (arith, bank_long)) ∙ bank_long in
        ap (λ (f : List ℕ). bank_in (over at x f) i) parts
        ∙ ap (λ (f : List ℕ). bank_in f i) (over_inside front (bank_in flash i) back (i * bank_size) j x front_long (omega (arith, bank_long)))
        ∙ ap (take bank_size) (drop_at front (m ++ back) (i * bank_size) front_long)
        ∙ take_at m back bank_size l

    over_other : (k : ℕ) → k ≢ i → bank_in (over at x flash) k ≡ bank_in flash k
    unfolding over
    over_other k h = go (dec_le (suc k) i)
      where
        t : length (take at flash) ≡ at
        t = length-take-le at flash (omega (arith, fits))

        go : Dec (k < i) → bank_in (over at x flash) k ≡ bank_in flash k
        go (yes l) =
            before (take at flash) (x ++ drop (at + length x) flash) (drop at flash) (k * bank_size) bank_size
            (omega (arith, t, mul-le-mul_right bank_size l, suc-mul k bank_size))
            ∙ ap (λ (y : List ℕ). bank_in y k) (take-append-drop at flash)
        go (no l) =
            let m : suc i ≤ k = omega arith in
            ap (take bank_size) (drop_over at x flash fits (k * bank_size) (omega (arith, mul-le-mul_right bank_size m, suc-mul i bank_size)))

    over_bank : Bytes x → Bytes flash → Replaced flash (over at x flash) i (over j x (bank_in flash i))
    over_bank b c = record { bytes = bytes_over at x flash b c; here = over_here; other = over_other; long = length_over at x flash fits }

    -- a write
    abbrev there : List ℕ
    there = take (length x) (drop at flash)

    there_is : there ≡ take (length x) (drop j (bank_in flash i))
    there_is =
        ap (take (length x)) (sym (drop-drop j (i * bank_size) flash) ∙ ap (drop j) (sym (take-append-drop bank_size (drop (i * bank_size) flash))))
        ∙ before (bank_in flash i) back [] j (length x) (omega (arith, bank_long))
        ∙ ap (λ (y : List ℕ). take (length x) (drop j y)) (append-nil (bank_in flash i))

    there_long : length (ands there x) ≡ length x
    there_long = length_ands there x (length-take-le (length x) (drop at flash) (omega (arith, length-drop at flash, fits)))

  pub written_bank : (j : ℕ) (x : List ℕ) → j + length x ≤ bank_size → Bytes x → Bytes flash
      → Replaced flash (written (i * bank_size + j) x flash) i (written j x (bank_in flash i))
  unfolding written
  written_bank j x small b c =
      subst (λ (y : List ℕ). Replaced flash (over (i * bank_size + j) (ands (there j x small) x) flash) i (over j (ands y x) (bank_in flash i))) (there_is j x small)
      (over_bank j (ands (there j x small) x) (omega (arith, there_long j x small)) (bytes_ands (there j x small) x b) c)

  -- from the bank's start on
  pub written_start : (x : List ℕ) → length x ≤ bank_size → Bytes x → Bytes flash
      → Replaced flash (written (i * bank_size) x flash) i (ands (take (length x) (bank_in flash i)) x ++ drop (length x) (bank_in flash i))
  unfolding written over
  written_start x small b c =
      let e : i * bank_size + 0 ≡ i * bank_size = omega arith in
      let m = bank_in flash i in
      let l : 0 + length (ands (take (length x) m) x) ≡ length x =
      omega (arith, length_ands (take (length x) m) x (length-take-le (length x) m (omega (arith, bank_long)))) in
      let q : written 0 x m ≡ ands (take (length x) m) x ++ drop (length x) m = ap (λ (k : ℕ). ands (take (length x) m) x ++ drop k m) l in
      subst (λ (o : ℕ). Replaced flash (written o x flash) i (ands (take (length x) m) x ++ drop (length x) m)) e
      (subst (Replaced flash (written (i * bank_size + 0) x flash) i) q (written_bank 0 x (omega arith) b c))

  -- an erase
  pub erased_bank : Bytes flash → Replaced flash (erased (i * bank_size) flash) i (blanks bank_size)
  unfolding erased over
  erased_bank c =
      let e : i * bank_size + 0 ≡ i * bank_size = omega arith in
      let l : length (blanks bank_size) ≡ bank_size = length_blanks bank_size in
      let m = bank_in flash i in
      let q : over 0 (blanks bank_size) m ≡ blanks bank_size =
      ap (λ (y : List ℕ). blanks bank_size ++ y) (drop_of_length-le m {i = 0 + length (blanks bank_size)} (omega (arith, l, bank_long))) ∙ append-nil (blanks bank_size) in
      subst (λ (o : ℕ). Replaced flash (over o (blanks bank_size) flash) i (blanks bank_size)) e
      (subst (Replaced flash (over (i * bank_size + 0) (blanks bank_size) flash) i) q (over_bank 0 (blanks bank_size) (omega (arith, l)) (bytes_ff bank_size) c))

-- onto any bytes, what can be read has no greater generation

pub ands_number : (x y z : List ℕ) (i : ℕ) → length x ≡ length y → i + 4 ≤ length y → u32_at (ands x y ++ z) i ≤ u32_at y i
unfolding u32_at
ands_number x y z i e l =
    let m : length (ands x y) ≡ length y = length_ands x y e in
    rw
    (get_or-append (ands x y) z 0 i (omega arith), get_or-append (ands x y) z 0 (i + 1) (omega arith), get_or-append (ands x y) z 0 (i + 2) (omega arith), get_or-append (ands x y) z 0 (i + 3) (omega arith))
    (omega (arith, ands_below x y i, ands_below x y (i + 1), ands_below x y (i + 2), ands_below x y (i + 3)))

pub generation_below : (k k' : Bank) (x z : List ℕ) → k.header.generation < 4294967296 → length x ≡ length (output k) → 24 ≤ length (output k)
    → read_bank (ands x (output k) ++ z) ≡ valid k'
    → k'.header.generation ≤ k.header.generation
generation_below k k' x z h e l r =
    omega (arith, generation_at (ands x (output k) ++ z) k' r, ands_number x (output k) z 8 e (omega arith), output_generation k h)
