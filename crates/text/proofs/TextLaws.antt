-- Digits: of bytes in hexadecimal, as a loop puts them (`hex_put`, `hex_room`), and of a number in decimal: std's text of it is `decimal`
-- (`decimal_text`). Their lengths (`decimal_short`), and those of a line.
use Prim.Native.Nat.{ℕ, zero, suc, ◌+◌, ◌-◌, ◌*◌, ◌/◌, ◌%◌, ◌^◌, ◌≤◌, ◌<◌}
use mathlib.Core.Path.{◌≡◌, refl, sym, ap, ◌∙◌}
use mathlib.Core.List.{List, [], ◌∷◌, ◌++◌, append_assoc, append-nil}
use mathlib.Core.Bool.{Bool, true, false, cond}
use native.Mathlib.Nat.{pow-succ'}
use native.Mathlib.Omega.{arith}
use native.Mathlib.Numerals.{add-one}
use lib.Dec.{ltb, eqb}
use lib.ListN.{length, get_or, take, length-append}
use lib.Seq.{take-suc, length-take-le}
use borrow.Author.Tests.{lt-ltb, ltb-true, ltb-false, ne_eqb}
use Rattle.std.specs.Fmt.{digit_glyph, digits_onto, digits, decimal as std_decimal}
use Rattle.std.specs.Int.{w32, to_be_bytes}
use Rattle.text.specs.declared.Writer.{Writer}
use Rattle.text.specs.Text.{digit, hex, be32, decimal_by, decimal, field, line}
use Rattle.text.specs.Put.{Room, Put}
use Rattle.text.proofs.PutLaws.{length_put, join}

pub length_hex : (s : List ℕ) → length (hex s) ≡ 2 * length s
unfolding hex
length_hex [] = refl
length_hex (b ∷ s) = omega (arith, length_hex s)

hex_append : (s t : List ℕ) → hex (s ++ t) ≡ hex s ++ hex t
unfolding hex
hex_append [] t = refl
hex_append (b ∷ s) t = ap (λ (x : List ℕ). digit (b / 16) ∷ digit (b % 16) ∷ x) (hex_append s t)

-- one byte more
hex_more : (s : List ℕ) (i : ℕ) → i < length s
    → hex (take (i + 1) s) ≡ hex (take i s) ++ (digit (get_or s i 0 / 16) ∷ digit (get_or s i 0 % 16) ∷ [])
unfolding hex
hex_more s i h = rw (add-one, take-suc s i 0) (hex_append (take i s) (get_or s i 0 ∷ []))

-- std's digit below ten
glyph_digit : (d : ℕ) → d < 10 → digit_glyph false d ≡ digit d
unfolding digit
glyph_digit d h = simp (lt-ltb d 10 h)

last_digit : (k n : ℕ) (after : List ℕ) → n < 10 → digits_onto (suc k) 10 false n after ≡ digit n ∷ after
last_digit k n after h =
    let q : n / 10 ≡ 0 = omega arith in
    let r : n % 10 ≡ n = omega arith in
    simp (q, r, glyph_digit n h)

more_digits : (k n : ℕ) (after : List ℕ) → 10 ≤ n
    → digits_onto (suc k) 10 false n after ≡ digits_onto k 10 false (n / 10) (digit (n % 10) ∷ after)
more_digits k n after h =
    let q : eqb (n / 10) 0 ≡ false = ne_eqb (n / 10) 0 (λ z. omega arith) in
    simp (q, glyph_digit (n % 10) (omega arith))

-- std's digits of a number below a power of ten are its decimal
by_tens : (k most n : ℕ) (after : List ℕ) → n ≤ most → n < 10 ^ suc k → digits_onto (suc k) 10 false n after ≡ decimal_by most n ++ after
unfolding decimal_by
by_tens k zero n after l h = last_digit k n after (omega arith)
by_tens zero (suc m) n after l h = simp (lt-ltb n 10 h) (last_digit zero n after h)
by_tens (suc k) (suc m) n after l h =
    let b : n < 10 * 10 ^ suc k = rw pow-succ' at h in
    split (digit n ∷ []) (decimal_by m (n / 10) ++ (digit (n % 10) ∷ [])) (ltb n 10) refl
    (λ t. last_digit (suc k) n after (ltb-true n 10 t))
    (λ t.
    let g : 10 ≤ n = ltb-false n 10 t in
    more_digits (suc k) n after g
    ∙ by_tens k m (n / 10) (digit (n % 10) ∷ after) (omega arith) (omega arith)
    ∙ sym (append_assoc (decimal_by m (n / 10)) (digit (n % 10) ∷ []) after))
  where
    split : {x : List ℕ} (a b : List ℕ) (t : Bool) → ltb n 10 ≡ t → (ltb n 10 ≡ true → x ≡ a ++ after) → (ltb n 10 ≡ false → x ≡ b ++ after)
        → x ≡ cond t a b ++ after
    split a b true e y z = y e
    split a b false e y z = z e

-- std's text of a number is its decimal
pub decimal_text : (n : ℕ) → n < 2 ^ 64 → std_decimal n ≡ decimal n
unfolding decimal digits
decimal_text n h = by_tens 63 n n [] (omega arith) (omega arith) ∙ append-nil (decimal_by n n)

-- where the first i bytes of s are put in hexadecimal: the room left, and one byte more
module _ {u v : Writer} (s : List ℕ) (i : ℕ) (a : Put u v (hex (take i s))) where
  pub hex_room : (end : ℕ) → Room u (field (hex s) end) → i ≤ length s → v.at + 2 * (length s - i) + 1 ≤ length v.out.now
  unfolding field
  hex_room end r h =
      omega (arith, r.fits, a.ends, length_put a, length-append (hex s) (end ∷ []), length_hex s, length_hex (take i s), length-take-le i s h)

  pub hex_put : {w x : Writer} {d e : ℕ} → i < length s → d ≡ digit (get_or s i 0 / 16) → e ≡ digit (get_or s i 0 % 16) → Put v w (d ∷ [])
      → Put w x (e ∷ [])
      → Put u x (hex (take (i + 1) s))
  hex_put h dd ee b c = rw (hex_more s i h, ← dd, ← ee) (join a (join b c))

-- the four bytes as std has them
pub be_bytes : (n : ℕ) → to_be_bytes w32 n ≡ be32 n
unfolding be32
be_bytes n =
    let a : n / 16777216 % 256 ≡ n / 256 / 256 / 256 % 256 = omega arith in
    let b : n / 65536 % 256 ≡ n / 256 / 256 % 256 = omega arith in
    rw (a, b) refl

-- lengths: of a number below a power of ten, and of a line
digits_short : (k most n : ℕ) → n < 10 ^ suc k → length (decimal_by most n) ≤ suc k
unfolding decimal_by
digits_short k zero n h = omega arith
digits_short zero (suc m) n h = simp (lt-ltb n 10 h) (omega arith)
digits_short (suc k) (suc m) n h =
    let b : n < 10 * 10 ^ suc k = rw pow-succ' at h in
    either (ltb n 10) (omega (arith, digits_short k m (n / 10) (omega arith), length-append (decimal_by m (n / 10)) (digit (n % 10) ∷ [])))
  where
    either : (t : Bool) → length (decimal_by m (n / 10) ++ (digit (n % 10) ∷ [])) ≤ suc (suc k)
        → length (cond t (digit n ∷ []) (decimal_by m (n / 10) ++ (digit (n % 10) ∷ []))) ≤ suc (suc k)
    either true h = omega arith
    either false h = h

pub decimal_short : (k n : ℕ) → n < 10 ^ suc k → length (decimal n) ≤ suc k
unfolding decimal
decimal_short k n h = digits_short k n n h

pub length_fields : (f g : List ℕ) (fs : List (List ℕ)) → length (line (f ∷ g ∷ fs)) ≡ length f + 1 + length (line (g ∷ fs))
unfolding line field
length_fields f g fs = simp length-append

pub length_last : (f : List ℕ) → length (line (f ∷ [])) ≡ length f + 1
unfolding line field
length_last f = simp length-append
