-- Exclusive or is associative, bit steps are linear in it, and eight steps of a number are those of its low byte with the rest.
use mathlib.Core.Path.{◌≡◌, refl, sym, ap, ap₂, ◌∙◌}
use mathlib.Core.List.{List, [], ◌∷◌, ◌++◌}
use Prim.Native.Nat.{ℕ, zero, suc, ◌+◌, ◌*◌, ◌/◌, ◌%◌, ◌^◌, ◌<◌}
use native.Mathlib.Nat.{mod-lt, mul-one, div-eq_of_lt, zero-add, suc-add}
use native.Mathlib.Omega.{arith}
use lib.Arith.{bin_ind}
use lib.Dec.{lit≤}
use lib.ListN.{length}
use lib.Pow.{pow_pos, split}
use lib.Bits.{bit_xor, bit_and, differ, and_mask, xor_zero_r, xor_step, xor_comm, xor_shr, xor_mod, xor_lt, xor_shifted, shifted_half, shifted_even}
use Rattle.crc32.specs.Crc32.{poly_if, bit_step, bit_steps, byte_step, byte_steps, crc32_of, Bytes}

two : (n : ℕ) → n % 2 < 2
two n = omega arith

differ_assoc : (x y z : ℕ) → x < 2 → y < 2 → z < 2 → differ (differ x y) z ≡ differ x (differ y z)
differ_assoc zero y z hx hy hz = refl
differ_assoc (suc zero) zero z hx hy hz = refl
differ_assoc (suc zero) (suc zero) zero hx hy hz = refl
differ_assoc (suc zero) (suc zero) (suc zero) hx hy hz = refl
differ_assoc (suc zero) (suc zero) (suc (suc z)) hx hy hz = absurd (omega arith)
differ_assoc (suc zero) (suc (suc y)) z hx hy hz = absurd (omega arith)
differ_assoc (suc (suc x)) y z hx hy hz = absurd (omega arith)

differ_xor : (x y : ℕ) → x < 2 → y < 2 → bit_xor x y ≡ differ x y
differ_xor zero y hx hy = refl
differ_xor (suc zero) zero hx hy = refl
differ_xor (suc zero) (suc zero) hx hy = refl
differ_xor (suc zero) (suc (suc y)) hx hy = absurd (omega arith)
differ_xor (suc (suc x)) y hx hy = absurd (omega arith)

xor_odd : (a b : ℕ) → bit_xor a b % 2 ≡ differ (a % 2) (b % 2)
xor_odd a b = xor_mod a b 1 ∙ differ_xor (a % 2) (b % 2) (two a) (two b)

pub xor_assoc : (a b c : ℕ) → bit_xor (bit_xor a b) c ≡ bit_xor a (bit_xor b c)
xor_assoc a =
    bin_ind (λ (n : ℕ). (b c : ℕ) → bit_xor (bit_xor n b) c ≡ bit_xor n (bit_xor b c)) (λ b c. refl)
    (λ n ih b c. xor_step (bit_xor n b) c
    ∙ ap₂ (λ (x y : ℕ). x * 2 + y)
    (ap (λ (x : ℕ). bit_xor x (c / 2)) (xor_shr n b 1) ∙ ih (b / 2) (c / 2) ∙ ap (bit_xor (n / 2)) (sym (xor_shr b c 1)))
    (ap (λ (x : ℕ). differ x (c % 2)) (xor_odd n b)
    ∙ differ_assoc (n % 2) (b % 2) (c % 2) (two n) (two b) (two c)
    ∙ ap (differ (n % 2)) (sym (xor_odd b c)))
    ∙ sym (xor_step n (bit_xor b c))) a

xor_four : (a b c d : ℕ) → bit_xor (bit_xor a b) (bit_xor c d) ≡ bit_xor (bit_xor a c) (bit_xor b d)
xor_four a b c d =
    xor_assoc a b (bit_xor c d)
    ∙ ap (bit_xor a) (sym (xor_assoc b c d) ∙ ap (λ (x : ℕ). bit_xor x d) (xor_comm b c) ∙ xor_assoc c b d)
    ∙ sym (xor_assoc a c (bit_xor b d))

poly_xor : (x y : ℕ) → x < 2 → y < 2 → poly_if (bit_xor x y) ≡ bit_xor (poly_if x) (poly_if y)
unfolding poly_if
poly_xor zero y hx hy = refl
poly_xor (suc zero) zero hx hy = refl
poly_xor (suc zero) (suc zero) hx hy = refl
poly_xor (suc zero) (suc (suc y)) hx hy = absurd (omega arith)
poly_xor (suc (suc x)) y hx hy = absurd (omega arith)

step_xor : (a b : ℕ) → bit_step (bit_xor a b) ≡ bit_xor (bit_step a) (bit_step b)
unfolding bit_step
step_xor a b =
    ap₂ (λ (p q : ℕ). bit_xor (poly_if p) q) (xor_mod a b 1) (xor_shr a b 1)
    ∙ ap (λ (p : ℕ). bit_xor p (bit_xor (a / 2) (b / 2))) (poly_xor (a % 2) (b % 2) (two a) (two b))
    ∙ xor_four (poly_if (a % 2)) (poly_if (b % 2)) (a / 2) (b / 2)

steps_xor : (n a b : ℕ) → bit_steps n (bit_xor a b) ≡ bit_xor (bit_steps n a) (bit_steps n b)
unfolding bit_steps
steps_xor zero a b = refl
steps_xor (suc n) a b = ap (bit_steps n) (step_xor a b) ∙ steps_xor n (bit_step a) (bit_step b)

pub steps_add : (m n c : ℕ) → bit_steps n (bit_steps m c) ≡ bit_steps (m + n) c
unfolding bit_steps
steps_add zero n c = ap (λ (k : ℕ). bit_steps k c) (sym (zero-add n))
steps_add (suc m) n c = steps_add m n (bit_step c) ∙ ap (λ (k : ℕ). bit_steps k c) (sym (suc-add m n))

step_even : (h k : ℕ) → bit_step (h * 2 ^ suc k) ≡ h * 2 ^ k
unfolding bit_step poly_if
step_even h k = ap₂ (λ (p q : ℕ). bit_xor (poly_if p) q) (shifted_even h k) (shifted_half h k)

steps_high : (n h : ℕ) → bit_steps n (h * 2 ^ n) ≡ h
unfolding bit_steps
steps_high zero h = mul-one h
steps_high (suc n) h = ap (bit_steps n) (step_even h n) ∙ steps_high n h

-- n steps of a number: those of its n low bits, with the rest
steps_split : (n x : ℕ) → bit_steps n x ≡ bit_xor (bit_steps n (x % 2 ^ n)) (x / 2 ^ n)
steps_split n x =
    ap (bit_steps n) (sym (split x n) ∙ sym (xor_shifted (x / 2 ^ n) n (x % 2 ^ n) (mod-lt x (pow_pos n))))
    ∙ steps_xor n (x / 2 ^ n * 2 ^ n) (x % 2 ^ n)
    ∙ ap (λ (z : ℕ). bit_xor z (bit_steps n (x % 2 ^ n))) (steps_high n (x / 2 ^ n))
    ∙ xor_comm (x / 2 ^ n) (bit_steps n (x % 2 ^ n))

-- b is all in the low byte, so the rest of c xor b is the rest of c
pub byte_step_lem : (c b : ℕ) → b < 256 → bit_xor (bit_steps 8 (bit_and (bit_xor c b) 255)) (c / 256) ≡ byte_step c b
unfolding byte_step
byte_step_lem c b h =
    ap₂ (λ (x y : ℕ). bit_xor (bit_steps 8 x) y) (and_mask (bit_xor c b) 8)
    (sym (xor_shr c b 8 ∙ ap (bit_xor (c / 256)) (div-eq_of_lt h) ∙ xor_zero_r (c / 256)))
    ∙ sym (steps_split 8 (bit_xor c b))

byte_xor : (x y b : ℕ) → byte_step (bit_xor x y) b ≡ bit_xor (bit_steps 8 x) (byte_step y b)
unfolding byte_step
byte_xor x y b = ap (bit_steps 8) (xor_assoc x y b) ∙ steps_xor 8 x (bit_xor y b)

eight_more : (n : ℕ) → 8 + 8 * n ≡ 8 * suc n
eight_more n = omega arith

-- what is joined to the register has its own way through the bytes
bytes_xor : (l : List ℕ) (x y : ℕ) → byte_steps (bit_xor x y) l ≡ bit_xor (bit_steps (8 * length l) x) (byte_steps y l)
unfolding byte_steps bit_steps
bytes_xor [] x y = refl
bytes_xor (b ∷ l) x y =
    ap (λ (z : ℕ). byte_steps z l) (byte_xor x y b) ∙ bytes_xor l (bit_steps 8 x) (byte_step y b)
    ∙ ap (λ (z : ℕ). bit_xor z (byte_steps (byte_step y b) l))
    (steps_add 8 (8 * length l) x ∙ ap (λ (k : ℕ). bit_steps k x) (eight_more (length l)))

-- the first byte's share, and the rest from what the byte leaves of the register
pub share : (c b : ℕ) (l : List ℕ) → b < 256
    → byte_steps c (b ∷ l) ≡ bit_xor (bit_steps (8 * suc (length l)) (bit_and (bit_xor c b) 255)) (byte_steps (c / 256) l)
unfolding byte_steps
share c b l h =
    let x = bit_and (bit_xor c b) 255 in
    ap (λ (z : ℕ). byte_steps z l) (sym (byte_step_lem c b h)) ∙ bytes_xor l (bit_steps 8 x) (c / 256)
    ∙ ap (λ (z : ℕ). bit_xor z (byte_steps (c / 256) l))
    (steps_add 8 (8 * length l) x ∙ ap (λ (k : ℕ). bit_steps k x) (eight_more (length l)))

pub steps_append : (xs ys : List ℕ) (c : ℕ) → byte_steps c (xs ++ ys) ≡ byte_steps (byte_steps c xs) ys
unfolding byte_steps
steps_append [] ys c = refl
steps_append (x ∷ xs) ys c = steps_append xs ys (byte_step c x)

-- a register of 32 bits stays one
poly_lt : (n : ℕ) → poly_if n < 2 ^ 32
unfolding poly_if
poly_lt zero = lit≤ tt
poly_lt (suc n) = lit≤ tt

bit_steps_lt : (n c : ℕ) → c < 2 ^ 32 → bit_steps n c < 2 ^ 32
unfolding bit_steps bit_step
bit_steps_lt zero c h = h
bit_steps_lt (suc n) c h = bit_steps_lt n (bit_step c) (xor_lt 32 (poly_if (c % 2)) (c / 2) (poly_lt (c % 2)) (omega arith))

pub byte_steps_lt : (c : ℕ) (l : List ℕ) → c < 2 ^ 32 → Bytes l → byte_steps c l < 2 ^ 32
unfolding byte_steps byte_step
byte_steps_lt c [] h k = h
byte_steps_lt c (b ∷ l) h k =
    byte_steps_lt (byte_step c b) l (bit_steps_lt 8 (bit_xor c b) (xor_lt 32 c b h (omega (arith, k 0)))) (λ i. k (suc i))

-- a checksum is a 32-bit number
pub crc_lt : (l : List ℕ) → Bytes l → crc32_of l < 2 ^ 32
unfolding crc32_of
crc_lt l k = xor_lt 32 (byte_steps 0xFFFFFFFF l) 0xFFFFFFFF (byte_steps_lt 0xFFFFFFFF l (lit≤ tt) k) (lit≤ tt)
