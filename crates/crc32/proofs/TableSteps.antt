-- The code's folds and loops in the words of specs/Table: a byte at a time (`bytes_fold`), the last of a block (`late_more`, `late_none`), runs of
-- `as_chunks` and the rest (`runs_fold`).
use mathlib.Core.Path.{◌≡◌, refl, sym, ap, ap₂, ◌∙◌}
use mathlib.Core.List.{List, [], ◌∷◌}
use Prim.Native.Nat.{ℕ, zero, suc, ◌+◌, ◌-◌, ◌*◌, ◌/◌, ◌≤◌, ◌<◌}
use native.Mathlib.Nat.{div-eq_of_lt}
use native.Mathlib.Numerals.{add-one}
use native.Mathlib.Omega.{arith}
use lib.Bits.{bit_xor, xor_zero_r}
use lib.ListN.{length, take, drop, get_or, drop_of_length-le, length-drop}
use lib.Seq.{drop-cons, drop-drop}
use Rattle.std.specs.List.{fold}
use Rattle.std.specs.Simd.{first_chunks}
use Rattle.crc32.specs.Table.{table_entry, by_bytes, shares, times, in_runs}
use Rattle.crc32.proofs.Linear.{xor_assoc}
use Rattle.crc32.proofs.Shares.{share_nil, share_cons}

pub bytes_fold : (t : List ℕ) (c : ℕ) (l : List ℕ)
    → fold (λ (x b : ℕ). bit_xor (table_entry t 0 (bit_xor x b)) (x / 256)) c l ≡ by_bytes t c l
unfolding by_bytes
bytes_fold t c [] = refl
bytes_fold t c (b ∷ l) = bytes_fold t (bit_xor (table_entry t 0 (bit_xor c b)) (c / 256)) l

pub late_more : (t : List ℕ) (acc : ℕ) (l : List ℕ) (i row : ℕ) → i < length l → get_or l i 0 < 256 → row ≡ length l - 1 - i
    → bit_xor (bit_xor acc (table_entry t row (get_or l i 0))) (shares t 0 0 (drop (i + 1) l)) ≡ bit_xor acc (shares t 0 0 (drop i l))
late_more t acc l i row h k e =
    let d = drop (suc i) l in
    let n : row ≡ 0 + length d = omega (arith, length-drop (suc i) l) in
    rw (add-one, drop-cons l i 0, n, share_cons t 0 0 (get_or l i 0) d k) (xor_assoc acc (table_entry t (0 + length d) (get_or l i 0)) (shares t 0 0 d))

pub late_none : (t : List ℕ) (acc : ℕ) (l : List ℕ) (i : ℕ) → length l ≤ i → bit_xor acc (shares t 0 0 (drop i l)) ≡ acc
late_none t acc l i h =
    ap (λ (d : List ℕ). bit_xor acc (shares t 0 0 d)) (drop_of_length-le l h) ∙ ap (bit_xor acc) (share_nil t 0 0) ∙ xor_zero_r acc

pub run_none : (w : ℕ) (f g : ℕ → List ℕ → ℕ) (c : ℕ) (l : List ℕ) → length l < w → in_runs w f g c l ≡ g c l
unfolding in_runs times
run_none w f g c l h = rw (div-eq_of_lt h)

-- a fold over the runs, then the rest
times_fold : (n w : ℕ) (f g : ℕ → List ℕ → ℕ) (c : ℕ) (l : List ℕ) → times n w f g c l ≡ g (fold f c (first_chunks w n l)) (drop (n * w) l)
unfolding times
times_fold zero w f g c l = let z : 0 * w ≡ 0 = omega arith in ap (λ (i : ℕ). g c (drop i l)) (sym z)
times_fold (suc n) w f g c l =
    let e : w + n * w ≡ suc n * w = omega arith in
    times_fold n w f g (f c (take w l)) (drop w l)
    ∙ ap (g (fold f (f c (take w l)) (first_chunks w n (drop w l)))) (drop-drop (n * w) w l ∙ ap (λ (i : ℕ). drop i l) e)

-- what `as_chunks` parts: the runs by f and the rest by g
pub runs_fold : (w : ℕ) (f g : ℕ → List ℕ → ℕ) (c x : ℕ) (l rest : List ℕ) (runs : List (List ℕ)) → runs ≡ first_chunks w (length l / w) l
    → rest ≡ drop (length l / w * w) l → x ≡ fold f c runs → g x rest ≡ in_runs w f g c l
unfolding in_runs
runs_fold w f g c x l rest runs r s e =
    ap₂ g (e ∙ ap (fold f c) r) s ∙ sym (times_fold (length l / w) w f g c l)

pub first_run : (w n : ℕ) (l : List ℕ) → 0 < n → get_or (first_chunks w n l) 0 [] ≡ take w l
first_run w zero l h = absurd (omega arith)
first_run w (suc n) l h = refl
