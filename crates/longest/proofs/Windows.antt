-- Windows: their largest length and its first index, how many are full, and the one that is next.
use Prim.Native.Nat.{ℕ, suc, ◌+◌, ◌-◌, ◌*◌, ◌≤◌, ◌<◌}
use mathlib.Core.Path.{◌≡◌, refl}
use mathlib.Core.List.{List, [], ◌∷◌, ◌++◌}
use native.Mathlib.Omega.{arith}
use lib.Dec.{ltb}
use lib.ListN.{length, length-append}
use lib.Seq.{take_at}
use borrow.Author.Tests.{lt-ltb, le-ltb, ltb-true, ltb-false}
use Rattle.buffers.proofs.Laws.{by_test}
use Rattle.longest.specs.Longest.{longest, windows}

-- no window is full
pub windows_none : (window first : ℕ) (xs : List ℕ) → length xs < window → windows window first xs ≡ []
unfolding windows
windows_none window first [] h = refl
windows_none window first (x ∷ xs) h = simp (lt-ltb _ _ h)

-- one that just is, with those behind it
pub windows_next : (window first x : ℕ) (xs ys : List ℕ) → suc (length xs) ≡ window
    → windows window first ((x ∷ xs) ++ ys) ≡ longest first (x ∷ xs) ++ windows window (first + 1) (xs ++ ys)
unfolding windows
windows_next window first x xs ys e =
    let h : window ≤ suc (length (xs ++ ys)) = omega (arith, length-append xs ys) in
    simp (le-ltb _ _ h) (rw (take_at (x ∷ xs) ys window e) refl)

-- two numbers for each
pub length_windows : (window first : ℕ) (xs : List ℕ) → 1 ≤ window → length (windows window first xs) ≡ 2 * (length xs + 1 - window)
unfolding windows longest
length_windows window first [] h = omega arith
length_windows window first (x ∷ xs) h =
    let e = length_windows window (first + 1) xs h in
    by_test (λ (ys : List ℕ). length ys ≡ 2 * (suc (length xs) + 1 - window)) (ltb (suc (length xs)) window) _ _
    (λ t. let l : suc (length xs) < window = ltb-true _ _ t in omega arith)
    (λ t. let l : window ≤ suc (length xs) = ltb-false _ _ t in omega (arith, e))
