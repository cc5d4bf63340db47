-- Each number of a list is below a bound: of a part, of a list joined, of 0xFF alone.
use Prim.Native.Nat.{ℕ, zero, suc, ◌+◌}
use native.Mathlib.Omega.{arith}
use mathlib.Core.List.{List, [], ◌∷◌, ◌++◌}
use lib.ListN.{take, drop, replicate}
use lib.Seq.{get_or-drop}
use Rattle.buffers.specs.Bytes.{AllBelow}

pub below_take : {m : ℕ} (n : ℕ) (l : List ℕ) → AllBelow m l → AllBelow m (take n l)
below_take zero l k i = omega (arith, k 0)
below_take (suc n) [] k i = k i
below_take (suc n) (x ∷ l) k zero = k 0
below_take (suc n) (x ∷ l) k (suc i) = below_take n l (λ j. k (suc j)) i

pub below_drop : {m : ℕ} (n : ℕ) (l : List ℕ) → AllBelow m l → AllBelow m (drop n l)
below_drop n l k i = rw (get_or-drop n l i 0) (k (n + i))

pub below_append : {m : ℕ} (x y : List ℕ) → AllBelow m x → AllBelow m y → AllBelow m (x ++ y)
below_append [] y h k i = k i
below_append (a ∷ x) y h k zero = h 0
below_append (a ∷ x) y h k (suc i) = below_append x y (λ j. h (suc j)) k i

pub bytes_ff : (n : ℕ) → AllBelow 256 (replicate n 255)
bytes_ff zero i = omega arith
bytes_ff (suc n) zero = omega arith
bytes_ff (suc n) (suc i) = bytes_ff n i
