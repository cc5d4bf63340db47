-- A key's field as the code tests for it: `-` where the key is empty, else its digits.
use Prim.Native.Nat.{ℕ}
use mathlib.Core.Path.{◌≡◌, refl}
use mathlib.Core.List.{List, [], ◌∷◌}
use native.Mathlib.Omega.{arith}
use lib.ListN.{length}
use Rattle.text.specs.Text.{hex}
use Rattle.banklist.specs.Listing.{key_word}

-- a key's field, as the code tests for it
pub key_none : (k : List ℕ) → length k ≡ 0 → key_word k ≡ 0x2D ∷ []
unfolding key_word
key_none [] e = refl
key_none (b ∷ k) e = absurd (omega arith)

pub key_some : (k : List ℕ) → (length k ≡ 0 → ⊥) → key_word k ≡ hex k
unfolding key_word
key_some [] e = absurd (e refl)
key_some (b ∷ k) e = refl
