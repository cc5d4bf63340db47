-- The slots read off an image: how many they are (`slots_long`), and the first of those from bank i on (`slots_here`, to be read: nothing cites
-- it).
use Prim.Native.Nat.{ℕ, zero, suc, ◌+◌, ◌-◌, ◌*◌, ◌<◌}
use mathlib.Core.Path.{◌≡◌, refl, ap, ◌∙◌}
use mathlib.Core.List.{List, ◌∷◌}
use native.Mathlib.Omega.{arith}
use lib.ListN.{length, drop}
use lib.Seq.{drop-drop}
use Rattle.bank.specs.Bank.{bank_size}
use Rattle.book.specs.Opening.{slot_in, read_slots}

pub slots_here : (image : List ℕ) (n i : ℕ) → i < n
    → read_slots (n - i) (drop (i * bank_size) image) ≡ slot_in image i ∷ read_slots (n - (i + 1)) (drop ((i + 1) * bank_size) image)
unfolding read_slots
slots_here image n i h =
    let m : n - i ≡ suc (n - (i + 1)) = omega arith in
    let k : i * bank_size + bank_size ≡ (i + 1) * bank_size = omega arith in
    rw m
    (ap (λ (l : List ℕ). slot_in image i ∷ read_slots (n - (i + 1)) l)
    (drop-drop bank_size (i * bank_size) image ∙ ap (λ (k : ℕ). drop k image) k))

pub slots_long : (n : ℕ) (image : List ℕ) → length (read_slots n image) ≡ n
unfolding read_slots
slots_long zero image = refl
slots_long (suc n) image = ap suc (slots_long n (drop bank_size image))
