-- Which bank an opening makes active (01, 'Opening'): a Valid one of a generation over all others' is chosen (`chooses`), and an active bank that is
-- Valid has the greatest generation (`active_most`).
use Prim.Native.Nat.{ℕ, zero, suc, ◌+◌, ◌*◌, ◌≤◌, ◌<◌}
use native.Mathlib.Omega.{arith}
use native.Mathlib.Nat.{zero-mul, suc-mul, add_comm}
use mathlib.Core.Path.{◌≡◌, refl, sym, ap, ◌∙◌}
use mathlib.Core.Logic.{◌≢◌}
use mathlib.Core.Bool.{true}
use mathlib.Core.List.{List, [], ◌∷◌}
use lib.Dec.{ltb}
use lib.ListN.{length, get_or, take, drop}
use lib.Seq.{drop-drop}
use borrow.Author.Tests.{ltb-true, ltb-false, lt-ltb, le-ltb}
use Rattle.buffers.proofs.Laws.{clash, by_test}
use Rattle.bank.specs.Bank.{Bank, Slot, empty, invalid, valid, bank_size}
use Rattle.bank.specs.Read.{read_bank}
use Rattle.book.specs.Opening.{bank_in, read_slots, active_from, any_valid}

pub slot_at : (n : ℕ) (flash : List ℕ) (i : ℕ) → i < n → get_or (read_slots n flash) i invalid ≡ read_bank (bank_in flash i)
unfolding read_slots
slot_at zero flash i h = absurd (omega arith)
slot_at (suc n) flash zero h = ap (λ (k : ℕ). read_bank (take bank_size (drop k flash))) (sym (zero-mul bank_size))
slot_at (suc n) flash (suc i) h =
    slot_at n (drop bank_size flash) i (omega arith)
    ∙ ap (λ (l : List ℕ). read_bank (take bank_size l))
    (drop-drop (i * bank_size) bank_size flash ∙ ap (λ (k : ℕ). drop k flash) (add_comm bank_size (i * bank_size) ∙ sym (suc-mul i bank_size)))

pub empty_not_valid : {k : Bank} → empty ≡ valid k → ⊥
empty_not_valid e = clash cc

invalid_not_valid : {k : Bank} → invalid ≡ valid k → ⊥
invalid_not_valid e = clash cc

pub any_valid_lem : (ss : List Slot) (i : ℕ) (k : Bank) → get_or ss i invalid ≡ valid k → any_valid ss ≡ true
unfolding any_valid
any_valid_lem [] i k e = absurd (invalid_not_valid e)
any_valid_lem (valid k' ∷ ss) i k e = refl
any_valid_lem (empty ∷ ss) zero k e = absurd (empty_not_valid e)
any_valid_lem (empty ∷ ss) (suc i) k e = any_valid_lem ss i k e
any_valid_lem (invalid ∷ ss) zero k e = absurd (invalid_not_valid e)
any_valid_lem (invalid ∷ ss) (suc i) k e = any_valid_lem ss i k e

pub valid_within : (ss : List Slot) (i : ℕ) (k : Bank) → get_or ss i invalid ≡ valid k → i < length ss
valid_within [] i k e = absurd (invalid_not_valid e)
valid_within (s ∷ ss) zero k e = omega arith
valid_within (s ∷ ss) (suc i) k e = omega (arith, valid_within ss i k e)

-- every Valid bank of a list has at most a generation
abbrev pub AtMost : ℕ → List Slot → Type 0
AtMost g ss = (i : ℕ) (k : Bank) → get_or ss i invalid ≡ valid k → k.header.generation ≤ g

none_over : (ss : List Slot) (i best active : ℕ) → AtMost best ss → active_from i best active ss ≡ active
unfolding active_from
none_over [] i best active h = refl
none_over (valid k ∷ ss) i best active h =
    rw (le-ltb best k.header.generation (h 0 k refl)) (none_over ss (suc i) best active (λ j. h (suc j)))
none_over (empty ∷ ss) i best active h = none_over ss (suc i) best active (λ j. h (suc j))
none_over (invalid ∷ ss) i best active h = none_over ss (suc i) best active (λ j. h (suc j))

-- a Valid bank with a generation over the best so far and over all others is chosen
pub chooses : (ss : List Slot) (a i best active : ℕ) (k : Bank) → get_or ss a invalid ≡ valid k → best < k.header.generation
    → ((j : ℕ) → j ≢ a → (k' : Bank) → get_or ss j invalid ≡ valid k' → k'.header.generation < k.header.generation)
    → active_from i best active ss ≡ i + a
unfolding active_from
chooses [] a i best active k e b h = absurd (invalid_not_valid e)
chooses (valid k' ∷ ss) zero i best active k e b h =
    let g : k'.header.generation ≡ k.header.generation = cc in
    let under : AtMost k'.header.generation ss = λ j k'' e''. omega (arith, g, h (suc j) (omega arith) k'' e'') in
    let rest : active_from (suc i) k'.header.generation i ss ≡ i = none_over ss (suc i) k'.header.generation i under in
    rw (lt-ltb best k'.header.generation (omega arith)) (omega arith)
chooses (empty ∷ ss) zero i best active k e b h = absurd (empty_not_valid e)
chooses (invalid ∷ ss) zero i best active k e b h = absurd (invalid_not_valid e)
chooses (valid k' ∷ ss) (suc a) i best active k e b h =
    by_test (λ (x : ℕ). x ≡ i + suc a) (ltb best k'.header.generation) _ _
    (λ _. chooses ss a (suc i) k'.header.generation i k e (h 0 (omega arith) k' refl) (λ j ne. h (suc j) (omega arith)) ∙ omega arith)
    (λ _. chooses ss a (suc i) best active k e b (λ j ne. h (suc j) (omega arith)) ∙ omega arith)
chooses (empty ∷ ss) (suc a) i best active k e b h = chooses ss a (suc i) best active k e b (λ j ne. h (suc j) (omega arith)) ∙ omega arith
chooses (invalid ∷ ss) (suc a) i best active k e b h = chooses ss a (suc i) best active k e b (λ j ne. h (suc j) (omega arith)) ∙ omega arith

-- what is chosen: the one before, or a bank of the list with the greatest generation
data Choice (ss : List Slot) (i best active a : ℕ) : Type 0 where
  older : a ≡ active → AtMost best ss → Choice ss i best active a
  newer : (j : ℕ) (k : Bank) → a ≡ i + j → get_or ss j invalid ≡ valid k → best < k.header.generation → AtMost k.header.generation ss
      → Choice ss i best active a

at_most : (s : Slot) (ss : List Slot) (g : ℕ) → ((k : Bank) → s ≡ valid k → k.header.generation ≤ g) → AtMost g ss → AtMost g (s ∷ ss)
at_most s ss g h t zero k e = h k e
at_most s ss g h t (suc j) k e = t j k e

-- past a slot that does not take over
passes : (s : Slot) (ss : List Slot) (i best active a : ℕ) → ((k : Bank) → s ≡ valid k → k.header.generation ≤ best)
    → Choice ss (suc i) best active a
    → Choice (s ∷ ss) i best active a
passes s ss i best active a h (older e m) = older e (at_most s ss best h m)
passes s ss i best active a h (newer j k e at b m) =
    newer (suc j) k (omega arith) at b (at_most s ss k.header.generation (λ k' e'. omega (arith, h k' e')) m)

same_generation : {k k' : Bank} → valid k ≡ valid k' → k'.header.generation ≡ k.header.generation
same_generation e = cc

-- past one that does
takes : (k : Bank) (ss : List Slot) (i best active a : ℕ) → best < k.header.generation → Choice ss (suc i) k.header.generation i a
    → Choice (valid k ∷ ss) i best active a
takes k ss i best active a h (older e m) =
    newer 0 k (omega arith) refl h (at_most (valid k) ss k.header.generation (λ k' e'. omega (arith, same_generation e')) m)
takes k ss i best active a h (newer j k' e at b m) =
    newer (suc j) k' (omega arith) at (omega arith)
    (at_most (valid k) ss k'.header.generation (λ k'' e''. omega (arith, same_generation e'')) m)

choice : (ss : List Slot) (i best active : ℕ) → Choice ss i best active (active_from i best active ss)
unfolding active_from
choice [] i best active = older refl (λ j k e. absurd (invalid_not_valid e))
choice (valid k ∷ ss) i best active =
    by_test (Choice (valid k ∷ ss) i best active) (ltb best k.header.generation) _ _
    (λ t. takes k ss i best active _ (ltb-true best k.header.generation t) (choice ss (suc i) k.header.generation i))
    (λ t. passes (valid k) ss i best active _ (λ k' e'. omega (arith, same_generation e', ltb-false best k.header.generation t)) (choice ss (suc i) best active))
choice (empty ∷ ss) i best active = passes empty ss i best active _ (λ k e. absurd (empty_not_valid e)) (choice ss (suc i) best active)
choice (invalid ∷ ss) i best active = passes invalid ss i best active _ (λ k e. absurd (invalid_not_valid e)) (choice ss (suc i) best active)

-- an active bank that is Valid has the greatest generation
pub active_most : (ss : List Slot) (k : Bank) → get_or ss (active_from 0 0 0 ss) invalid ≡ valid k → AtMost k.header.generation ss
active_most ss k e = go (choice ss 0 0 0)
  where
    go : Choice ss 0 0 0 (active_from 0 0 0 ss) → AtMost k.header.generation ss
    go (older q m) = λ j k' e'. omega (arith, m j k' e')
    go (newer j k'' q at b m) =
        let r : active_from 0 0 0 ss ≡ j = omega arith in
        let same : valid k'' ≡ valid k = sym at ∙ ap (λ (x : ℕ). get_or ss x invalid) (sym r) ∙ e in
        λ i k' e'. omega (arith, m i k' e', same_generation same)
