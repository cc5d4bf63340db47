-- What stands at an offset, by the cases of `found`, and what each shows of the bytes (`stands`, `halts`); the reading loop's equations, and
-- induction over a walk (`walk_ind`).
use Prim.Native.Nat.{ℕ, zero, suc, ◌+◌, ◌-◌, ◌≤◌, ◌<◌}
use mathlib.Core.Path.{◌≡◌, refl, sym, ap, ◌∙◌, subst}
use mathlib.Core.List.{List}
use mathlib.Core.Bool.{Bool, true, false}
use native.Mathlib.Nat.{not-suc-le-zero}
use native.Mathlib.Omega.{arith}
use lib.Dec.{ltb, leb, eqb}
use lib.ListN.{length, get_or, take, drop, length-take, length-drop}
use lib.Seq.{length-take-le, get_or-take}
use borrow.Author.Tests.{eq-eqb, ne_eqb, le-ltb, lt-ltb, le-leb, lt-leb, leb-true, leb-false, ltb-true, ltb-false, eqb-true, eqb-false}
use Rattle.crc32.specs.Crc32.{crc32_of}
use Rattle.buffers.specs.Bytes.{all_blank}
use Rattle.buffers.proofs.Laws.{all_blank_head, by_test}
use Rattle.bank.specs.declared.partition.Stop.{Stop}
use Rattle.bank.specs.declared.partition.Stop.TheVariants.{Blank, Start, Length, End, Name, Crc}
use Rattle.bank.specs.Number.{u16_at, u32_at}
use Rattle.bank.specs.Record.{Record, record_of, size_of, sizes, name_at, value_at, size_at}
use Rattle.bank.specs.Read.{Item, got, halt, found, Walk, halted, with_first, after, walk_turn, walk, walk_from}

module _ (s : List ℕ) where
  -- the value's sum, as it is compared
  abbrev pub Summed : Type 0
  Summed = u32_at s 32 ≡ crc32_of (take (value_at s) (drop (36 + name_at s) s))

  pub found_blank : all_blank (take 36 s) ≡ true → found s ≡ halt Blank
  unfolding found
  found_blank a = simp a

  pub found_start : all_blank (take 36 s) ≡ false → (u16_at s 0 ≡ 0x55AA → ⊥) → found s ≡ halt Start
  unfolding found
  found_start a b = simp (a, ne_eqb _ _ b)

  module _ (b : u16_at s 0 ≡ 0x55AA) where
    -- a start number's low byte, 0xAA, is neither 0 nor 0xFF
    pub not_blank : all_blank (take 36 s) ≡ false
    unfolding u16_at
    not_blank =
        let g : get_or (take 36 s) 0 0 ≡ get_or s 0 0 = get_or-take 36 s 0 0 (omega arith) in
        all_blank_head (take 36 s) (λ z. omega arith) (λ z. omega arith)

    pub found_length : length s < size_at s → found s ≡ halt Length
    unfolding found
    found_length d = simp (not_blank, eq-eqb _ _ b, lt-leb _ _ d)

    module _ (d : size_at s ≤ length s) where
      pub found_name : name_at s ≡ 0 → found s ≡ halt Name
      unfolding found
      found_name e = simp (not_blank, eq-eqb _ _ b, le-leb _ _ d, eq-eqb _ _ e)

      module _ (e : name_at s ≡ 0 → ⊥) where
        pub found_crc : (Summed → ⊥) → found s ≡ halt Crc
        unfolding found
        found_crc f = simp (not_blank, eq-eqb _ _ b, le-leb _ _ d, ne_eqb _ _ e, ne_eqb _ _ f)

        pub found_got : Summed → found s ≡ got (record_of s)
        unfolding found
        found_got f = simp (not_blank, eq-eqb _ _ b, le-leb _ _ d, ne_eqb _ _ e, eq-eqb _ _ f)

  pub size_of_lem : size_at s ≤ length s → (name_at s ≡ 0 → ⊥) → size_of (record_of s) ≡ size_at s
  unfolding record_of size_of
  size_of_lem d e = simp (length-take, length-drop) (omega arith)

-- a record that is found begins s, whole
pub record Stands (s : List ℕ) (r : Record) : Type 0 where
  pub is : r ≡ record_of s
  pub starts : u16_at s 0 ≡ 0x55AA
  pub ends : size_at s ≤ length s
  pub named : name_at s ≡ 0 → ⊥
  pub summed : Summed s

-- why reading stops at s: the first test that fails, in the loop's order
abbrev pub Halts : List ℕ → Stop → Type 0
Halts s Blank = all_blank (take 36 s) ≡ true
Halts s Start = (all_blank (take 36 s) ≡ false) × (u16_at s 0 ≡ 0x55AA → ⊥)
Halts s Length = (u16_at s 0 ≡ 0x55AA) × (length s < size_at s)
Halts s Name = (u16_at s 0 ≡ 0x55AA) × (size_at s ≤ length s) × (name_at s ≡ 0)
Halts s Crc = (u16_at s 0 ≡ 0x55AA) × (size_at s ≤ length s) × (name_at s ≡ 0 → ⊥) × (Summed s → ⊥)
Halts s End = ⊥

abbrev ItemStands : List ℕ → Item → Type 0
ItemStands s (got r) = Stands s r
ItemStands s (halt c) = Halts s c

found_sound : (s : List ℕ) → ItemStands s (found s)
unfolding found
found_sound s =
    by_test (ItemStands s) (all_blank (take 36 s)) _ _ (λ a. a)
    (λ a. by_test (ItemStands s) (eqb (u16_at s 0) 0x55AA) _ _
    (λ b. by_test (ItemStands s) (leb (size_at s) (length s)) _ _
    (λ d. by_test (ItemStands s) (eqb (name_at s) 0) _ _ (λ e. (eqb-true _ _ b, leb-true _ _ d, eqb-true _ _ e))
    (λ e. by_test (ItemStands s) (eqb (u32_at s 32) (crc32_of (take (value_at s) (drop (36 + name_at s) s)))) _ _
    (λ f. record { is = refl; starts = eqb-true _ _ b; ends = leb-true _ _ d; named = eqb-false _ _ e; summed = eqb-true _ _ f })
    (λ f. (eqb-true _ _ b, leb-true _ _ d, eqb-false _ _ e, eqb-false _ _ f))))
    (λ d. (eqb-true _ _ b, leb-false _ _ d)))
    (λ b. (a, eqb-false _ _ b)))

pub stands : (s : List ℕ) (r : Record) → found s ≡ got r → Stands s r
stands s r e = subst (ItemStands s) e (found_sound s)

pub halts : (s : List ℕ) (c : Stop) → found s ≡ halt c → Halts s c
halts s c e = subst (ItemStands s) e (found_sound s)

pub stands_found : (s : List ℕ) (r : Record) → Stands s r → found s ≡ got r
stands_found s r k = found_got s k.starts k.ends k.named k.summed ∙ ap got (sym k.is)

pub stands_size : (s : List ℕ) (r : Record) → Stands s r → size_of r ≡ size_at s
stands_size s r k = ap size_of k.is ∙ size_of_lem s k.ends k.named

pub stands_name : (s : List ℕ) (r : Record) → Stands s r → 36 + length r.key ≡ 35 + name_at s
unfolding record_of
stands_name s r k =
    let n = k.named in
    let e : length r.key ≡ name_at s - 1 =
    ap (λ (x : Record). length x.key) k.is ∙ length-take-le (name_at s - 1) (drop 36 s) (omega (arith, k.ends, length-drop 36 s)) in
    omega arith

pub size_pos : (r : Record) → 36 < size_of r
unfolding size_of
size_pos r = omega arith

-- the reading loop

after_same : (o : Item) (at : ℕ) (f g : ℕ → Walk) → ((n : ℕ) → at < n → f n ≡ g n) → after o at f ≡ after o at g
unfolding after
after_same (got r) at f g h = ap (with_first r) (h (at + size_of r) (omega (arith, size_pos r)))
after_same (halt c) at f g h = refl

-- once the turns suffice, their number does not matter
walk_more : (f g : ℕ) (s : List ℕ) (size at : ℕ) → size ≤ at + f → size ≤ at + g → walk f s size at ≡ walk g s size at
unfolding walk walk_turn
walk_more zero zero s size at p q = refl
walk_more zero (suc g) s size at p q = simp (le-ltb (at + 36) size (omega arith))
walk_more (suc f) zero s size at p q = simp (le-ltb (at + 36) size (omega arith))
walk_more (suc f) (suc g) s size at p q =
    go (ltb (at + 36) size) (λ n l. walk_more f g s size n (omega arith) (omega arith))
  where
    go : (t : Bool) → ((n : ℕ) → at < n → walk f s size n ≡ walk g s size n)
        → walk_turn t s (λ n. walk f s size n) at ≡ walk_turn t s (λ n. walk g s size n) at
    go true h = after_same _ at _ _ h
    go false h = refl

walk_turn_lem : (s : List ℕ) (size at : ℕ) → 0 < size → walk_from s size at ≡ walk_turn (ltb (at + 36) size) s (walk_from s size) at
unfolding walk_from walk
walk_turn_lem s zero at p = absurd (not-suc-le-zero p)
walk_turn_lem s (suc n) at p = walk_more (suc n) (suc (suc n)) s (suc n) at (omega arith) (omega arith)

pub walk_end : (s : List ℕ) (size at : ℕ) → size ≤ at + 36 → walk_from s size at ≡ halted End at
unfolding walk_from walk walk_turn
walk_end s zero at h = refl
walk_end s (suc n) at h = simp (le-ltb (at + 36) (suc n) h)

pub walk_next : (s : List ℕ) (size at : ℕ) → at + 36 < size → walk_from s size at ≡ after (found (drop at s)) at (walk_from s size)
unfolding walk_turn
walk_next s size at h = rw (walk_turn_lem s size at (omega arith)) (simp (lt-ltb (at + 36) size h))

pub walk_got : (s : List ℕ) (size at : ℕ) (r : Record) → at + 36 < size → found (drop at s) ≡ got r
    → walk_from s size at ≡ with_first r (walk_from s size (at + size_of r))
unfolding after
walk_got s size at r h e = walk_next s size at h ∙ ap (λ (o : Item). after o at (walk_from s size)) e

pub walk_halt : (s : List ℕ) (size at : ℕ) (c : Stop) → at + 36 < size → found (drop at s) ≡ halt c → walk_from s size at ≡ halted c at
unfolding after
walk_halt s size at c h e = walk_next s size at h ∙ ap (λ (o : Item). after o at (walk_from s size)) e

-- a walk, taken apart: P holds of each end, and of a record with the walk behind it
pub walk_ind : (s : List ℕ) (size : ℕ) (P : ℕ → Walk → Type 0) → ((at : ℕ) → size ≤ at + 36 → P at (halted End at))
    → ((at : ℕ) (c : Stop) → at + 36 < size → found (drop at s) ≡ halt c → P at (halted c at))
    → ((at : ℕ) (r : Record) → at + 36 < size → Stands (drop at s) r → P (at + size_of r) (walk_from s size (at + size_of r))
    → P at (with_first r (walk_from s size (at + size_of r))))
    → (at : ℕ) → P at (walk_from s size at)
walk_ind s size P over stop more at = go size at (omega arith)
  where
    there : (n at : ℕ) → size ≤ at + suc n → ((m : ℕ) → size ≤ m + n → P m (walk_from s size m)) → at + 36 < size → (o : Item)
        → found (drop at s) ≡ o
        → P at (walk_from s size at)
    there n at h ih l (halt c) e = rw (walk_halt s size at c l e) (stop at c l e)
    there n at h ih l (got r) e =
        rw (walk_got s size at r l e) (more at r l (stands (drop at s) r e) (ih (at + size_of r) (omega (arith, size_pos r))))

    here : (n at : ℕ) → size ≤ at + suc n → ((m : ℕ) → size ≤ m + n → P m (walk_from s size m)) → (t : Bool) → ltb (at + 36) size ≡ t
        → P at (walk_from s size at)
    here n at h ih true e = there n at h ih (ltb-true (at + 36) size e) (found (drop at s)) refl
    here n at h ih false e =
        let l : size ≤ at + 36 = ltb-false (at + 36) size e in rw (walk_end s size at l) (over at l)

    go : (n at : ℕ) → size ≤ at + n → P at (walk_from s size at)
    go zero at h = let l : size ≤ at + 36 = omega arith in rw (walk_end s size at l) (over at l)
    go (suc n) at h = here n at h (λ m l. go n m l) (ltb (at + 36) size) refl

-- a walk ends behind its records
pub walk_at : (s : List ℕ) (size at : ℕ) → (walk_from s size at).at ≡ at + sizes (walk_from s size at).records
unfolding sizes
walk_at s size =
    walk_ind s size (λ at w. w.at ≡ at + sizes w.records) (λ at l. omega arith) (λ at c l e. omega arith)
    (λ at r l k ih. omega (arith, ih))
