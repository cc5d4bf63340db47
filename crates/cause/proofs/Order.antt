-- The causes in their order: none below a rank holds, rank by rank (`one_past`); and one cause at most is Named (`only`), since no record begins
-- behind one in which a cause holds (`no_later`).
use Prim.Native.Nat.{ℕ, zero, suc, ◌+◌, ◌<◌}
use mathlib.Core.Path.{◌≡◌, refl, sym, ap, ◌∙◌, subst}
use mathlib.Core.List.{List, [], ◌∷◌}
use mathlib.Core.Bool.{Bool, true, false}
use native.Mathlib.Omega.{arith}
use lib.Dec.{ltb}
use lib.ListN.{drop}
use borrow.Author.Tests.{ltb-true, ltb-false}
use Rattle.bank.specs.Record.{size_at}
use Rattle.cause.specs.declared.Cause.{Cause}
use Rattle.cause.specs.declared.Cause.TheVariants.{Short, Empty, Signature, Version, Size, Name, Crc, Blank, Start, Length, End}
use Rattle.cause.specs.Cause.{spot}
use Rattle.cause.specs.Named.{rank, HoldsAt, Begins, behind_header, behind_record, Named}

abbrev pub pick : List Cause → ℕ → Cause
pick [] n = Short
pick (c ∷ cs) zero = c
pick (c ∷ cs) (suc n) = pick cs n

pub rank_low : (c : Cause) → rank c < 11
rank_low Short = omega arith
rank_low Empty = omega arith
rank_low Signature = omega arith
rank_low Version = omega arith
rank_low Size = omega arith
rank_low End = omega arith
rank_low Blank = omega arith
rank_low Start = omega arith
rank_low Length = omega arith
rank_low (Name p) = omega arith
rank_low (Crc p) = omega arith

module _ (s : List ℕ) (index at : ℕ) where
  -- by rank, as they would be named here
  abbrev pub ranked : ℕ → Cause
  ranked =
      pick
      (Short ∷ Empty ∷ Signature ∷ Version ∷ Size ∷ End ∷ Blank ∷ Start ∷ Length ∷ Name (spot (at + 8) index) ∷ Crc (spot (at + 32) index) ∷ [])

  by_rank : (c : Cause) → HoldsAt s index at c → ranked (rank c) ≡ c
  by_rank Short h = refl
  by_rank Empty h = refl
  by_rank Signature h = refl
  by_rank Version h = refl
  by_rank Size h = refl
  by_rank End h = refl
  by_rank Blank h = refl
  by_rank Start h = refl
  by_rank Length h = refl
  by_rank (Name p) h = ap Name (sym h.1)
  by_rank (Crc p) h = ap Crc (sym h.1)

  abbrev pub NoneBelow : ℕ → Type 0
  NoneBelow n = (c : Cause) → rank c < n → HoldsAt s index at c → ⊥

  pub none_yet : NoneBelow 0
  none_yet c l h = absurd (omega arith)

  pub one_past : (n : ℕ) → NoneBelow n → (HoldsAt s index at (ranked n) → ⊥) → NoneBelow (suc n)
  one_past n f g c l h = go (ltb (rank c) n) refl
    where
      go : (t : Bool) → ltb (rank c) n ≡ t → ⊥
      go true e = f c (ltb-true (rank c) n e) h
      go false e =
          let m : rank c ≡ n = omega (arith, ltb-false (rank c) n e) in
          g (subst (λ (x : Cause). HoldsAt s index at x) (sym (by_rank c h) ∙ ap ranked m) h)

  pub none_at_all : NoneBelow 11 → (c : Cause) → HoldsAt s index at c → ⊥
  none_at_all f c h = f c (rank_low c) h

pub by_order : {A : Type 0} (i j : ℕ) → (i < j → A) → (j < i → A) → (i ≡ j → A) → A
by_order {A} i j f g h = go (ltb i j) (ltb j i) refl refl
  where
    go : (t u : Bool) → ltb i j ≡ t → ltb j i ≡ u → A
    go true u p q = f (ltb-true i j p)
    go false true p q = g (ltb-true j i q)
    go false false p q = h (omega (arith, ltb-false i j p, ltb-false j i q))

-- an index has one offset
same_start : {s : List ℕ} {i j at bt : ℕ} → Begins s i at → Begins s j bt → i ≡ j → at ≡ bt
same_start behind_header behind_header e = refl
same_start behind_header (behind_record b g) e = absurd (omega arith)
same_start (behind_record a f) behind_header e = absurd (omega arith)
same_start {s} (behind_record a f) (behind_record b g) e = ap (λ (x : ℕ). x + size_at (drop x s)) (same_start a b (omega arith))

no_later : {s : List ℕ} {i j at bt : ℕ} → Begins s i at → Begins s j bt → i < j → (c : Cause) → HoldsAt s i at c → ⊥
no_later a behind_header l c h = absurd (omega arith)
no_later {s} {i} {at = at} a (behind_record {index} b g) l c h =
    by_order i index (λ m. no_later a b m c h) (λ m. absurd (omega arith))
    (λ e. g c (subst (λ (x : ℕ). HoldsAt s index x c) (same_start a b e) (subst (λ (x : ℕ). HoldsAt s x at c) e h)))

module _ {s : List ℕ} {c d : Cause} (m : Named s c) (n : Named s d) where
  same_index : m.index ≡ n.index
  same_index =
      by_order m.index n.index (λ l. absurd (no_later m.begins n.begins l c m.holds))
      (λ l. absurd (no_later n.begins m.begins l d n.holds)) (λ e. e)

  -- d at the place where c is named
  there : HoldsAt s m.index m.at d
  there =
      subst (λ (x : ℕ). HoldsAt s x m.at d) (sym same_index)
      (subst (λ (x : ℕ). HoldsAt s n.index x d) (sym (same_start m.begins n.begins same_index)) n.holds)

  back : HoldsAt s n.index n.at c
  back =
      subst (λ (x : ℕ). HoldsAt s x n.at c) same_index
      (subst (λ (x : ℕ). HoldsAt s m.index x c) (same_start m.begins n.begins same_index) m.holds)

  pub only : c ≡ d
  only =
      by_order (rank c) (rank d) (λ l. absurd (n.earliest c l back)) (λ l. absurd (m.earliest d l there))
      (λ e. sym (by_rank s m.index m.at c m.holds) ∙ ap (ranked s m.index m.at) e ∙ by_rank s m.index m.at d there)
