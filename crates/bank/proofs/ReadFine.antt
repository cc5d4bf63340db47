-- The records that a walk finds are well-formed, and stand in the bytes one after the other: `walk_fine`, by `walk_ind`.
use Prim.Native.Nat.{ℕ, zero, suc, ◌+◌, ◌-◌, ◌≤◌, ◌<◌}
use mathlib.Core.Path.{◌≡◌, refl, sym, ap, ◌∙◌, subst}
use mathlib.Core.List.{List, [], ◌∷◌, ◌++◌}
use native.Mathlib.Nat.{sub_self, zero-add, suc-add}
use native.Mathlib.Omega.{arith}
use lib.ListN.{length, get_or, take, drop, length-drop}
use lib.Seq.{length-take-le, take-nil, take-take, drop-drop, get_or-take}
use Rattle.crc32.specs.Crc32.{crc32_of, Bytes}
use Rattle.buffers.proofs.BelowLaws.{below_take, below_drop}
use Rattle.bank.specs.declared.partition.Stop.{Stop}
use Rattle.bank.specs.declared.partition.Stop.TheVariants.{End}
use Rattle.bank.specs.Number.{u16_at, u32_at}
use Rattle.bank.specs.Record.{Record, record_of, size_of, name_at, value_at, size_at}
use Rattle.bank.specs.Read.{Walk, halted, with_first, walk_from}
use Rattle.bank.specs.Raw.{Whole, Raw, none, one}
use Rattle.bank.specs.WellFormed.{FineRecord, FineRecords}
use Rattle.bank.proofs.NumberLaws.{u32_lt}
use Rattle.bank.proofs.WalkLaws.{Stands, stands_size, walk_ind}

fine_fields : (s : List ℕ) → Bytes s → size_at s ≤ length s → (name_at s ≡ 0 → ⊥) → FineRecord (record_of s)
unfolding record_of
fine_fields s k e n =
    let lk : length (take (name_at s - 1) (drop 36 s)) ≡ name_at s - 1 =
    length-take-le (name_at s - 1) (drop 36 s) (omega (arith, length-drop 36 s)) in
    let lv : length (take (value_at s) (drop (36 + name_at s) s)) ≡ value_at s =
    length-take-le (value_at s) (drop (36 + name_at s) s) (omega (arith, length-drop (36 + name_at s) s)) in
    record {
      state_fits = k 2;
      attributes_fit = u32_lt s 4 k;
      guid_long = length-take-le 16 (drop 16 s) (omega (arith, length-drop 16 s));
      guid_bytes = below_take 16 (drop 16 s) (below_drop 16 s k);
      key_fits = omega (arith, u32_lt s 8 k, lk, n);
      key_bytes = below_take (name_at s - 1) (drop 36 s) (below_drop 36 s k);
      value_fits = omega (arith, u32_lt s 12 k, lv);
      value_bytes = below_take (value_at s) (drop (36 + name_at s) s) (below_drop (36 + name_at s) s k);
    }

pub fine_record : (s : List ℕ) (r : Record) → Bytes s → Stands s r → FineRecord r
fine_record s r k h = subst FineRecord (sym h.is) (fine_fields s k h.ends h.named)

pub take-add : (n m : ℕ) (l : List ℕ) → take (n + m) l ≡ take n l ++ take m (drop n l)
take-add zero m l = ap (λ (i : ℕ). take i l) (zero-add m)
take-add (suc n) m [] = ap (λ (i : ℕ). take i []) (suc-add n m) ∙ sym (take-nil m)
take-add (suc n) m (x ∷ l) = ap (λ (i : ℕ). take i (x ∷ l)) (suc-add n m) ∙ ap (λ (y : List ℕ). x ∷ y) (take-add n m l)

-- what is known of a walk that began within the bytes
pub record FineWalk (s : List ℕ) (size at : ℕ) (w : Walk) : Type 0 where
  pub fine : FineRecords w.records
  pub low : at ≤ w.at
  pub high : w.at ≤ length s
  pub raw : Raw (take (w.at - at) (drop at s)) w.records
  pub inside : (w.stop ≡ End → ⊥) → w.at + 36 < size

no_bytes : (s : List ℕ) (at : ℕ) → take (at - at) (drop at s) ≡ []
no_bytes s at = rw (sub_self at)

halted_fine : (s : List ℕ) (size at : ℕ) (c : Stop) → at ≤ length s → ((c ≡ End → ⊥) → at + 36 < size) → FineWalk s size at (halted c at)
halted_fine s size at c h f =
    record {
      fine = tt;
      low = omega arith;
      high = h;
      raw = subst (λ (l : List ℕ). Raw l []) (sym (no_bytes s at)) none;
      inside = f;
    }

pub part_take : (a k n : ℕ) (s : List ℕ) → a + k ≤ n → take k (drop a (take n s)) ≡ take k (drop a s)
part_take zero k n s h = take-take k n s (omega arith)
part_take (suc a) k zero s h = absurd (omega arith)
part_take (suc a) k (suc n) [] h = refl
part_take (suc a) k (suc n) (x ∷ s) h = part_take a k n s (omega arith)

u32_take : (s : List ℕ) (n i : ℕ) → i + 4 ≤ n → u32_at (take n s) i ≡ u32_at s i
unfolding u32_at
u32_take s n i h =
    simp
    (get_or-take n s i 0 (omega arith), get_or-take n s (i + 1) 0 (omega arith), get_or-take n s (i + 2) 0 (omega arith), get_or-take n s (i + 3) 0 (omega arith))

u16_take : (s : List ℕ) (n : ℕ) → 2 ≤ n → u16_at (take n s) 0 ≡ u16_at s 0
unfolding u16_at
u16_take s n h = simp (get_or-take n s 0 0 (omega arith), get_or-take n s 1 0 (omega arith))

-- the front of s that a record takes reads as s does
module _ (s : List ℕ) (n : ℕ) (is : n ≡ size_at s) where
  abbrev front : List ℕ
  front = take n s

  pub front_name : name_at front ≡ name_at s
  front_name = u32_take s n 8 (omega arith)

  front_value : value_at front ≡ value_at s
  front_value = u32_take s n 12 (omega arith)

  front_bytes : take (value_at front) (drop (36 + name_at front) front) ≡ take (value_at s) (drop (36 + name_at s) s)
  front_bytes = rw (front_name, front_value) (part_take (36 + name_at s) (value_at s) n s (omega arith))

  pub front_record : (name_at s ≡ 0 → ⊥) → record_of front ≡ record_of s
  unfolding record_of
  front_record d =
      let st : get_or front 2 0 ≡ get_or s 2 0 = get_or-take n s 2 0 (omega arith) in
      let at : u32_at front 4 ≡ u32_at s 4 = u32_take s n 4 (omega arith) in
      let gu : take 16 (drop 16 front) ≡ take 16 (drop 16 s) = part_take 16 16 n s (omega arith) in
      let ke : take (name_at front - 1) (drop 36 front) ≡ take (name_at s - 1) (drop 36 s) =
      rw front_name (part_take 36 (name_at s - 1) n s (omega arith)) in
      λ i. record { state = st i; attributes = at i; guid = gu i; key = ke i; value = front_bytes i }

  pub front_whole : (r : Record) → Bytes s → Stands s r → Whole front
  unfolding record_of
  front_whole r k h =
      let e = h.ends in
      let d = h.named in
      record {
        bytes = below_take n s k;
        starts = u16_take s n (omega arith) ∙ h.starts;
        long = length-take-le n s (omega arith) ∙ omega (arith, front_name, front_value);
        named = omega (arith, front_name);
        summed = u32_take s n 32 (omega arith) ∙ h.summed ∙ ap crc32_of (sym front_bytes);
      }

pub walk_fine : (s : List ℕ) (size : ℕ) → Bytes s → (at : ℕ) → at ≤ length s → FineWalk s size at (walk_from s size at)
walk_fine s size k =
    walk_ind s size (λ at w. at ≤ length s → FineWalk s size at w)
    (λ at l h. halted_fine s size at End h (λ f. absurd (f refl)))
    (λ at c l e h. halted_fine s size at c h (λ _. l))
    (λ at r l st ih h. more at r l st ih h)
  where
    more : (at : ℕ) (r : Record) → at + 36 < size → Stands (drop at s) r
        → (at + size_of r ≤ length s → FineWalk s size (at + size_of r) (walk_from s size (at + size_of r)))
        → at ≤ length s
        → FineWalk s size at (with_first r (walk_from s size (at + size_of r)))
    more at r l st ih h =
        let n = size_of r in
        let x = drop at s in
        let w = walk_from s size (at + n) in
        let sz : n ≡ size_at x = stands_size x r st in
        let le : at + n ≤ length s = omega (arith, st.ends, length-drop at s) in
        let f = ih le in
        let fl = f.low in
        let m : w.at - at ≡ n + (w.at - (at + n)) = omega arith in
        let d : take (w.at - at) x ≡ take n x ++ take (w.at - (at + n)) (drop (at + n) s) =
        ap (λ (i : ℕ). take i x) m ∙ take-add n (w.at - (at + n)) x ∙ ap (λ (y : List ℕ). take n x ++ take (w.at - (at + n)) y) (drop-drop n at s) in
        record {
          fine = (fine_record x r (below_drop at s k) st, f.fine);
          low = omega arith;
          high = f.high;
          raw =
              subst (λ (y : List ℕ). Raw y (r ∷ w.records)) (sym d)
              (subst (λ (q : Record). Raw (take n x ++ take (w.at - (at + n)) (drop (at + n) s)) (q ∷ w.records)) (front_record x n sz st.named ∙ sym st.is)
              (one (front_whole x n sz r (below_drop at s k) st) f.raw));
          inside = f.inside;
        }
