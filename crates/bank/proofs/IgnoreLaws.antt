-- What reading ignores: the header's reserved byte, a record's reserved and closing bytes, and what comes after the size and the records. Other bytes
-- that agree elsewhere are walked alike (`walk_same`), and so read as the same bank (`bank_same`): `settings` goes by that.
use Prim.Native.Nat.{ℕ, ◌+◌, ◌-◌, ◌≤◌, ◌<◌}
use mathlib.Core.Path.{◌≡◌, refl, sym, ap, ◌∙◌, subst}
use mathlib.Core.List.{List, [], ◌∷◌}
use mathlib.Core.Logic.{◌⊎◌, inl, inr}
use mathlib.Core.Bool.{Bool, true, false, cond}
use native.Mathlib.Omega.{arith}
use lib.Dec.{leb, eqb}
use lib.ListN.{length, get_or, set, take, drop, length-take, length-drop, length-set}
use lib.Seq.{ext_get_or, get_or-take, get_or-drop, get_or-set_other}
use Rattle.crc32.specs.Crc32.{crc32_of}
use Rattle.buffers.specs.Bytes.{all_blank, count_ff}
use Rattle.buffers.proofs.Laws.{clash}
use Rattle.bank.specs.declared.header.StoreHeader.{StoreHeader}
use Rattle.std.specs.Prelude.{Ok}
use Rattle.bank.specs.declared.partition.Stop.{Stop}
use Rattle.bank.specs.declared.partition.Stop.TheVariants.{Blank, Start, Length, End, Name, Crc}
use Rattle.bank.specs.Number.{u16_at, u32_at}
use Rattle.bank.specs.Header.{signed, header_of, read_header}
use Rattle.bank.specs.Record.{Record, record_of, size_of, name_at, value_at, size_at}
use Rattle.bank.specs.Bank.{Bank, invalid, valid, bank_of}
use Rattle.bank.specs.Read.{Item, got, halt, found, Walk, with_first, walk_from, usable_at, spoils, slot_of, after_head, read_bank}
use Rattle.bank.specs.Totals.{total}
use Rattle.bank.proofs.WalkLaws.{not_blank, Stands, stands_found, stands_size, stands_name, walk_end, walk_got, walk_halt, walk_ind, walk_at}
use Rattle.bank.proofs.ReadBank.{came, came_total}

-- what is read of s and of t is the same where their bytes are
module _ (s t : List ℕ) where
  -- the same bytes from a place up to another
  abbrev pub Alike : ℕ → ℕ → Type 0
  Alike from to = (i : ℕ) → from ≤ i → i < to → get_or t i 0 ≡ get_or s i 0

  module _ (from to : ℕ) (f : Alike from to) where
    pub u32_same : (j : ℕ) → from ≤ j → j + 4 ≤ to → u32_at t j ≡ u32_at s j
    unfolding u32_at
    u32_same j a b =
        simp
        (f j (omega arith) (omega arith), f (j + 1) (omega arith) (omega arith), f (j + 2) (omega arith) (omega arith), f (j + 3) (omega arith) (omega arith))

    pub part_same : length t ≡ length s → (j n : ℕ) → from ≤ j → j + n ≤ to → take n (drop j t) ≡ take n (drop j s)
    part_same long j n a b =
        ext_get_or 0 (take n (drop j t)) (take n (drop j s)) (simp (length-take, length-drop, long))
        (λ i h. let m : i < n = omega (arith, length-take n (drop j t)) in
        rw (get_or-take n (drop j t) i 0 m, get_or-take n (drop j s) i 0 m, get_or-drop j t i 0, get_or-drop j s i 0) (f (j + i) (omega arith) (omega arith)))

-- the header of a bank, but for its reserved byte
header_same : (s t : List ℕ) → length t ≡ length s → ((i : ℕ) → i < 24 → (i ≡ 15 → ⊥) → get_or t i 0 ≡ get_or s i 0)
    → read_header t ≡ read_header s
unfolding read_header signed header_of
header_same s t long f =
    let a : Alike s t 0 15 = λ i _ h. f i (omega arith) (λ z. omega arith) in
    let b : Alike s t 16 24 = λ i g h. f i h (λ z. omega arith) in
    let start : take 4 t ≡ take 4 s = part_same s t 0 15 a long 0 4 (omega arith) (omega arith) in
    let size = u32_same s t 0 15 a 4 (omega arith) (omega arith) in
    let generation = u32_same s t 0 15 a 8 (omega arith) (omega arith) in
    let system = u32_same s t 16 24 b 16 (omega arith) (omega arith) in
    let common = u32_same s t 16 24 b 20 (omega arith) (omega arith) in
    let state = a 12 (omega arith) (omega arith) in
    let flags = a 13 (omega arith) (omega arith) in
    let version = a 14 (omega arith) (omega arith) in
    simp (long, start, size, generation, state, flags, version, system, common)

-- 01, 'Reserved and closing bytes are ignored on reading': the header's reserved byte
pub header_reserved : (s : List ℕ) (x : ℕ) (h : StoreHeader) → read_header s ≡ Ok h → read_header (set s 15 x) ≡ Ok h
header_reserved s x h e = header_same s (set s 15 x) (length-set s 15 x) (λ i _ n. get_or-set_other s 15 i x 0 n) ∙ e

-- a record's 36 bytes, but for the reserved one
module _ (s t : List ℕ) (long : length t ≡ length s) (head : (i : ℕ) → i < 36 → (i ≡ 3 → ⊥) → get_or t i 0 ≡ get_or s i 0) where
  start_same : u16_at t 0 ≡ u16_at s 0
  unfolding u16_at
  start_same = simp (head 0 (omega arith) (λ z. omega arith), head 1 (omega arith) (λ z. omega arith))

  fields : Alike s t 4 36
  fields i g h = head i h (λ z. omega arith)

  name_same : name_at t ≡ name_at s
  name_same = u32_same s t 4 36 fields 8 (omega arith) (omega arith)

  length_same : value_at t ≡ value_at s
  length_same = u32_same s t 4 36 fields 12 (omega arith) (omega arith)

  -- and what follows them, but for the closing byte, as far as the record goes
  module _ (starts : u16_at s 0 ≡ 0x55AA)
      (tail : (i : ℕ) → 36 ≤ i → i < size_at s → (i ≡ 35 + name_at s → ⊥) → get_or t i 0 ≡ get_or s i 0) where
    value_same : take (value_at s) (drop (36 + name_at s) t) ≡ take (value_at s) (drop (36 + name_at s) s)
    value_same =
        part_same s t (36 + name_at s) (size_at s) (λ i g h. tail i (omega arith) h (λ z. omega arith)) long (36 + name_at s) (value_at s)
        (omega arith) (omega arith)

    key_same : take (name_at s - 1) (drop 36 t) ≡ take (name_at s - 1) (drop 36 s)
    key_same =
        part_same s t 36 (36 + (name_at s - 1)) (λ i g h. tail i g (omega arith) (λ z. omega arith)) long 36 (name_at s - 1)
        (omega arith) (omega arith)

    record_same : record_of t ≡ record_of s
    unfolding record_of
    record_same =
        let guid : take 16 (drop 16 t) ≡ take 16 (drop 16 s) = part_same s t 4 36 fields long 16 16 (omega arith) (omega arith) in
        simp
        (head 2 (omega arith) (λ z. omega arith), u32_same s t 4 36 fields 4 (omega arith) (omega arith), name_same, length_same, guid, key_same, value_same)

    pub found_same : found t ≡ found s
    unfolding found
    found_same =
        let sum = u32_same s t 4 36 fields 32 (omega arith) (omega arith) in
        simp
        (long, not_blank s starts, not_blank t (start_same ∙ starts), start_same, name_same, length_same, sum, value_same, record_same)

  -- a stop that leaves the bank Valid is by these bytes alone
  halt_same : take 36 t ≡ take 36 s → (c : Stop) → found s ≡ halt c → spoils c ≡ false → found t ≡ halt c
  unfolding found
  halt_same front c e z =
      simp (long, front, start_same, name_same, length_same)
      (by_tests (all_blank (take 36 s)) (eqb (u16_at s 0) 0x55AA) (leb (size_at s) (length s)) (eqb (name_at s) 0)
      (eqb (u32_at s 32) (crc32_of (take (value_at s) (drop (36 + name_at s) s)))) (record_of s) _ c e z)
    where
      by_tests : (a b c d e : Bool) (r : Record) (o : Item) (k : Stop)
          → cond a (halt Blank) (cond b (cond c (cond d (halt Name) (cond e (got r) (halt Crc))) (halt Length)) (halt Start)) ≡ halt k
          → spoils k ≡ false
          → cond a (halt Blank) (cond b (cond c (cond d (halt Name) o) (halt Length)) (halt Start)) ≡ halt k
      by_tests true b c d e r o k p z = p
      by_tests false false c d e r o k p z = p
      by_tests false true false d e r o k p z = p
      by_tests false true true true e r o k p z = let y : ◌≡◌ {A = ℕ} 0 1 = cc in absurd (omega arith)
      by_tests false true true false true r o k p z = let y : ◌≡◌ {A = ℕ} 0 1 = cc in absurd (omega arith)
      by_tests false true true false false r o k p z = let y : ◌≡◌ {A = ℕ} 0 1 = cc in absurd (omega arith)

-- 01, 'Reserved and closing bytes are ignored on reading': a record's reserved byte
pub record_reserved : (s : List ℕ) (x : ℕ) → u16_at s 0 ≡ 0x55AA → found (set s 3 x) ≡ found s
record_reserved s x e =
    found_same s (set s 3 x) (length-set s 3 x) (λ i _ n. get_or-set_other s 3 i x 0 n) e
    (λ i l _ _. get_or-set_other s 3 i x 0 (λ z. omega arith))

-- 01, 'Reserved and closing bytes are ignored on reading': the closing byte of a record's name
pub record_closing : (s : List ℕ) (x : ℕ) → u16_at s 0 ≡ 0x55AA → (name_at s ≡ 0 → ⊥) → found (set s (35 + name_at s) x) ≡ found s
record_closing s x e named =
    let at = 35 + name_at s in
    found_same s (set s at x) (length-set s at x) (λ i l _. get_or-set_other s at i x 0 (λ z. omega arith)) e
    (λ i _ _ n. get_or-set_other s at i x 0 n)

-- the places of the reserved and closing bytes of records that stand from an offset on
abbrev pub Ignored : ℕ → List Record → ℕ → Type 0
Ignored at [] i = ⊥
Ignored at (r ∷ rs) i = (i ≡ at + 3) ⊎ ((i ≡ at + 36 + length r.key) ⊎ Ignored (at + size_of r) rs i)

ignored_from : (at : ℕ) (rs : List Record) (i : ℕ) → Ignored at rs i → at ≤ i
ignored_from at [] i k = absurd k
ignored_from at (r ∷ rs) i (inl e) = omega arith
ignored_from at (r ∷ rs) i (inr (inl e)) = omega arith
ignored_from at (r ∷ rs) i (inr (inr k)) = omega (arith, ignored_from (at + size_of r) rs i k)

module _ (at : ℕ) (r : Record) (rs : List Record) (i : ℕ) where
  -- a place in the first record, and one behind it
  ignored_here : i < at + size_of r → (i ≡ at + 3 → ⊥) → (i ≡ at + 36 + length r.key → ⊥) → Ignored at (r ∷ rs) i → ⊥
  ignored_here l a b (inl e) = a e
  ignored_here l a b (inr (inl e)) = b e
  ignored_here l a b (inr (inr k)) = omega (arith, ignored_from (at + size_of r) rs i k)

  ignored_behind : at + size_of r ≤ i → (Ignored (at + size_of r) rs i → ⊥) → Ignored at (r ∷ rs) i → ⊥
  unfolding size_of
  ignored_behind l n (inl e) = omega arith
  ignored_behind l n (inr (inl e)) = omega arith
  ignored_behind l n (inr (inr k)) = n k

-- the walk again, over other bytes
record Again (s t : List ℕ) (size at : ℕ) (w : Walk) : Type 0 where
  walks : walk_from t size at ≡ w
  usable : usable_at w.stop t size w.at ≡ usable_at w.stop s size w.at

module _ (s t : List ℕ) (long : length t ≡ length s) (size n : ℕ) (reach : size ≤ n) where
  -- the same bytes up to n, but for those ignored
  abbrev Kept : ℕ → List Record → Type 0
  Kept at rs = (i : ℕ) → at ≤ i → i < n → (Ignored at rs i → ⊥) → get_or t i 0 ≡ get_or s i 0

  usable_same : (c : Stop) (at : ℕ) → at + 36 < size → Alike s t at n → usable_at c t size at ≡ usable_at c s size at
  unfolding usable_at
  usable_same Blank at l f =
      ap (λ (x : List ℕ). at + 36 + count_ff x) (part_same s t at n f long (at + 36) (size - (at + 36)) (omega arith) (omega arith))
  usable_same Start at l f = refl
  usable_same Length at l f = refl
  usable_same End at l f = refl
  usable_same Name at l f = refl
  usable_same Crc at l f = refl

  module _ (at : ℕ) where
    from_long : length (drop at t) ≡ length (drop at s)
    from_long = simp (length-drop, long)

    from_byte : (i : ℕ) → get_or t (at + i) 0 ≡ get_or s (at + i) 0 → get_or (drop at t) i 0 ≡ get_or (drop at s) i 0
    from_byte i e = rw (get_or-drop at t i 0, get_or-drop at s i 0) e

    again_halt : (c : Stop) → at + 36 < size → found (drop at s) ≡ halt c → spoils c ≡ false → Alike s t at n → found (drop at t) ≡ halt c
    again_halt c l e z f =
        let g : Alike (drop at s) (drop at t) 0 36 = λ i _ h. from_byte i (f (at + i) (omega arith) (omega arith)) in
        halt_same (drop at s) (drop at t) from_long (λ i h _. g i (omega arith) h)
        (part_same (drop at s) (drop at t) 0 36 g from_long 0 36 (omega arith) (omega arith)) c e z

    again_got : (r : Record) (rs : List Record) → Stands (drop at s) r → at + size_of r ≤ n → Kept at (r ∷ rs) → found (drop at t) ≡ got r
    again_got r rs k h f =
        let x = drop at s in
        let sz = stands_size x r k in
        let nm = stands_name x r k in
        let g : (i : ℕ) → i < size_at x → (i ≡ 3 → ⊥) → (i ≡ 35 + name_at x → ⊥) → get_or (drop at t) i 0 ≡ get_or x i 0 =
        λ i l p q. from_byte i (f (at + i) (omega arith) (omega arith)
        (ignored_here at r rs (at + i) (omega arith) (λ z. p (omega arith)) (λ z. q (omega arith)))) in
        found_same x (drop at t) from_long (λ i l p. g i (omega arith) p (λ z. omega arith)) k.starts (λ i l m q. g i m (λ z. omega arith) q)
        ∙ stands_found x r k

  abbrev Repeats : ℕ → Walk → Type 0
  Repeats at w = w.at ≤ n → spoils w.stop ≡ false → Kept at w.records → Again s t size at w

  walk_same : (at : ℕ) → Repeats at (walk_from s size at)
  unfolding usable_at
  walk_same =
      walk_ind s size Repeats (λ at l _ _ _. record { walks = walk_end t size at l; usable = refl })
      (λ at c l e _ z f. let g : Alike s t at n = λ i a b. f i a b (λ k. k) in
      record { walks = walk_halt t size at c l (again_halt at c l e z g); usable = usable_same c at l g })
      more
    where
      more : (at : ℕ) (r : Record) → at + 36 < size → Stands (drop at s) r
          → Repeats (at + size_of r) (walk_from s size (at + size_of r))
          → Repeats at (with_first r (walk_from s size (at + size_of r)))
      more at r l k ih h z f =
          let w = walk_from s size (at + size_of r) in
          let e : at + size_of r ≤ n = omega (arith, walk_at s size (at + size_of r)) in
          let g = ih h z (λ i a b d. f i (omega arith) b (ignored_behind at r w.records i a d)) in
          record {
            walks = walk_got t size at r l (again_got at r w.records k e f) ∙ ap (with_first r) g.walks;
            usable = g.usable;
          }

not_spoilt : (t : Bool) (a b : Bank) → cond t invalid (valid a) ≡ valid b → t ≡ false
not_spoilt true a b e = clash cc
not_spoilt false a b e = refl

-- a Valid bank is read from the bytes up to its size and its records' end alone, and from no reserved or closing byte among them
pub bank_same : (s t : List ℕ) (b : Bank) (n : ℕ) → length t ≡ length s → read_bank s ≡ valid b → b.header.size ≤ n → total b ≤ n
    → ((i : ℕ) → i < n → (i ≡ 15 → ⊥) → (Ignored 24 b.records i → ⊥) → get_or t i 0 ≡ get_or s i 0)
    → read_bank t ≡ valid b
unfolding read_bank after_head slot_of total
bank_same s t b n long e reach ends same =
    let h = b.header in
    let w = walk_from s h.size 24 in
    let k = came s b e in
    let q : slot_of s h w ≡ valid b = sym (ap (after_head s) k.head) ∙ e in
    let a : read_header t ≡ read_header s =
    header_same s t long (λ i l f. same i (omega arith) f (λ g. omega (arith, ignored_from 24 b.records i g))) in
    let m : Again s t h.size 24 w =
    walk_same s t long h.size n reach 24 (omega (arith, came_total s b k)) (not_spoilt (spoils w.stop) _ b q)
    (λ i l u f. same i u (λ z. omega arith) (λ g. f (subst (λ (rs : List Record). Ignored 24 rs i) (sym k.records) g))) in
    ap (after_head t) (a ∙ k.head) ∙ ap (slot_of t h) m.walks
    ∙ ap (λ (u : ℕ). cond (spoils w.stop) invalid (valid (bank_of h w.records u))) m.usable
    ∙ q

-- 01, 'Reserved and closing bytes are ignored on reading': the header's reserved byte, for a whole bank
pub bank_reserved : (s : List ℕ) (x : ℕ) (b : Bank) → read_bank s ≡ valid b → read_bank (set s 15 x) ≡ valid b
bank_reserved s x b e =
    bank_same s (set s 15 x) b (b.header.size + total b) (length-set s 15 x) e (omega arith) (omega arith)
    (λ i _ n _. get_or-set_other s 15 i x 0 n)

-- 01, 'what remains of 65,536 (not of size)': where every record ends within the size, what comes after it does not matter
pub after_size : (s t : List ℕ) (b : Bank) → length s ≡ length t → read_bank s ≡ valid b → total b ≤ b.header.size
    → take b.header.size s ≡ take b.header.size t
    → read_bank t ≡ valid b
after_size s t b long e ends same =
    let n = b.header.size in
    bank_same s t b n (sym long) e (omega arith) ends
    (λ i l _ _. sym (get_or-take n t i 0 l) ∙ ap (λ (x : List ℕ). get_or x i 0) (sym same) ∙ get_or-take n s i 0 l)
