-- A record that is found and what stands in other bytes, compared as the code does: all bytes but the state, the reserved and the closing one are equal
-- just where the other bytes begin with a record of equal fields (`same_bytes`, by `other_stands` and by `parts_equal`).
use Prim.Native.Nat.{ℕ, ◌+◌, ◌-◌, ◌≤◌, ◌<◌}
use mathlib.Core.Path.{◌≡◌, refl, sym, ap, ◌∙◌, subst}
use mathlib.Core.List.{List, [], ◌∷◌}
use mathlib.Core.Bool.{Bool, true, false, ◌&&◌, and-false}
use native.Mathlib.Omega.{arith}
use lib.Dec.{eqb}
use lib.ListN.{length, get_or, set, take, drop}
use lib.Seq.{get_or-take, get_or-drop, take-set-le, drop-set-lt, drop-set-add}
use borrow.Author.Tests.{eqb-true}
use Rattle.crc32.specs.Crc32.{crc32_of, Bytes}
use Rattle.buffers.specs.Bytes.{eq_bytes}
use Rattle.buffers.proofs.Laws.{clash, eq_bytes_lem, eq_bytes_refl, and_both}
use Rattle.bank.specs.declared.variable.VarHeader.{VarHeader}
use Rattle.bank.specs.Answer.{parsed_header}
use Rattle.bank.specs.Number.{u16_at, u32_at}
use Rattle.bank.specs.Record.{Record, record_of, size_of, name_at, value_at, size_at, var_header_bytes, record_bytes}
use Rattle.bank.specs.Read.{Item, got, halt, found}
use Rattle.bank.proofs.NumberLaws.{start_low, start_high}
use Rattle.bank.proofs.WalkLaws.{Stands, stands, stands_found, stands_size, stands_name}
use Rattle.bank.proofs.ReadFine.{part_take, front_name, front_record, front_whole}
use Rattle.bank.proofs.Normal.{normal}
use Rattle.bank.proofs.FieldLaws.{name_is, value_is}
use Rattle.bank.proofs.IgnoreLaws.{Alike, u32_same, part_same}
use Rattle.settings.specs.Same.{same_fields, alike, alike_at}
use Rattle.settings.proofs.Equal.{eqb_self, Fields, fields_equal, equal_fields}

-- the places of a record's value and end, as the code has them
pub record Lengths (s : List ℕ) (value end : ℕ) : Type 0 where
  pub value_is : value ≡ 36 + name_at s
  pub end_is : end ≡ 36 + name_at s + value_at s
  pub within : end ≤ length s

-- a record that begins s
module _ (s : List ℕ) (r : Record) (e : found s ≡ got r) where
  pub begun_long : 36 ≤ length s
  begun_long = let d = (stands s r e).ends in omega arith

  pub state_at_lem : get_or s 2 0 ≡ r.state
  unfolding record_of
  state_at_lem = sym (ap (λ (x : Record). x.state) (stands s r e).is)

pub lengths : (s : List ℕ) (r : Record) → found s ≡ got r → (h : VarHeader) → h ≡ parsed_header s
    → (value end : ℕ) → value ≡ 36 + h.name_size + 0 → end ≡ 36 + h.name_size + h.data_size
    → Lengths s value end
lengths s r e h p value end a b =
    let st = stands s r e in
    let d = st.ends in
    let i = name_is s (omega arith) h p in
    let v = value_is s (omega arith) h p in
    record { value_is = omega arith; end_is = omega arith; within = omega arith }

-- equal parts have equal bytes
part_alike : (s t : List ℕ) (p m to : ℕ) → p + m ≡ to → take m (drop p s) ≡ take m (drop p t) → Alike s t p to
part_alike s t p m to w e i l h =
    let j = i - p in
    let k : p + j ≡ i = omega arith in
    let get : (x : List ℕ) → get_or x i 0 ≡ get_or (take m (drop p x)) j 0 =
    λ x. sym (get_or-take m (drop p x) j 0 (omega arith) ∙ get_or-drop p x j 0 ∙ ap (λ (n : ℕ). get_or x n 0) k) in
    get t ∙ ap (λ (x : List ℕ). get_or x j 0) (sym e) ∙ sym (get s)

-- the bytes of a record that stands in s are those that are written for it, but for the reserved and the closing one
module _ (s : List ℕ) (k : Bytes s) (r : Record) (st : Stands s r) where
  abbrev front : List ℕ
  front = take (size_at s) s

  as_written : set (set front 3 0) (4 + (31 + name_at s)) 0 ≡ record_bytes r
  as_written =
      let w = normal front (front_whole s (size_at s) refl r k st) in
      let n : 35 + name_at front ≡ 4 + (31 + name_at s) = omega (arith, front_name s (size_at s) refl) in
      let e : record_of front ≡ r = front_record s (size_at s) refl st.named ∙ sym st.is in
      ap (λ (i : ℕ). set (set front 3 0) i 0) (sym n) ∙ w ∙ ap record_bytes e

  field_bytes : take (31 + name_at s) (drop 4 s) ≡ take (31 + name_at s) (drop 4 (record_bytes r))
  field_bytes =
      let n = 31 + name_at s in
      sym (part_take 4 n (size_at s) s (omega arith)) ∙ ap (take n) (sym (drop-set-lt 4 front 3 0 (omega arith)))
      ∙ sym (take-set-le n (drop 4 (set front 3 0)) n 0 (omega arith))
      ∙ ap (take n) (sym (drop-set-add 4 (set front 3 0) n 0) ∙ ap (drop 4) as_written)

  value_bytes : r.value ≡ take (value_at s) (drop (36 + name_at s) s)
  unfolding record_of
  value_bytes = ap (λ (x : Record). x.value) st.is

-- equal fields are written with equal bytes, from the attributes on
fields_written : (r q : Record) → Fields r q → drop 4 (record_bytes r) ≡ drop 4 (record_bytes q)
unfolding record_bytes var_header_bytes
fields_written r q f = rw (f.attributes, f.guid, f.key, f.value) refl

module _ (s t : List ℕ) (ks : Bytes s) (kt : Bytes t) (long : length t ≡ length s) (r : Record) (st : Stands s r) where
  abbrev n : ℕ
  n = name_at s

  abbrev v : ℕ
  v = value_at s

  -- the parts of both that are compared
  record Parts : Type 0 where
    low : get_or s 0 0 ≡ get_or t 0 0
    high : get_or s 1 0 ≡ get_or t 1 0
    fields : take (31 + n) (drop 4 s) ≡ take (31 + n) (drop 4 t)
    value : take v (drop (36 + n) s) ≡ take v (drop (36 + n) t)

  module _ (p : Parts) where
    middle : Alike s t 4 (35 + n)
    middle = part_alike s t 4 (31 + n) (35 + n) (omega arith) p.fields

    other_u32 : (j : ℕ) → 4 ≤ j → j + 4 ≤ 35 + n → u32_at t j ≡ u32_at s j
    other_u32 = u32_same s t 4 (35 + n) middle

    named : 0 < n
    named = let d = st.named in omega arith

    other_name : name_at t ≡ n
    other_name = other_u32 8 (omega arith) (omega (arith, named))

    other_length : value_at t ≡ v
    other_length = other_u32 12 (omega arith) (omega (arith, named))

    other_start : u16_at t 0 ≡ u16_at s 0
    unfolding u16_at
    other_start = rw (p.low, p.high) refl

    other_value : take (value_at t) (drop (36 + name_at t) t) ≡ take v (drop (36 + n) s)
    other_value = rw (other_name, other_length) (sym p.value)

    other_stands : Stands t (record_of t)
    other_stands =
        let d = st.ends in
        let a = named in
        record {
          is = refl;
          starts = other_start ∙ st.starts;
          ends = omega (arith, other_name, other_length);
          named = λ z. omega (arith, other_name);
          summed = other_u32 32 (omega arith) (omega arith) ∙ st.summed ∙ ap crc32_of (sym other_value);
        }

    other_fields : Fields (record_of s) (record_of t)
    unfolding record_of
    other_fields =
        let a = named in
        record {
          attributes = sym (other_u32 4 (omega arith) (omega arith));
          guid = sym (part_same s t 4 (35 + n) middle long 16 16 (omega arith) (omega arith));
          key = sym (rw other_name (part_same s t 4 (35 + n) middle long 36 (n - 1) (omega arith) (omega arith)));
          value = sym other_value;
        }

    other_alike : same_fields r (record_of t) ≡ true
    other_alike = rw st.is (equal_fields (record_of s) (record_of t) other_fields)

  parts_equal : (q : Record) → Stands t q → Fields r q → Parts
  unfolding size_of
  parts_equal q so f =
      let name : name_at t ≡ n = omega (arith, stands_name s r st, stands_name t q so, ap length f.key) in
      let size : value_at t ≡ v =
      omega (arith, stands_size s r st, stands_size t q so, name, ap length f.key, ap length f.value) in
      record {
        low = start_low s ks st.starts ∙ sym (start_low t kt so.starts);
        high = start_high s ks st.starts ∙ sym (start_high t kt so.starts);
        fields =
            field_bytes s ks r st ∙ ap (take (31 + n)) (fields_written r q f)
            ∙ sym (subst (λ (i : ℕ). take (31 + i) (drop 4 t) ≡ take (31 + i) (drop 4 (record_bytes q))) name (field_bytes t kt q so));
        value = sym (value_bytes s ks r st) ∙ f.value ∙ value_bytes t kt q so ∙ rw (name, size) refl;
      }

  abbrev compare : Bool
  compare =
      eqb (get_or s 0 0) (get_or t 0 0) && eqb (get_or s 1 0) (get_or t 1 0)
      && eq_bytes (take (31 + n) (drop 4 s)) (take (31 + n) (drop 4 t))
      && eq_bytes (take v (drop (36 + n) s)) (take v (drop (36 + n) t))

  parts_of : compare ≡ true → Parts
  parts_of e =
      let value = and_both _ (eq_bytes (take v (drop (36 + n) s)) (take v (drop (36 + n) t))) e in
      let fields = and_both _ (eq_bytes (take (31 + n) (drop 4 s)) (take (31 + n) (drop 4 t))) value.0 in
      let start = and_both (eqb (get_or s 0 0) (get_or t 0 0)) (eqb (get_or s 1 0) (get_or t 1 0)) fields.0 in
      record {
        low = eqb-true _ _ start.0;
        high = eqb-true _ _ start.1;
        fields = eq_bytes_lem _ _ fields.1;
        value = eq_bytes_lem _ _ value.1;
      }

  of_parts : Parts → compare ≡ true
  of_parts p = rw (p.low, p.high, p.fields, p.value) (simp (eqb_self, eq_bytes_refl))

  module _ (states : ℕ → ℕ → Bool) where
    differs : compare ≡ false → (o : Item) → found t ≡ o → alike_at states r o ≡ false
    unfolding alike_at alike
    differs e (halt c) g = refl
    differs e (got q) g = go (same_fields r q) refl
      where
        go : (b : Bool) → same_fields r q ≡ b → (states r.state q.state && b) ≡ false
        go false h = and-false (states r.state q.state)
        go true h = let z : compare ≡ true = of_parts (parts_equal q (stands t q g) (fields_equal r q h)) in clash cc

    by_parts : (states r.state (get_or t 2 0) && compare) ≡ alike_at states r (found t)
    unfolding alike_at alike record_of
    by_parts = go compare refl
      where
        go : (b : Bool) → compare ≡ b → (states r.state (get_or t 2 0) && b) ≡ alike_at states r (found t)
        go true e =
            let p = parts_of e in
            rw (stands_found t (record_of t) (other_stands p)) (rw (other_alike p) refl)
        go false e = and-false (states r.state (get_or t 2 0)) ∙ sym (differs e (found t) refl)

-- in the numbers that the code has
pub same_bytes : (s t : List ℕ) → Bytes s → Bytes t → length s ≡ length t → (value end : ℕ) → Lengths s value end → (y z : Bool)
    → y ≡ eq_bytes (take (value - 1 - 4) (drop 4 s)) (take (value - 1 - 4) (drop 4 t))
    → z ≡ eq_bytes (take (end - value) (drop value s)) (take (end - value) (drop value t))
    → (states : ℕ → ℕ → Bool) (r : Record) → found s ≡ got r
    → (states r.state (get_or t 2 0) && (eqb (get_or s 0 0) (get_or t 0 0) && eqb (get_or s 1 0) (get_or t 1 0) && y && z)) ≡ alike_at states r (found t)
same_bytes s t ks kt long value end l y z q u states r e =
    let a : value - 1 - 4 ≡ 31 + name_at s = omega (arith, l.value_is) in
    let b : end - value ≡ value_at s = omega (arith, l.value_is, l.end_is) in
    rw (q, u, a, b, l.value_is) (by_parts s t ks kt (sym long) r (stands s r e) states)

-- the start number at once, as the code compares it

two : (s t : List ℕ) → 2 ≤ length s → 2 ≤ length t
    → eq_bytes (take 2 s) (take 2 t) ≡ (eqb (get_or s 0 0) (get_or t 0 0) && (eqb (get_or s 1 0) (get_or t 1 0) && true))
unfolding eq_bytes
two [] t l k = absurd (omega arith)
two (a ∷ []) t l k = absurd (omega arith)
two (a ∷ b ∷ s) [] l k = absurd (omega arith)
two (a ∷ b ∷ s) (x ∷ []) l k = absurd (omega arith)
two (a ∷ b ∷ s) (x ∷ y ∷ t) l k = refl

start_first : (a b y z : Bool) → ((a && (b && true)) && y && z) ≡ (a && b && y && z)
start_first true true y z = refl
start_first true false y z = refl
start_first false b y z = refl

pub same_fields_bytes : (s t : List ℕ) → Bytes s → Bytes t → length s ≡ length t → (value end : ℕ) → Lengths s value end → (x y z : Bool)
    → x ≡ eq_bytes (take 2 s) (take 2 t)
    → y ≡ eq_bytes (take (value - 1 - 4) (drop 4 s)) (take (value - 1 - 4) (drop 4 t))
    → z ≡ eq_bytes (take (end - value) (drop value s)) (take (end - value) (drop value t))
    → (states : ℕ → ℕ → Bool) (r : Record) → found s ≡ got r
    → (states r.state (get_or t 2 0) && (x && y && z)) ≡ alike_at states r (found t)
same_fields_bytes s t ks kt long value end l x y z o q u states r e =
    let h = begun_long s r e in
    ap (λ (b : Bool). states r.state (get_or t 2 0) && (b && y && z)) (o ∙ two s t (omega arith) (omega arith))
    ∙ ap (λ (b : Bool). states r.state (get_or t 2 0) && b) (start_first (eqb (get_or s 0 0) (get_or t 0 0)) (eqb (get_or s 1 0) (get_or t 1 0)) y z)
    ∙ same_bytes s t ks kt long value end l y z q u states r e
