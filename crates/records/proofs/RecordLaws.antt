-- Records that are written are read back as they were, and records that are accepted are as they would be written.
use Prim.Native.Nat.{ℕ, zero, suc, ◌+◌, ◌-◌, ◌≤◌, ◌<◌}
use mathlib.Core.Path.{◌≡◌, refl, sym, ap, ◌∙◌, subst}
use mathlib.Core.List.{List, [], ◌∷◌, ◌++◌, append_assoc}
use mathlib.Core.Bool.{Bool, true, false, cond}
use Rattle.std.specs.Prelude.{Option, None, Some}
use native.Mathlib.Omega.{arith}
use lib.ListN.{length, get_or, set, take, drop, take-append-drop, length-append, length-drop}
use lib.Seq.{get_or_at, drop_at, set-get_or}
use borrow.Author.Tests.{eq-eqb, eqb-true}
use Rattle.crc32.specs.Crc32.{crc32_of, Bytes}
use Rattle.buffers.proofs.BelowLaws.{below_drop}
use Rattle.buffers.proofs.Laws.{clash, and_both}
use Rattle.bank.specs.Record.{Record, record_of, size_of, name_at, value_at, size_at, var_header_bytes, record_bytes, records_bytes}
use Rattle.bank.specs.Read.{Item, got, halt, found}
use Rattle.bank.specs.WellFormed.{FineRecord, FineRecords}
use Rattle.bank.proofs.LengthLaws.{length_var_header, length_record}
use Rattle.bank.proofs.WalkLaws.{Stands, stands, stands_found, stands_size, stands_name}
use Rattle.bank.proofs.RecordBack.{record_of_back, record_back}
use Rattle.bank.proofs.ReadFine.{fine_record, front_record, front_whole}
use Rattle.bank.proofs.NormalizeLaws.{normal_front}
use Rattle.records.specs.View.{is_got, is_record, prepend, view_turns, view_records}

-- the test as facts
pub record Strict (s : List ℕ) : Type 0 where
  pub stands : Stands s (record_of s)
  pub reserved : get_or s 3 0 ≡ 0
  pub closed : get_or s (35 + name_at s) 0 ≡ 0

taken : (s : List ℕ) (o : Item) → found s ≡ o → is_got o ≡ true → Stands s (record_of s)
taken s (got r) e t = let k = stands s r e in subst (Stands s) k.is k
taken s (halt c) e t = clash cc

pub strict : (s : List ℕ) → is_record s ≡ true → Strict s
unfolding is_record
strict s e =
    let a = and_both _ _ e in
    let b = and_both _ _ a.1 in
    record { stands = taken s (found s) refl a.0; reserved = eqb-true _ _ b.0; closed = eqb-true _ _ b.1 }

pub is_record_lem : (s : List ℕ) → Strict s → is_record s ≡ true
unfolding is_record
is_record_lem s k = simp (stands_found s (record_of s) k.stands, eq-eqb _ _ k.reserved, eq-eqb _ _ k.closed)

pub is_long : (s : List ℕ) → is_record s ≡ true → 36 ≤ length s
is_long s t = omega (arith, (strict s t).stands.ends)

-- a record that is written, whatever follows it
module _ (r : Record) (rest : List ℕ) (f : FineRecord r) where
  abbrev bytes : List ℕ
  bytes = record_bytes r ++ rest

  here : Stands bytes r
  here = stands bytes r (record_back r rest f)

  pub size_back : size_at bytes ≡ size_of r
  size_back = sym (stands_size bytes r here)

  pub name_back : name_at bytes ≡ length r.key + 1
  name_back = omega (arith, stands_name bytes r here)

  pub value_back : value_at bytes ≡ length r.value
  unfolding size_of
  value_back = omega (arith, size_back, name_back)

  reserved_back : get_or bytes 3 0 ≡ 0
  unfolding record_bytes var_header_bytes
  reserved_back = refl

  closed_back : get_or bytes (35 + name_at bytes) 0 ≡ 0
  unfolding record_bytes
  closed_back =
      let v = var_header_bytes r.state r.attributes (length r.key + 1) (length r.value) r.guid (crc32_of r.value) in
      let l : length v ≡ 36 = length_var_header r.state r.attributes (length r.key + 1) (length r.value) (crc32_of r.value) r.guid f.guid_long in
      let e : (v ++ (r.key ++ (0 ∷ r.value))) ++ rest ≡ (v ++ r.key) ++ (0 ∷ (r.value ++ rest)) = simp append_assoc in
      ap (λ (y : List ℕ). get_or y (35 + name_at bytes) 0) e
      ∙ get_or_at (v ++ r.key) 0 (r.value ++ rest) 0 (35 + name_at bytes) (omega (arith, length-append v r.key, name_back))

  pub record_strict : is_record bytes ≡ true
  unfolding is_record
  record_strict = simp (record_back r rest f, eq-eqb _ _ reserved_back, eq-eqb _ _ closed_back)

-- a record that is accepted is as it would be written
written_back : (s : List ℕ) → Bytes s → Strict s → record_bytes (record_of s) ++ drop (size_at s) s ≡ s
written_back s b k =
    let x = take (size_at s) s in
    let y = drop (size_at s) s in
    let w = front_whole s (size_at s) refl (record_of s) b k.stands in
    ap (λ (r : Record). record_bytes r ++ y) (sym (front_record s (size_at s) refl k.stands.named))
    ∙ sym (normal_front x y w)
    ∙ ap (λ (l : List ℕ). set (set l 3 0) (35 + name_at l) 0) (take-append-drop (size_at s) s)
    ∙ ap (λ (l : List ℕ). set l (35 + name_at s) 0) (ap (set s 3) (sym k.reserved) ∙ set-get_or s 3 0)
    ∙ ap (set s (35 + name_at s)) (sym k.closed)
    ∙ set-get_or s (35 + name_at s) 0

-- the records, one after the other

view_nil : (n : ℕ) → view_turns n [] ≡ Some []
unfolding view_turns
view_nil zero = refl
view_nil (suc n) = refl

-- once the turns suffice, their number does not matter
view_more : (f g : ℕ) (s : List ℕ) → length s ≤ f → length s ≤ g → view_turns f s ≡ view_turns g s
unfolding view_turns
view_more zero g [] p q = sym (view_nil g)
view_more zero g (x ∷ s) p q = absurd (omega arith)
view_more (suc f) g [] p q = sym (view_nil g)
view_more (suc f) zero (x ∷ s) p q = absurd (omega arith)
view_more (suc f) (suc g) (x ∷ s) p q =
    let l = drop (size_at (x ∷ s)) (x ∷ s) in
    let d : length l ≡ suc (length s) - size_at (x ∷ s) = length-drop (size_at (x ∷ s)) (x ∷ s) in
    ap (λ (o : Option (List Record)). cond (is_record (x ∷ s)) (prepend (record_of (x ∷ s)) o) None) (view_more f g l (omega arith) (omega arith))

pub view_end : view_records [] ≡ Some []
unfolding view_records view_turns
view_end = refl

pub view_next : (s : List ℕ) → 0 < length s
    → view_records s ≡ cond (is_record s) (prepend (record_of s) (view_records (drop (size_at s) s))) None
unfolding view_records view_turns
view_next [] h = absurd (omega arith)
view_next (x ∷ s) h =
    let l = drop (size_at (x ∷ s)) (x ∷ s) in
    let d : length l ≡ suc (length s) - size_at (x ∷ s) = length-drop (size_at (x ∷ s)) (x ∷ s) in
    ap (λ (o : Option (List Record)). cond (is_record (x ∷ s)) (prepend (record_of (x ∷ s)) o) None) (view_more (length s) (length l) l (omega arith) (omega arith))

pub view_records_lem : (rs : List Record) → FineRecords rs → view_records (records_bytes rs) ≡ Some rs
unfolding records_bytes prepend
view_records_lem [] f = view_end
view_records_lem (r ∷ rs) f =
    let rest = records_bytes rs in
    let s = record_bytes r ++ rest in
    let n : length (record_bytes r) ≡ size_at s = length_record r f.0.guid_long ∙ sym (size_back r rest f.0) in
    let d : drop (size_at s) s ≡ rest = drop_at (record_bytes r) rest (size_at s) n in
    view_next s (omega (arith, length-append (record_bytes r) rest, n))
    ∙ rw (record_strict r rest f.0, record_of_back r rest f.0, d, view_records_lem rs f.1)

abbrev Back : List ℕ → List Record → Type 0
Back s rs = (s ≡ records_bytes rs) × FineRecords rs

none_back : (rs : List Record) → ◌≡◌ {A = Option (List Record)} (Some []) (Some rs) → Back [] rs
unfolding records_bytes
none_back rs e = let q : [] ≡ rs = cc in subst (Back []) q (refl, tt)

one_back : (s : List ℕ) (rs : List Record) (t : Bool) (o : Option (List Record)) → Bytes s → is_record s ≡ t
    → ((qs : List Record) → o ≡ Some qs → Back (drop (size_at s) s) qs)
    → cond t (prepend (record_of s) o) None ≡ Some rs
    → Back s rs
unfolding records_bytes prepend
one_back s rs false o b p h e = clash cc
one_back s rs true None b p h e = clash cc
one_back s rs true (Some qs) b p h e =
    let k = strict s p in
    let i = h qs refl in
    let q : record_of s ∷ qs ≡ rs = cc in
    subst (Back s) q (sym (written_back s b k) ∙ ap (λ (l : List ℕ). record_bytes (record_of s) ++ l) i.0, (fine_record s (record_of s) b k.stands, i.1))

turns_back : (n : ℕ) (s : List ℕ) (rs : List Record) → Bytes s → view_turns n s ≡ Some rs → Back s rs
unfolding view_turns
turns_back zero [] rs b e = none_back rs e
turns_back zero (x ∷ s) rs b e = clash cc
turns_back (suc n) [] rs b e = none_back rs e
turns_back (suc n) (x ∷ s) rs b e =
    let l = drop (size_at (x ∷ s)) (x ∷ s) in
    one_back (x ∷ s) rs (is_record (x ∷ s)) (view_turns n l) b refl (λ qs f. turns_back n l qs (below_drop (size_at (x ∷ s)) (x ∷ s) b) f) e

pub records_back : (s : List ℕ) (rs : List Record) → Bytes s → view_records s ≡ Some rs → (s ≡ records_bytes rs) × FineRecords rs
unfolding view_records
records_back s rs b e = turns_back (length s) s rs b e
