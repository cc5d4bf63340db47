-- The tests of specs/Same say that headers and records are equal: `yes_equal` and `equal_yes` for two slots.
use Prim.Native.Nat.{ℕ}
use mathlib.Core.Path.{◌≡◌, refl, ap₂}
use mathlib.Core.List.{List, [], ◌∷◌}
use mathlib.Core.Bool.{true, ◌&&◌, and_assoc}
use lib.Dec.{eqb}
use borrow.Author.Tests.{eq-eqb, eqb-true}
use Rattle.buffers.specs.Bytes.{eq_bytes}
use Rattle.buffers.proofs.Laws.{clash, eq_bytes_lem, eq_bytes_refl, and_both}
use Rattle.bank.specs.declared.header.StoreHeader.{StoreHeader}
use Rattle.bank.specs.Record.{Record}
use Rattle.bank.specs.Bank.{Bank, Slot, empty, invalid, valid}
use Rattle.settings.specs.Same.{same_header, same_fields, alike, all_alike, same_settings}

pub eqb_self : (n : ℕ) → eqb n n ≡ true
eqb_self n = eq-eqb n n refl

pub header_equal : (h g : StoreHeader) → same_header h g ≡ true → h ≡ g
unfolding same_header
header_equal h g e =
    let common = and_both _ (eqb h.common_size g.common_size) e in
    let system = and_both _ (eqb h.system_size g.system_size) common.0 in
    let flags = and_both _ (eqb h.flags g.flags) system.0 in
    let state = and_both _ (eqb h.state g.state) flags.0 in
    let first = and_both (eqb h.size g.size) (eqb h.generation g.generation) state.0 in
    let a : h.size ≡ g.size = eqb-true _ _ first.0 in
    let b : h.generation ≡ g.generation = eqb-true _ _ first.1 in
    let c : h.state ≡ g.state = eqb-true _ _ state.1 in
    let d : h.flags ≡ g.flags = eqb-true _ _ flags.1 in
    let f : h.system_size ≡ g.system_size = eqb-true _ _ system.1 in
    let k : h.common_size ≡ g.common_size = eqb-true _ _ common.1 in
    λ i. record { size = a i; generation = b i; state = c i; flags = d i; system_size = f i; common_size = k i }

-- as a derived `==` compares them
pub header_same : (h g : StoreHeader)
    → same_header h g
    ≡ (eqb h.size g.size && (eqb h.generation g.generation && (eqb h.state g.state && (eqb h.flags g.flags && (eqb h.system_size g.system_size && eqb h.common_size g.common_size)))))
unfolding same_header
header_same h g = simp and_assoc

pub header_refl : (h : StoreHeader) → same_header h h ≡ true
unfolding same_header
header_refl h = simp eqb_self

-- the fields that are compared, one by one
pub record Fields (r q : Record) : Type 0 where
  pub attributes : r.attributes ≡ q.attributes
  pub guid : r.guid ≡ q.guid
  pub key : r.key ≡ q.key
  pub value : r.value ≡ q.value

pub fields_equal : (r q : Record) → same_fields r q ≡ true → Fields r q
unfolding same_fields
fields_equal r q e =
    let value = and_both _ (eq_bytes r.value q.value) e in
    let key = and_both _ (eq_bytes r.key q.key) value.0 in
    let first = and_both (eqb r.attributes q.attributes) (eq_bytes r.guid q.guid) key.0 in
    record {
      attributes = eqb-true _ _ first.0;
      guid = eq_bytes_lem _ _ first.1;
      key = eq_bytes_lem _ _ key.1;
      value = eq_bytes_lem _ _ value.1;
    }

pub equal_fields : (r q : Record) → Fields r q → same_fields r q ≡ true
unfolding same_fields
equal_fields r q f = rw (f.attributes, f.guid, f.key, f.value) (simp (eqb_self, eq_bytes_refl))

pub alike_equal : (r q : Record) → alike eqb r q ≡ true → r ≡ q
unfolding alike
alike_equal r q e =
    let p = and_both (eqb r.state q.state) (same_fields r q) e in
    let s : r.state ≡ q.state = eqb-true _ _ p.0 in
    let f = fields_equal r q p.1 in
    λ i. record { state = s i; attributes = f.attributes i; guid = f.guid i; key = f.key i; value = f.value i }

pub alike_refl : (r : Record) → alike eqb r r ≡ true
unfolding alike
alike_refl r =
    rw (eqb_self r.state) (equal_fields r r (record { attributes = refl; guid = refl; key = refl; value = refl }))

pub all_equal : (rs qs : List Record) → all_alike eqb rs qs ≡ true → rs ≡ qs
unfolding all_alike
all_equal [] [] e = refl
all_equal [] (q ∷ qs) e = clash cc
all_equal (r ∷ rs) [] e = clash cc
all_equal (r ∷ rs) (q ∷ qs) e =
    let p = and_both (alike eqb r q) (all_alike eqb rs qs) e in
    ap₂ (λ (x : Record) (xs : List Record). x ∷ xs) (alike_equal r q p.0) (all_equal rs qs p.1)

pub all_refl : (rs : List Record) → all_alike eqb rs rs ≡ true
unfolding all_alike
all_refl [] = refl
all_refl (r ∷ rs) = rw (alike_refl r) (all_refl rs)

-- the named fields and the records of two banks
pub record EqualBanks (b c : Bank) : Type 0 where
  pub header : b.header ≡ c.header
  pub records : b.records ≡ c.records

-- both are Valid, with equal named header fields and equal records in order
pub record Yes (x y : Slot) : Type 0 where
  pub one : Bank
  pub other : Bank
  pub one_is : x ≡ valid one
  pub other_is : y ≡ valid other
  pub equal : EqualBanks one other

pub yes_equal : (x y : Slot) → same_settings x y ≡ true → Yes x y
unfolding same_settings
yes_equal empty y e = clash cc
yes_equal invalid y e = clash cc
yes_equal (valid b) empty e = clash cc
yes_equal (valid b) invalid e = clash cc
yes_equal (valid b) (valid c) e =
    let p = and_both (same_header b.header c.header) (all_alike eqb b.records c.records) e in
    record {
      one = b;
      other = c;
      one_is = refl;
      other_is = refl;
      equal = record { header = header_equal _ _ p.0; records = all_equal _ _ p.1 };
    }

pub equal_yes : (b c : Bank) → EqualBanks b c → same_settings (valid b) (valid c) ≡ true
unfolding same_settings
equal_yes b c q = rw (q.header, q.records) (simp (header_refl, all_refl))
