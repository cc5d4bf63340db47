-- Lists of records that are joined, edited or selected from: their bytes, their sizes, and that they stay well-formed.
use Prim.Native.Nat.{ℕ, zero, suc, ◌+◌, ◌≤◌, ◌<◌}
use mathlib.Core.Path.{◌≡◌, refl, sym, ap, ◌∙◌}
use mathlib.Core.List.{List, [], ◌∷◌, ◌++◌, append_assoc}
use mathlib.Core.Bool.{Bool, true, false, ◌&&◌, cond}
use native.Mathlib.Omega.{arith}
use lib.Dec.{eqb, ltb}
use lib.ListN.{length}
use borrow.Author.Tests.{ltb-true}
use Rattle.crc32.specs.Crc32.{Bytes}
use Rattle.buffers.proofs.Laws.{and_both, by_test}
use Rattle.bank.specs.declared.variable.VarType.{VarType}
use Rattle.bank.specs.declared.variable.VarType.TheVariants.{Common, System}
use Rattle.bank.specs.Record.{Record, size_of, sizes, guid_of, deleted_state, record_bytes, records_bytes}
use Rattle.bank.specs.Totals.{select}
use Rattle.bank.specs.WellFormed.{FineRecord, FineRecords}
use Rattle.records.specs.Match.{matches, deleted, removed, fresh}

pub records_append : (rs qs : List Record) → records_bytes (rs ++ qs) ≡ records_bytes rs ++ records_bytes qs
unfolding records_bytes
records_append [] qs = refl
records_append (r ∷ rs) qs =
    ap (λ (l : List ℕ). record_bytes r ++ l) (records_append rs qs) ∙ sym (append_assoc (record_bytes r) (records_bytes rs) (records_bytes qs))

pub sizes_append : (rs qs : List Record) → sizes (rs ++ qs) ≡ sizes rs + sizes qs
unfolding sizes
sizes_append [] qs = omega arith
sizes_append (r ∷ rs) qs = omega (arith, sizes_append rs qs)

pub fine_append : (rs qs : List Record) → FineRecords rs → FineRecords qs → FineRecords (rs ++ qs)
fine_append [] qs f g = g
fine_append (r ∷ rs) qs f g = (f.0, fine_append rs qs f.1 g)

module _ (key : List ℕ) (typ : VarType) where
  state_fits : (t : Bool) (n : ℕ) → n < 256 → cond t (deleted_state n) n < 256
  unfolding deleted_state
  state_fits true n h = by_test (λ (m : ℕ). m < 256) (eqb n 0x7F) 0x7C n (λ _. omega arith) (λ _. h)
  state_fits false n h = h

  pub fine_deleted : (r : Record) → FineRecord r → FineRecord (deleted key typ r)
  unfolding deleted
  fine_deleted r f =
      record {
        state_fits = state_fits (matches key typ r) r.state f.state_fits;
        attributes_fit = f.attributes_fit;
        guid_long = f.guid_long;
        guid_bytes = f.guid_bytes;
        key_fits = f.key_fits;
        key_bytes = f.key_bytes;
        value_fits = f.value_fits;
        value_bytes = f.value_bytes;
      }

  pub size_deleted : (r : Record) → size_of (deleted key typ r) ≡ size_of r
  unfolding deleted size_of
  size_deleted r = refl

  pub fine_removed : (rs : List Record) → FineRecords rs → FineRecords (removed key typ rs)
  fine_removed [] f = tt
  fine_removed (r ∷ rs) f = (fine_deleted r f.0, fine_removed rs f.1)

  pub sizes_removed : (rs : List Record) → sizes (removed key typ rs) ≡ sizes rs
  unfolding sizes
  sizes_removed [] = refl
  sizes_removed (r ∷ rs) = cc (size_deleted r, sizes_removed rs)

module _ (p : Record → Bool) where
  pub fine_select : (rs : List Record) → FineRecords rs → FineRecords (select p rs)
  unfolding select
  fine_select [] f = tt
  fine_select (r ∷ rs) f = by_test FineRecords (p r) (r ∷ select p rs) (select p rs) (λ _. (f.0, fine_select rs f.1)) (λ _. fine_select rs f.1)

  pub sizes_select : (rs : List Record) → sizes (select p rs) ≤ sizes rs
  unfolding select sizes
  sizes_select [] = omega arith
  sizes_select (r ∷ rs) =
      by_test (λ (x : List Record). sizes x ≤ size_of r + sizes rs) (p r) (r ∷ select p rs) (select p rs) (λ _. omega (arith, sizes_select rs))
      (λ _. omega (arith, sizes_select rs))

pub guid_length : (typ : VarType) → length (guid_of typ) ≡ 16
guid_length Common = refl
guid_length System = refl

-- each element of a list that is written out is a byte, by one test
below : List ℕ → Bool
below [] = true
below (x ∷ s) = ltb x 256 && below s

below_bytes : (s : List ℕ) → below s ≡ true → Bytes s
unfolding below
below_bytes [] e i = omega arith
below_bytes (x ∷ s) e zero = ltb-true x 256 (and_both (ltb x 256) (below s) e).0
below_bytes (x ∷ s) e (suc i) = below_bytes s (and_both (ltb x 256) (below s) e).1 i

guid_bytes : (typ : VarType) → Bytes (guid_of typ)
unfolding below
guid_bytes Common = below_bytes (guid_of Common) refl
guid_bytes System = below_bytes (guid_of System) refl

pub fine_fresh : (attributes : ℕ) (key value : List ℕ) (typ : VarType) → attributes < 4294967296 → Bytes key → Bytes value → length key ≤ 131072
    → length value ≤ 131072
    → FineRecord (fresh attributes key value typ)
fine_fresh attributes key value typ a b d k v =
    record {
      state_fits = omega arith;
      attributes_fit = a;
      guid_long = guid_length typ;
      guid_bytes = guid_bytes typ;
      key_fits = omega arith;
      key_bytes = b;
      value_fits = omega arith;
      value_bytes = d;
    }
