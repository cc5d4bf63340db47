-- How many bytes each encoding has: a header 24, a record `size_of`, a bank its total, a part as many as it is padded to.
use Prim.Native.Nat.{ℕ, ◌≤◌}
use mathlib.Core.Path.{◌≡◌, refl, ◌∙◌}
use mathlib.Core.List.{List, [], ◌∷◌}
use native.Mathlib.Omega.{arith}
use lib.ListN.{length, length-append, length-replicate}
use Rattle.bank.specs.declared.header.StoreHeader.{StoreHeader}
use Rattle.bank.specs.Number.{le32}
use Rattle.bank.specs.Header.{header_bytes}
use Rattle.bank.specs.Record.{Record, size_of, sizes, var_header_bytes, record_bytes, records_bytes}
use Rattle.bank.specs.Bank.{Bank, Slot, empty, invalid, valid, padded, bank_bytes, part_of}
use Rattle.bank.specs.WellFormed.{FineRecords}
use Rattle.bank.specs.Totals.{total}
use Rattle.bank.proofs.NumberLaws.{length_le32}

pub length_header : (h : StoreHeader) → length (header_bytes h) ≡ 24
unfolding header_bytes le32
length_header h = refl

pub length_var_header : (state attributes name value crc : ℕ) (guid : List ℕ) → length guid ≡ 16
    → length (var_header_bytes state attributes name value guid crc) ≡ 36
unfolding var_header_bytes
length_var_header state attributes name value crc guid g = simp (length-append, length_le32) (omega arith)

pub length_record : (r : Record) → length r.guid ≡ 16 → length (record_bytes r) ≡ size_of r
unfolding record_bytes var_header_bytes size_of
length_record r g = simp (length-append, length_le32) (omega arith)

pub length_records : (rs : List Record) → FineRecords rs → length (records_bytes rs) ≡ sizes rs
unfolding records_bytes sizes
length_records [] f = refl
length_records (r ∷ rs) f =
    length-append (record_bytes r) (records_bytes rs) ∙ cc (length_record r f.0.guid_long, length_records rs f.1)

pub length_bank : (b : Bank) → FineRecords b.records → length (bank_bytes b) ≡ total b
unfolding bank_bytes total
length_bank b f =
    length-append (header_bytes b.header) (records_bytes b.records)
    ∙ cc (length_header b.header, length_records b.records f)

pub length_padded : (n : ℕ) (s : List ℕ) → length s ≤ n → length (padded n s) ≡ n
unfolding padded
length_padded n s h = simp (length-append, length-replicate) (omega arith)

-- a part holds what a bank's total allows
abbrev pub FitsPart : ℕ → Slot → Type 0
FitsPart n empty = Unit {0}
FitsPart n invalid = Unit {0}
FitsPart n (valid b) = FineRecords b.records × (total b ≤ n)

pub length_part : (n : ℕ) (k : Slot) → FitsPart n k → length (part_of n k) ≡ n
unfolding part_of
length_part n empty h = length-replicate n 255
length_part n invalid h = length-replicate n 255
length_part n (valid b) h = length_padded n (bank_bytes b) (omega (arith, length_bank b h.0, h.1))
