-- The bytes of a bank as a commit writes them: their length, that each is a byte, and the generation in them.
use Prim.Native.Nat.{ℕ, zero, suc, ◌+◌, ◌-◌, ◌/◌, ◌≤◌, ◌<◌}
use native.Mathlib.Omega.{arith}
use native.Mathlib.Nat.{mod-lt}
use mathlib.Core.Path.{◌≡◌, ap, ◌∙◌}
use mathlib.Core.List.{List, [], ◌∷◌, ◌++◌, append_assoc}
use lib.ListN.{length}
use Rattle.crc32.specs.Crc32.{Bytes, crc32_of}
use Rattle.buffers.proofs.BelowLaws.{below_append, bytes_ff}
use Rattle.bank.specs.declared.header.StoreHeader.{StoreHeader}
use Rattle.bank.specs.Number.{u32_at, le32}
use Rattle.bank.specs.Header.{header_bytes}
use Rattle.bank.specs.Record.{Record, var_header_bytes, record_bytes, records_bytes}
use Rattle.bank.specs.Bank.{Bank, padded, bank_bytes, output}
use Rattle.bank.specs.Totals.{total}
use Rattle.bank.specs.WellFormed.{FineHeader, FineRecord, FineRecords}
use Rattle.bank.proofs.LengthLaws.{length_bank, length_padded}
use Rattle.bank.proofs.PaddedLaws.{blanks}
use Rattle.bank.proofs.ReadLaws.{generation_written}

pub length_output : (k : Bank) → FineRecords k.records → total k ≤ k.header.size → length (output k) ≡ k.header.size
unfolding output
length_output k f h = length_padded k.header.size (bank_bytes k) (omega (arith, length_bank k f))

-- each is a byte

-- as a record, so that the list is seen
record AllBytes (x : List ℕ) : Type 0 where
  bytes : Bytes x

cons_bytes : (a : ℕ) (x : List ℕ) → a < 256 → Bytes x → Bytes (a ∷ x)
cons_bytes a x h k zero = h
cons_bytes a x h k (suc i) = k i

all_none : AllBytes []
all_none = record { bytes = λ i. omega arith }

all_cons : {a : ℕ} {x : List ℕ} → a < 256 → AllBytes x → AllBytes (a ∷ x)
all_cons {a = a} {x = x} h k = record { bytes = cons_bytes a x h k.bytes }

all_append : {x y : List ℕ} → AllBytes x → AllBytes y → AllBytes (x ++ y)
all_append {x = x} {y = y} h k = record { bytes = below_append x y h.bytes k.bytes }

all_number : (n : ℕ) → AllBytes (le32 n)
unfolding le32
all_number n =
    let p : 0 < 256 = omega arith in
    all_cons (mod-lt n p) (all_cons (mod-lt (n / 256) p) (all_cons (mod-lt (n / 256 / 256) p) (all_cons (mod-lt (n / 256 / 256 / 256) p) all_none)))

all_header : (h : StoreHeader) → FineHeader h → AllBytes (header_bytes h)
unfolding header_bytes
all_header h f =
    all_cons (omega arith) (all_cons (omega arith) (all_cons (omega arith) (all_cons (omega arith)
    (all_append (all_number h.size)
    (all_append (all_number h.generation)
    (all_cons f.state_fits
    (all_cons f.flags_fit
    (all_cons (omega arith) (all_cons (omega arith) (all_append (all_number h.system_size) (all_number h.common_size)))))))))))

all_record : (r : Record) → FineRecord r → AllBytes (record_bytes r)
unfolding record_bytes var_header_bytes
all_record r f =
    let guid : AllBytes r.guid = record { bytes = f.guid_bytes } in
    let key : AllBytes r.key = record { bytes = f.key_bytes } in
    let value : AllBytes r.value = record { bytes = f.value_bytes } in
    all_cons (omega arith) (all_cons (omega arith)
    (all_cons f.state_fits
    (all_cons (omega arith)
    (all_append
    (all_append (all_number r.attributes)
    (all_append (all_number (length r.key + 1))
    (all_append (all_number (length r.value)) (all_append guid (all_number (crc32_of r.value))))))
    (all_append key (all_cons (omega arith) value))))))

all_records : (rs : List Record) → FineRecords rs → AllBytes (records_bytes rs)
unfolding records_bytes
all_records [] f = all_none
all_records (r ∷ rs) f = all_append (all_record r f.0) (all_records rs f.1)

pub bytes_output : (k : Bank) → FineHeader k.header → FineRecords k.records → Bytes (output k)
unfolding output padded bank_bytes
bytes_output k fh fr =
    (all_append (all_append (all_header k.header fh) (all_records k.records fr)) (record { bytes = bytes_ff (k.header.size - length (bank_bytes k)) })).bytes

-- onto any bytes, what can be read has no greater generation

pub output_generation : (k : Bank) → k.header.generation < 4294967296 → u32_at (output k) 8 ≡ k.header.generation
unfolding output padded bank_bytes
output_generation k h =
    ap (λ (s : List ℕ). u32_at s 8) (append_assoc (header_bytes k.header) (records_bytes k.records) (blanks (k.header.size - length (bank_bytes k))))
    ∙ generation_written k.header _ h
