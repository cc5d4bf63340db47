-- How long a listing can be: a record of n bytes makes a line of at most 2 × n (`record_short`), so that any listing fits the bytes lent
-- (`listing_fits`).
use Prim.Native.Nat.{ℕ, ◌+◌, ◌*◌, ◌≤◌, ◌<◌}
use mathlib.Core.Path.{◌≡◌, refl}
use mathlib.Core.List.{List, [], ◌∷◌}
use native.Mathlib.Omega.{arith}
use lib.ListN.{length, take, length-append}
use lib.Seq.{length-take-le}
use Rattle.crc32.specs.Crc32.{Bytes}
use Rattle.buffers.proofs.BelowLaws.{below_take}
use Rattle.bank.specs.declared.header.StoreHeader.{StoreHeader}
use Rattle.bank.specs.declared.variable.VarType.{VarType}
use Rattle.bank.specs.declared.variable.VarType.TheVariants.{Common, System}
use Rattle.bank.specs.Record.{Record, type_of, size_of, sizes}
use Rattle.bank.specs.Bank.{Bank, Slot, empty, invalid, valid, bank_size}
use Rattle.bank.specs.Read.{read_bank}
use Rattle.bank.specs.Totals.{total}
use Rattle.bank.specs.WellFormed.{FineHeader, FineBank}
use Rattle.bank.proofs.PartitionLaws.{lent_by}
use Rattle.bank.proofs.ReadBank.{read_fine}
use Rattle.text.specs.Text.{hex, be32, line}
use Rattle.text.specs.Words.{short_word, empty_word}
use Rattle.text.proofs.TextLaws.{length_hex, decimal_short, length_fields, length_last}
use Rattle.banklist.specs.Listing.{invalid_word, type_word, key_word, bank_line, fields_line, record_line, record_lines, used_line, bank_lines, slot_lines, listing, out_size}

type_short : (t : VarType) → length (type_word t) ≡ 1
unfolding type_word
type_short System = refl
type_short Common = refl

key_short : (k : List ℕ) → length (key_word k) ≤ 2 * length k + 1
unfolding key_word
key_short [] = omega arith
key_short (b ∷ k) = omega (arith, length_hex (b ∷ k))

record_short : (i : ℕ) (r : Record) → i + size_of r < 10000000000 → length (record_line i r) ≤ 2 * size_of r
unfolding record_line fields_line size_of hex be32
record_short i r h =
    let index = decimal_short 9 i (omega arith) in
    let typ = type_short (type_of r.guid) in
    let key = key_short r.key in
    let value = decimal_short 9 (length r.value) (omega arith) in
    simp (length_fields, length_last) (omega arith)

records_short : (i : ℕ) (rs : List Record) → i + sizes rs < 10000000000 → length (record_lines i rs) ≤ 2 * sizes rs
unfolding record_lines sizes size_of
records_short i [] h = omega arith
records_short i (r ∷ rs) h =
    omega
    (arith, length-append (record_line i r) (record_lines (i + 1) rs), record_short i r (omega arith), records_short (i + 1) rs (omega arith))

bank_short : (h : StoreHeader) → FineHeader h → length (bank_line h) ≤ 49
unfolding bank_line
bank_short h f =
    let size = decimal_short 9 h.size (omega arith) in
    let generation = decimal_short 9 h.generation (omega arith) in
    let system = decimal_short 9 h.system_size (omega arith) in
    let common = decimal_short 9 h.common_size (omega arith) in
    simp (length_fields, length_last) (omega arith)

used_short : (m n : ℕ) → m < 10000000000 → n < 10000000000 → length (used_line m n) ≤ 34
unfolding used_line
used_short m n p q = simp (length_fields, length_last) (omega (arith, decimal_short 9 m p, decimal_short 9 n q))

lines_short : (b : Bank) → FineBank b → total b ≤ 65536 → length (bank_lines b) ≤ out_size
unfolding bank_lines total out_size
lines_short b f h =
    let g = f.header_fine in
    let u : b.usable < 10000000000 = omega (arith, g.size_high, f.usable_high) in
    let first = bank_short b.header g in
    let rows = records_short 0 b.records (omega arith) in
    let last = used_short (total b) b.usable (omega arith) u in
    simp length-append (omega arith)

slot_short : (s : List ℕ) → Bytes s → length s ≡ 65536 → (k : Slot) → read_bank s ≡ k → length (slot_lines k) ≤ out_size
unfolding slot_lines out_size
slot_short s d l empty e = omega (arith, length_last empty_word)
slot_short s d l invalid e = omega (arith, length_last invalid_word)
slot_short s d l (valid b) e = let f = read_fine s b d (omega arith) e in lines_short b f.0 (omega (arith, f.1))

-- a listing fits the bytes that the program lends
pub listing_fits : (s : List ℕ) → Bytes s → length (listing s) ≤ out_size
unfolding listing bank_size out_size
listing_fits s d =
    lent_by (line (short_word ∷ [])) (λ b. slot_lines (read_bank b)) s (λ x. length x ≤ out_size)
    (λ t. slot_short (take bank_size s) (below_take bank_size s d) (length-take-le bank_size s t) (read_bank (take bank_size s)) refl)
    (λ _. omega (arith, length_last short_word))
