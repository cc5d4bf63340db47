-- Records that have aged: some are deleted, some are appended. Written over the old ones they come out whole.
use Prim.Native.Nat.{ℕ, suc, ◌+◌, ◌-◌, ◌≤◌}
use native.Mathlib.Omega.{arith}
use mathlib.Core.Path.{◌≡◌, refl, sym, ap, ap₂, ◌∙◌, subst}
use mathlib.Core.Bool.{Bool, cond}
use mathlib.Core.List.{List, [], ◌∷◌, ◌++◌, append_assoc, append-nil}
use lib.Bits.{bit_and, and_self}
use lib.Dec.{eqb}
use lib.ListN.{length, length-append}
use borrow.Author.Tests.{eqb-true}
use Rattle.crc32.specs.Crc32.{Bytes, crc32_of}
use Rattle.buffers.proofs.Laws.{by_test}
use Rattle.bank.specs.declared.variable.VarType.{VarType}
use Rattle.bank.specs.Number.{le32}
use Rattle.bank.specs.Header.{header_bytes}
use Rattle.bank.specs.Record.{Record, deleted_state, var_header_bytes, record_bytes, records_bytes}
use Rattle.bank.specs.Bank.{Bank, padded, bank_bytes, output}
use Rattle.bank.specs.Totals.{total}
use Rattle.bank.specs.WellFormed.{FineHeader, FineRecords}
use Rattle.bank.proofs.PaddedLaws.{blanks, length_blanks}
use Rattle.bank.proofs.OutputLaws.{length_output, bytes_output}
use Rattle.records.specs.Match.{matches, deleted, removed, fresh}
use Rattle.book.specs.Book.{with_records}
use Rattle.book.specs.Edit.{Edit, insert, remove, attributes_of, edited_by}
use Rattle.run.specs.Flash.{ands}
use Rattle.run.proofs.FlashLaws.{ands_ff, ands_same}

-- a state that stays, or goes from 0x7F to 0x7C
pub data Older (a b : ℕ) : Type 0 where
  same : a ≡ b → Older a b
  gone : a ≡ 0x7F → b ≡ 0x7C → Older a b

older_trans : {a b c : ℕ} → Older a b → Older b c → Older a c
older_trans (same p) (same q) = same (p ∙ q)
older_trans (same p) (gone q r) = gone (p ∙ q) r
older_trans (gone p q) (same r) = gone p (sym r ∙ q)
older_trans (gone p q) (gone r s) = absurd (omega arith)

older_and : {a b : ℕ} → Older a b → bit_and a b ≡ b
older_and {a = a} {b = b} (same p) = ap (λ (n : ℕ). bit_and n b) p ∙ and_self b
older_and (gone p q) = ap₂ bit_and p q ∙ sym q

abbrev with_state : ℕ → Record → Record
with_state n r = record { state = n; attributes = r.attributes; guid = r.guid; key = r.key; value = r.value }

pub data Aged : List Record → List Record → Type 0 where
  more : {ss : List Record} → Aged [] ss
  next : {r : Record} {n : ℕ} {rs ss : List Record} → Older r.state n → Aged rs ss → Aged (r ∷ rs) (with_state n r ∷ ss)

pub aged_refl : (rs : List Record) → Aged rs rs
aged_refl [] = more
aged_refl (r ∷ rs) = next (same refl) (aged_refl rs)

pub aged_trans : {rs ss ts : List Record} → Aged rs ss → Aged ss ts → Aged rs ts
aged_trans more b = more
aged_trans (next p a) (next q b) = next (older_trans p q) (aged_trans a b)

older_deleted : (t : Bool) (n : ℕ) → Older n (cond t (deleted_state n) n)
unfolding deleted_state
older_deleted t n =
    by_test (Older n) t _ _ (λ _. by_test (Older n) (eqb n 0x7F) _ _ (λ e. gone (eqb-true n 0x7F e) refl) (λ _. same refl)) (λ _. same refl)

-- what an edit does to the records: a remove appends none, an insert one
aged_removed : (key : List ℕ) (typ : VarType) (rs ts : List Record) → Aged rs (removed key typ rs ++ ts)
unfolding deleted
aged_removed key typ [] ts = more
aged_removed key typ (r ∷ rs) ts = next (older_deleted (matches key typ r) r.state) (aged_removed key typ rs ts)

pub aged_edited : (e : Edit) (rs : List Record) → Aged rs (edited_by e rs)
unfolding edited_by
aged_edited (insert m key value typ) rs = aged_removed key typ rs (fresh (attributes_of m) key value typ ∷ [])
aged_edited (remove key typ) rs = subst (Aged rs) (append-nil (removed key typ rs)) (aged_removed key typ rs [])

-- the bytes

module _ (r : Record) (n : ℕ) where
  abbrev new : Record
  new = with_state n r

  new_long : length (record_bytes r) ≡ length (record_bytes new)
  unfolding record_bytes var_header_bytes
  new_long = refl

  -- a record's bytes from its reserved one on
  rest : List ℕ
  rest =
      0
      ∷ (le32 r.attributes ++ (le32 (length r.key + 1) ++ (le32 (length r.value) ++ (r.guid ++ le32 (crc32_of r.value)))))
      ++ (r.key ++ (0 ∷ r.value))

  ands_older : (x y : List ℕ) → Older r.state n → ands (record_bytes r ++ x) (record_bytes new ++ y) ≡ record_bytes new ++ ands x y
  unfolding record_bytes var_header_bytes ands rest
  ands_older x y f = ap₂ (λ (a : ℕ) (l : List ℕ). 0xAA ∷ 0x55 ∷ a ∷ l) (older_and f) (ands_same rest x y)

bytes_right : (x y : List ℕ) → Bytes (x ++ y) → Bytes y
bytes_right [] y h = h
bytes_right (a ∷ x) y h = bytes_right x y (λ i. h (suc i))

tail_long : (x y u v : List ℕ) → length x ≡ length y → length (x ++ u) ≡ length (y ++ v) → length u ≡ length v
tail_long x y u v e h = omega (arith, length-append x u, length-append y v)

ands_aged : {rs ss : List Record} (m n : ℕ) → Aged rs ss → Bytes (records_bytes ss ++ blanks n)
    → length (records_bytes rs ++ blanks m) ≡ length (records_bytes ss ++ blanks n)
    → ands (records_bytes rs ++ blanks m) (records_bytes ss ++ blanks n) ≡ records_bytes ss ++ blanks n
unfolding records_bytes
ands_aged m n (more {ss = ss}) b h =
    let e : m ≡ length (records_bytes ss ++ blanks n) = sym (length_blanks m) ∙ h in
    ap (λ (i : ℕ). ands (blanks i) (records_bytes ss ++ blanks n)) e ∙ ands_ff (records_bytes ss ++ blanks n) b
ands_aged m n (next {r = r} {n = s} {rs = rs} {ss = ss} f a) b h =
    let x = record_bytes r in
    let y = record_bytes (with_state s r) in
    let u = records_bytes rs ++ blanks m in
    let v = records_bytes ss ++ blanks n in
    let p : (x ++ records_bytes rs) ++ blanks m ≡ x ++ u = append_assoc x (records_bytes rs) (blanks m) in
    let q : (y ++ records_bytes ss) ++ blanks n ≡ y ++ v = append_assoc y (records_bytes ss) (blanks n) in
    let l : length u ≡ length v = tail_long x y u v (new_long r s) (sym (ap length p) ∙ h ∙ ap length q) in
    ap₂ ands p q ∙ ands_older r s u v f ∙ ap (λ (z : List ℕ). y ++ z) (ands_aged m n a (bytes_right y v (subst Bytes q b)) l) ∙ sym q

-- a bank that is written over one that has aged into it
module _ (k : Bank) (older : List Record) (fh : FineHeader k.header) (fr : FineRecords k.records) (fo : FineRecords older)
    (fits : total k ≤ k.header.size) (fitted : total (with_records k older) ≤ k.header.size) where
  pub ands_output : Aged older k.records → ands (output (with_records k older)) (output k) ≡ output k
  unfolding output padded bank_bytes
  ands_output a =
      let h = header_bytes k.header in
      let x = records_bytes older in
      let y = records_bytes k.records in
      let m = k.header.size - length (h ++ x) in
      let n = k.header.size - length (h ++ y) in
      let p : (h ++ x) ++ blanks m ≡ h ++ (x ++ blanks m) = append_assoc h x (blanks m) in
      let q : (h ++ y) ++ blanks n ≡ h ++ (y ++ blanks n) = append_assoc h y (blanks n) in
      let l : length ((h ++ x) ++ blanks m) ≡ length ((h ++ y) ++ blanks n) =
      length_output (with_records k older) fo fitted ∙ sym (length_output k fr fits) in
      let b : Bytes ((h ++ y) ++ blanks n) = bytes_output k fh fr in
      ap₂ ands p q ∙ ands_same h (x ++ blanks m) (y ++ blanks n)
      ∙ ap (λ (z : List ℕ). h ++ z)
      (ands_aged m n a (bytes_right h (y ++ blanks n) (subst Bytes q b)) (tail_long h h (x ++ blanks m) (y ++ blanks n) refl (sym (ap length p) ∙ l ∙ ap length q)))
      ∙ sym q
