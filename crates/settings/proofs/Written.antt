-- Yes, if and only if both banks are Valid and would be written with equal bytes (`same_written`): what is written determines header and records
-- (`output_equal`), also where a total exceeds its size. And bytes that reading ignores do not count (`ignored_same`).
use Prim.Native.Nat.{ℕ, zero, suc, ◌-◌, ◌≤◌, ◌<◌}
use mathlib.Core.Path.{◌≡◌, refl, sym, ap, ap₂, ◌∙◌}
use mathlib.Core.List.{List, [], ◌∷◌, ◌++◌, append_assoc}
use mathlib.Core.Bool.{Bool, true, false, ◌&&◌, cond}
use mathlib.Core.Logic.{◌↔◌}
use native.Mathlib.Omega.{arith}
use lib.Dec.{eqb}
use lib.ListN.{length, get_or, take, drop}
use lib.Seq.{drop_at}
use borrow.Author.Tests.{eqb-true}
use Rattle.crc32.specs.Crc32.{Bytes}
use Rattle.buffers.specs.Bytes.{all_blank}
use Rattle.buffers.proofs.Laws.{clash, and_both}
use Rattle.bank.specs.declared.header.StoreHeader.{StoreHeader}
use Rattle.std.specs.Prelude.{Ok, Err}
use Rattle.refusal.specs.declared.Refusal.TheVariants.{BankLength}
use Rattle.bank.specs.declared.partition.Stop.TheVariants.{Blank}
use Rattle.bank.specs.Header.{header_bytes, read_header}
use Rattle.bank.specs.Record.{Record, size_of, record_bytes, records_bytes}
use Rattle.bank.specs.Bank.{Bank, valid, bank_size, padded, bank_bytes, output}
use Rattle.bank.specs.Read.{got, halt, found, read_bank}
use Rattle.bank.specs.Totals.{total}
use Rattle.bank.specs.WellFormed.{FineRecord, FineRecords, FineBank}
use Rattle.bank.proofs.WalkLaws.{found_blank}
use Rattle.bank.proofs.LengthLaws.{length_header, length_record}
use Rattle.bank.proofs.PaddedLaws.{blanks}
use Rattle.bank.proofs.HeaderLaws.{header_back}
use Rattle.bank.proofs.RecordBack.{record_back}
use Rattle.bank.proofs.ReadBank.{read_fine}
use Rattle.bank.proofs.PartitionLaws.{bank_size_lem}
use Rattle.bank.proofs.IgnoreLaws.{Ignored, bank_same}
use Rattle.settings.specs.Same.{same_settings, compared, WrittenAlike}
use Rattle.settings.proofs.Equal.{EqualBanks, yes_equal, equal_yes}
use Rattle.settings.proofs.SideBySide.{compared_banks}

-- what is written determines the records

blanks_blank : (n m : ℕ) → all_blank (take n (blanks m)) ≡ true
unfolding all_blank
blanks_blank zero m = refl
blanks_blank (suc n) zero = refl
blanks_blank (suc n) (suc m) = blanks_blank n m

not_blanks : (q : Record) (m : ℕ) (rest : List ℕ) → FineRecord q → blanks m ≡ record_bytes q ++ rest → ⊥
not_blanks q m rest f e =
    let a : halt Blank ≡ got q = sym (found_blank (blanks m) (blanks_blank 36 m)) ∙ ap found e ∙ record_back q rest f in
    clash cc

pub records_equal : (rs qs : List Record) (m n : ℕ) → FineRecords rs → FineRecords qs
    → records_bytes rs ++ blanks m ≡ records_bytes qs ++ blanks n
    → rs ≡ qs
unfolding records_bytes
records_equal [] [] m n fr fq e = refl
records_equal [] (q ∷ qs) m n fr fq e =
    absurd (not_blanks q m (records_bytes qs ++ blanks n) fq.0 (e ∙ append_assoc (record_bytes q) (records_bytes qs) (blanks n)))
records_equal (r ∷ rs) [] m n fr fq e =
    absurd (not_blanks r n (records_bytes rs ++ blanks m) fr.0 (sym e ∙ append_assoc (record_bytes r) (records_bytes rs) (blanks m)))
records_equal (r ∷ rs) (q ∷ qs) m n fr fq e =
    let x = records_bytes rs ++ blanks m in
    let y = records_bytes qs ++ blanks n in
    let p : record_bytes r ++ x ≡ record_bytes q ++ y =
    sym (append_assoc (record_bytes r) (records_bytes rs) (blanks m)) ∙ e ∙ append_assoc (record_bytes q) (records_bytes qs) (blanks n) in
    let g : got r ≡ got q = sym (record_back r x fr.0) ∙ ap found p ∙ record_back q y fq.0 in
    let i : r ≡ q = cc in
    let d : x ≡ y =
    sym (drop_at (record_bytes r) x (size_of r) (length_record r fr.0.guid_long)) ∙ ap (drop (size_of r)) p
    ∙ drop_at (record_bytes q) y (size_of r) (length_record q fq.0.guid_long ∙ ap size_of (sym i)) in
    ap₂ (λ (z : Record) (zs : List Record). z ∷ zs) i (records_equal rs qs m n fr.1 fq.1 d)

-- and the header: size need not have room for the records

abbrev free : Bank → ℕ
free k = k.header.size - length (bank_bytes k)

abbrev behind : Bank → List ℕ
behind k = records_bytes k.records ++ blanks (free k)

output_is : (k : Bank) → output k ≡ header_bytes k.header ++ behind k
unfolding output padded bank_bytes
output_is k = append_assoc (header_bytes k.header) (records_bytes k.records) (blanks (free k))

pub output_equal : (b c : Bank) → FineBank b → FineBank c → output b ≡ output c → EqualBanks b c
output_equal b c fb fc e =
    let p : header_bytes b.header ++ behind b ≡ header_bytes c.header ++ behind c = sym (output_is b) ∙ e ∙ output_is c in
    let g : Ok b.header ≡ Ok c.header =
    sym (header_back b.header (behind b) fb.header_fine) ∙ ap read_header p ∙ header_back c.header (behind c) fc.header_fine in
    let d : behind b ≡ behind c =
    sym (drop_at (header_bytes b.header) (behind b) 24 (length_header b.header)) ∙ ap (drop 24) p
    ∙ drop_at (header_bytes c.header) (behind c) 24 (length_header c.header) in
    record { header = cc; records = records_equal b.records c.records (free b) (free c) fb.records_fine fc.records_fine d }

pub equal_output : (b c : Bank) → EqualBanks b c → output b ≡ output c
unfolding output bank_bytes
equal_output b c q =
    ap₂ (λ (h : StoreHeader) (rs : List Record). padded h.size (header_bytes h ++ records_bytes rs)) q.header q.records

-- banks of 65,536 bytes that are read so
module _ (s t : List ℕ) (b c : Bank) (ls : length s ≡ bank_size) (lt : length t ≡ bank_size) (p : read_bank s ≡ valid b) (q : read_bank t ≡ valid c) where
  equal_same : EqualBanks b c → compared s t ≡ Ok true
  equal_same e =
      compared_banks s t ls lt ∙ ap Ok (ap₂ same_settings p q ∙ equal_yes b c e)

  written_same : Bytes s → Bytes t → output b ≡ output c → compared s t ≡ Ok true
  written_same ks kt e =
      let fb = (read_fine s b ks (omega (arith, bank_size_lem)) p).0 in
      let fc = (read_fine t c kt (omega (arith, bank_size_lem)) q).0 in
      equal_same (output_equal b c fb fc e)

-- other reserved and closing bytes, and other bytes behind size and records, are the same settings
pub ignored_same : (s t : List ℕ) (b : Bank) (n : ℕ) → length s ≡ bank_size → length t ≡ bank_size → read_bank s ≡ valid b
    → b.header.size ≤ n
    → total b ≤ n
    → ((i : ℕ) → i < n → (i ≡ 15 → ⊥) → (Ignored 24 b.records i → ⊥) → get_or t i 0 ≡ get_or s i 0)
    → compared s t ≡ Ok true
ignored_same s t b n ls lt p reach ends same =
    equal_same s t b b ls lt p (bank_same s t b n (lt ∙ sym ls) p reach ends same) (record { header = refl; records = refl })

-- request N1: yes, if and only if both are Valid and would be written with equal bytes
module _ (s t : List ℕ) (ks : Bytes s) (kt : Bytes t) where
  yes_written : compared s t ≡ Ok true → WrittenAlike s t
  unfolding compared
  yes_written e = go (eqb (length s) bank_size && eqb (length t) bank_size) refl e
    where
      go : (b : Bool) → (eqb (length s) bank_size && eqb (length t) bank_size) ≡ b
          → cond b (Ok (same_settings (read_bank s) (read_bank t))) (Err BankLength) ≡ Ok true
          → WrittenAlike s t
      go false q z = clash cc
      go true q z =
          let long = and_both (eqb (length s) bank_size) (eqb (length t) bank_size) q in
          let yes : same_settings (read_bank s) (read_bank t) ≡ true = cc in
          let y = yes_equal (read_bank s) (read_bank t) yes in
          record {
            one = y.one;
            other = y.other;
            one_long = eqb-true _ _ long.0;
            other_long = eqb-true _ _ long.1;
            one_reads = y.one_is;
            other_reads = y.other_is;
            written = equal_output y.one y.other y.equal;
          }

  written_yes : WrittenAlike s t → compared s t ≡ Ok true
  written_yes w = written_same s t w.one w.other w.one_long w.other_long w.one_reads w.other_reads ks kt w.written

  pub same_written : (compared s t ≡ Ok true) ↔ WrittenAlike s t
  same_written = (yes_written, written_yes)
