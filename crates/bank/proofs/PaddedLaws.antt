-- Bytes padded with 0xFF to a length: up to a shorter one they are padded to that (`take_padded`), and behind it all is 0xFF (`drop_padded`); and a
-- bank's part as header, records and 0xFF (`part_bytes`).
use Prim.Native.Nat.{ℕ, ◌+◌, ◌-◌, ◌≤◌}
use mathlib.Core.Path.{◌≡◌, sym, ap, ◌∙◌}
use mathlib.Core.List.{List, ◌++◌, append_assoc}
use native.Mathlib.Omega.{arith}
use lib.ListN.{length, take, drop, replicate, length-replicate, replicate-append-replicate}
use lib.Seq.{take_at, drop_at}
use Rattle.bank.specs.Header.{header_bytes}
use Rattle.bank.specs.Record.{sizes, records_bytes}
use Rattle.bank.specs.Bank.{Bank, valid, padded, bank_bytes, part_of}
use Rattle.bank.specs.Totals.{total}
use Rattle.bank.specs.WellFormed.{FineRecords}
use Rattle.bank.proofs.LengthLaws.{length_bank, length_padded}

-- 0xFF, n times
abbrev pub blanks : ℕ → List ℕ
blanks n = replicate n 255

pub length_blanks : (n : ℕ) → length (blanks n) ≡ n
length_blanks n = length-replicate n 255

blanks_add : (m n : ℕ) → blanks m ++ blanks n ≡ blanks (m + n)
blanks_add m n = replicate-append-replicate m n 255

-- padded to n, x is padded to m and then to n
module _ (x : List ℕ) (m n : ℕ) (h : length x ≤ m) (k : m ≤ n) where
  pub padded_more : padded n x ≡ padded m x ++ blanks (n - m)
  unfolding padded
  padded_more =
      let e : n - length x ≡ m - length x + (n - m) = omega arith in
      ap (λ (i : ℕ). x ++ blanks i) e
      ∙ ap (λ (l : List ℕ). x ++ l) (sym (blanks_add (m - length x) (n - m)))
      ∙ sym (append_assoc x (blanks (m - length x)) (blanks (n - m)))

  pub take_padded : take m (padded n x) ≡ padded m x
  take_padded = ap (take m) padded_more ∙ take_at (padded m x) (blanks (n - m)) m (length_padded m x h)

  pub drop_padded : drop m (padded n x) ≡ blanks (n - m)
  drop_padded = ap (drop m) padded_more ∙ drop_at (padded m x) (blanks (n - m)) m (length_padded m x h)

-- a Valid slot's part: header, records, 0xFF
pub part_bytes : (n : ℕ) (k : Bank) → FineRecords k.records
    → part_of n (valid k) ≡ header_bytes k.header ++ (records_bytes k.records ++ blanks (n - (24 + sizes k.records)))
unfolding part_of padded bank_bytes total
part_bytes n k f =
    ap (λ (i : ℕ). (header_bytes k.header ++ records_bytes k.records) ++ blanks (n - i)) (length_bank k f)
    ∙ append_assoc (header_bytes k.header) (records_bytes k.records) (blanks (n - (24 + sizes k.records)))
