-- What stands at an offset of a bank: whether reading stops there, and the size of a record. Its cases are `stop_of`, `fault_of` and `record_of_lem`; the others are
-- what `ends` and `record_size` find.
use Prim.Native.Nat.{ℕ, ◌+◌, ◌≤◌, ◌<◌}
use mathlib.Core.Path.{◌≡◌, refl, sym, ap, ◌∙◌}
use mathlib.Core.List.{List, [], ◌∷◌}
use mathlib.Core.Bool.{Bool, true, false, not, cond}
use native.Mathlib.Omega.{arith}
use lib.Dec.{ltb, eqb}
use lib.ListN.{length, take, drop}
use borrow.Author.Tests.{eq-eqb, le-leb, ltb-true, ltb-false, eqb-true, eqb-false}
use Rattle.crc32.specs.Crc32.{crc32_of, byte_steps}
use Rattle.buffers.specs.Bytes.{all_blank}
use Rattle.buffers.proofs.Laws.{clash}
use Rattle.bank.specs.declared.partition.Stop.{Stop}
use Rattle.bank.specs.declared.partition.Stop.TheVariants.{Name, Crc}
use Rattle.std.specs.Prelude.{Option, Some, None, Result, Ok, Err}
use Rattle.bank.specs.declared.variable.VarHeader.{VarHeader}
use Rattle.bank.specs.Number.{u16_at, u32_at}
use Rattle.bank.specs.Record.{Record, record_of, size_of, name_at, value_at, size_at}
use Rattle.bank.specs.Read.{Item, got, halt, found, spoils}
use Rattle.bank.specs.Answer.{parsed_header, step_of}
use Rattle.bank.proofs.WalkLaws.{not_blank, found_blank, found_start, found_length}
use Rattle.bank.proofs.FieldLaws.{name_is, value_is}
use Rattle.settings.specs.Same.{ends_at, size_here}

-- reading stops, and the bank is not Invalid for it; it is; a record
pub stop_of : (o : Item) → ends_at o ≡ true → (c : Stop) × (o ≡ halt c) × (spoils c ≡ false)
unfolding ends_at
stop_of (got r) e = clash cc
stop_of (halt c) e = (c, refl, go (spoils c) e)
  where
    go : (b : Bool) → not b ≡ true → b ≡ false
    go true q = clash cc
    go false q = refl

pub fault_of : (o : Item) → ends_at o ≡ false → None ≡ size_here o → (c : Stop) × (o ≡ halt c) × (spoils c ≡ true)
unfolding ends_at size_here
fault_of (got r) e z = clash cc
fault_of (halt c) e z = (c, refl, go (spoils c) e)
  where
    go : (b : Bool) → not b ≡ false → b ≡ true
    go true q = refl
    go false q = clash cc

pub record_of_lem : (o : Item) (n : ℕ) → Some n ≡ size_here o → (r : Record) × (o ≡ got r) × (size_of r ≡ n)
unfolding size_here
record_of_lem (got r) n e = (r, refl, cc)
record_of_lem (halt c) n e = clash cc

-- what remains of a bank
module _ (s : List ℕ) where
  pub ends_start : (u16_at s 0 ≡ 0x55AA → ⊥) → true ≡ ends_at (found s)
  unfolding ends_at
  ends_start n = go (all_blank (take 36 s)) refl
    where
      go : (b : Bool) → all_blank (take 36 s) ≡ b → true ≡ ends_at (found s)
      go true e = sym (ap ends_at (found_blank s e))
      go false e = sym (ap ends_at (found_start s e n))

  module _ (b : u16_at s 0 ≡ 0x55AA) where
    goes_on : size_at s ≤ length s → ends_at (found s) ≡ false
    unfolding found ends_at
    goes_on d =
        simp (not_blank s b, eq-eqb _ _ b, le-leb _ _ d)
        (go (eqb (name_at s) 0) (eqb (u32_at s 32) (crc32_of (take (value_at s) (drop (36 + name_at s) s)))))
      where
        go : (x y : Bool) → ends_at (cond x (halt Name) (cond y (got (record_of s)) (halt Crc))) ≡ false
        go true y = refl
        go false true = refl
        go false false = refl

    pub ends_length : (end : ℕ) → end ≡ size_at s → ltb (length s) end ≡ ends_at (found s)
    unfolding ends_at
    ends_length end e = go (ltb (length s) end) refl
      where
        go : (t : Bool) → ltb (length s) end ≡ t → t ≡ ends_at (found s)
        go true q = let l : length s < end = ltb-true _ _ q in sym (ap ends_at (found_length s b (omega arith)))
        go false q = let l : end ≤ length s = ltb-false _ _ q in sym (goes_on (omega arith))

  -- where it does not stop, there is a start number, and lengths that fit
  pub record_begins : ends_at (found s) ≡ false → (u16_at s 0 ≡ 0x55AA) × (size_at s ≤ length s)
  record_begins e = go (eqb (u16_at s 0) 0x55AA) refl
    where
      fits : (b : u16_at s 0 ≡ 0x55AA) (t : Bool) → ltb (length s) (size_at s) ≡ t → size_at s ≤ length s
      fits b true q = let z : true ≡ false = sym q ∙ ends_length b (size_at s) refl ∙ e in clash cc
      fits b false q = ltb-false _ _ q

      go : (t : Bool) → eqb (u16_at s 0) 0x55AA ≡ t → (u16_at s 0 ≡ 0x55AA) × (size_at s ≤ length s)
      go true q = let b : u16_at s 0 ≡ 0x55AA = eqb-true _ _ q in (b, fits b (ltb (length s) (size_at s)) refl)
      go false q = let z : true ≡ false = ends_start (eqb-false _ _ q) ∙ e in clash cc

-- the record's end, as the code has it
module _ (s : List ℕ) (long : 36 ≤ length s) (h : VarHeader) (p : h ≡ parsed_header s) (end : ℕ) (q : end ≡ 36 + h.name_size + h.data_size) where
  pub size_at_lem : end ≡ size_at s
  size_at_lem = omega (arith, name_is s long h p, value_is s long h p)

  pub end_fits : ends_at (found s) ≡ false → end ≤ length s
  end_fits e = omega (arith, size_at_lem, (record_begins s e).1)

-- by the step that the reader of a bank would take
abbrev size_by : Result ℕ Stop → Option ℕ
size_by (Ok n) = Some n
size_by (Err c) = None

pub size_by_lem : (o : Item) (t : Result ℕ Stop) → t ≡ step_of o → size_by t ≡ size_here o
unfolding step_of size_here
size_by_lem o t e = ap size_by e ∙ go o
  where
    go : (o : Item) → size_by (step_of o) ≡ size_here o
    go (got r) = refl
    go (halt c) = refl

pub empty_checksum : (s : List ℕ) → length s ≡ 0 → 0 ≡ crc32_of s
unfolding crc32_of byte_steps
empty_checksum [] e = refl
empty_checksum (b ∷ s) e = absurd (omega arith)
