-- What was read: an Empty bank is all 0xFF, and a generation is the number at bytes 8 to 11.
use Prim.Native.Nat.{ℕ, ◌<◌}
use mathlib.Core.Path.{◌≡◌, refl, ap}
use mathlib.Core.Bool.{Bool, true, false, cond}
use mathlib.Core.List.{List, ◌++◌}
use lib.ListN.{length}
use Rattle.buffers.specs.Bytes.{all_ff}
use Rattle.buffers.proofs.Laws.{clash, all_ff_is}
use Rattle.bank.specs.declared.header.StoreHeader.{StoreHeader}
use Rattle.bank.specs.declared.header.HeaderFault.{HeaderFault}
use Rattle.bank.specs.declared.header.HeaderFault.TheVariants.{Signature, Version, Size}
use Rattle.std.specs.Prelude.{Result, Ok, Err}
use Rattle.bank.specs.Number.{u32_at, le32}
use Rattle.bank.specs.Header.{header_bytes, header_of, read_header}
use Rattle.bank.specs.Bank.{Bank, empty, invalid, valid}
use Rattle.bank.specs.Read.{spoils, slot_of, erased_slot, after_head, walk_from, read_bank}
use Rattle.bank.proofs.NumberLaws.{u32_sum}
use Rattle.bank.proofs.ReadBank.{came}
use Rattle.bank.proofs.HeaderLaws.{headed}
use Rattle.bank.proofs.PaddedLaws.{blanks}

-- Empty

not_empty : (t : Bool) (k : Bank) → cond t invalid (valid k) ≡ empty → ⊥
not_empty true k e = clash cc
not_empty false k e = clash cc

erased_ff : (s : List ℕ) → erased_slot s ≡ empty → s ≡ blanks (length s)
unfolding erased_slot
erased_ff s e = go (all_ff s) refl e
  where
    go : (t : Bool) → all_ff s ≡ t → cond t empty invalid ≡ empty → s ≡ blanks (length s)
    go true q _ = all_ff_is s q
    go false _ q = clash cc

pub empty_ff : (s : List ℕ) → read_bank s ≡ empty → s ≡ blanks (length s)
unfolding read_bank after_head slot_of
empty_ff s e = go (read_header s) e
  where
    go : (o : Result StoreHeader HeaderFault) → after_head s o ≡ empty → s ≡ blanks (length s)
    go (Ok h) q = absurd (not_empty (spoils (walk_from s h.size 24).stop) _ q)
    go (Err Signature) q = erased_ff s q
    go (Err Version) q = erased_ff s q
    go (Err Size) q = clash cc

-- generations

pub generation_at : (s : List ℕ) (k : Bank) → read_bank s ≡ valid k → k.header.generation ≡ u32_at s 8
unfolding header_of
generation_at s k e = ap (λ (h : StoreHeader). h.generation) (headed s k.header (came s k e).head).is

pub generation_written : (h : StoreHeader) (rest : List ℕ) → h.generation < 4294967296 → u32_at (header_bytes h ++ rest) 8 ≡ h.generation
unfolding header_bytes u32_at le32
generation_written h rest l = u32_sum h.generation l
