-- What a bank that was read came from, its header and its walk (`came`); and so it is well-formed (`read_fine`, by `head_fine` and `walk_fine`).
use Prim.Native.Nat.{ℕ, ◌+◌, ◌-◌, ◌≤◌, ◌<◌}
use mathlib.Core.Path.{◌≡◌, refl, sym, ap, ◌∙◌, subst}
use mathlib.Core.List.{List}
use mathlib.Core.Bool.{Bool, true, false, cond}
use native.Mathlib.Omega.{arith}
use lib.ListN.{length, take, drop, length-take}
use Rattle.crc32.specs.Crc32.{Bytes}
use Rattle.buffers.specs.Bytes.{all_ff}
use Rattle.buffers.proofs.Laws.{clash, count_ff_le}
use Rattle.bank.specs.declared.header.StoreHeader.{StoreHeader}
use Rattle.bank.specs.declared.header.HeaderFault.{HeaderFault}
use Rattle.bank.specs.declared.header.HeaderFault.TheVariants.{Signature, Version, Size}
use Rattle.std.specs.Prelude.{Result, Ok, Err}
use Rattle.bank.specs.declared.partition.Stop.{Stop}
use Rattle.bank.specs.declared.partition.Stop.TheVariants.{Blank, Start, Length, End, Name, Crc}
use Rattle.bank.specs.Header.{header_of, read_header}
use Rattle.bank.specs.Record.{Record, sizes}
use Rattle.bank.specs.Bank.{Bank, empty, invalid, valid, bank_of}
use Rattle.bank.specs.Read.{walk_from, usable_at, spoils, slot_of, erased_slot, after_head, read_bank}
use Rattle.bank.specs.WellFormed.{FineHeader, FineRecords, FineBank}
use Rattle.bank.specs.Totals.{total}
use Rattle.bank.proofs.NumberLaws.{u32_lt}
use Rattle.bank.proofs.WalkLaws.{walk_at}
use Rattle.bank.proofs.ReadFine.{walk_fine}
use Rattle.bank.proofs.HeaderLaws.{headed}

-- the header and the walk that a bank came from
pub record Came (s : List ℕ) (b : Bank) : Type 0 where
  pub head : read_header s ≡ Ok b.header
  pub records : (walk_from s b.header.size 24).records ≡ b.records
  pub usable : usable_at (walk_from s b.header.size 24).stop s b.header.size (walk_from s b.header.size 24).at ≡ b.usable

by_stop : (t : Bool) (a b : Bank) → cond t invalid (valid a) ≡ valid b → a ≡ b
by_stop true a b e = clash cc
by_stop false a b e = cc

not_valid : (t : Bool) (b : Bank) → cond t empty invalid ≡ valid b → ⊥
not_valid true b e = clash cc
not_valid false b e = clash cc

pub came : (s : List ℕ) (b : Bank) → read_bank s ≡ valid b → Came s b
unfolding read_bank after_head erased_slot slot_of
came s b e = go (read_header s) refl e
  where
    with : (h : StoreHeader) → read_header s ≡ Ok h → bank_of h (walk_from s h.size 24).records
        (usable_at (walk_from s h.size 24).stop s h.size (walk_from s h.size 24).at) ≡ b → Came s b
    with h p q = subst (Came s) q (record { head = p; records = refl; usable = refl })

    go : (o : Result StoreHeader HeaderFault) → read_header s ≡ o → after_head s o ≡ valid b → Came s b
    go (Err Signature) p q = absurd (not_valid (all_ff s) b q)
    go (Err Version) p q = absurd (not_valid (all_ff s) b q)
    go (Err Size) p q = clash cc
    go (Ok h) p q = with h p (by_stop (spoils (walk_from s h.size 24).stop) _ b q)

pub came_total : (s : List ℕ) (b : Bank) → Came s b → total b ≡ (walk_from s b.header.size 24).at
unfolding total
came_total s b k = sym (walk_at s b.header.size 24 ∙ ap (λ (rs : List Record). 24 + sizes rs) k.records)

-- a header that was read is well-formed
pub head_fine : (s : List ℕ) (h : StoreHeader) → Bytes s → read_header s ≡ Ok h → FineHeader h
unfolding header_of
head_fine s h k e =
    let q = headed s h e in
    subst FineHeader (sym q.is)
    (record {
      size_low = q.size_low;
      size_high = q.size_high;
      generation_fits = u32_lt s 8 k;
      state_fits = k 12;
      flags_fit = k 13;
      system_fits = u32_lt s 16 k;
      common_fits = u32_lt s 20 k;
    })

-- usable lies within the records' end and the size
pub usable_within : (s : List ℕ) (size at : ℕ) (c : Stop) → ((c ≡ End → ⊥) → at + 36 < size) → 24 ≤ at → 24 ≤ size
    → (24 ≤ usable_at c s size at) × (usable_at c s size at ≤ size)
unfolding usable_at
usable_within s size at Blank f l m =
    let i : at + 36 < size = f (λ e. clash cc) in
    let n = size - (at + 36) in
    (omega arith, omega (arith, count_ff_le (take n (drop (at + 36) s)), length-take n (drop (at + 36) s)))
usable_within s size at Start f l m = let i : at + 36 < size = f (λ e. clash cc) in (l, omega arith)
usable_within s size at Length f l m = let i : at + 36 < size = f (λ e. clash cc) in (l, omega arith)
usable_within s size at End f l m = (m, omega arith)
usable_within s size at Name f l m = (m, omega arith)
usable_within s size at Crc f l m = (m, omega arith)

-- a bank that was read is well-formed, and its records end within the bytes
pub read_fine : (s : List ℕ) (b : Bank) → Bytes s → 24 ≤ length s → read_bank s ≡ valid b → FineBank b × (total b ≤ length s)
read_fine s b k l e =
    let q = came s b e in
    let h = b.header in
    let fh = head_fine s h k q.head in
    let w = walk_from s h.size 24 in
    let f = walk_fine s h.size k 24 l in
    let u = usable_within s h.size w.at w.stop f.inside f.low fh.size_low in (
      record {
        header_fine = fh;
        records_fine = subst FineRecords q.records f.fine;
        usable_low = subst (λ (i : ℕ). 24 ≤ i) q.usable u.0;
        usable_high = subst (λ (i : ℕ). i ≤ h.size) q.usable u.1;
      },
      subst (λ (i : ℕ). i ≤ length s) (sym (came_total s b q)) f.high,
    )
