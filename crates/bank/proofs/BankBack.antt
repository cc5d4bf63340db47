-- A bank that is written is read back, whatever bytes follow its size.
use Prim.Native.Nat.{ℕ, ◌+◌, ◌-◌, ◌≤◌, ◌<◌}
use mathlib.Core.Path.{◌≡◌, refl, sym, ap, ap₂, ◌∙◌, subst}
use mathlib.Core.List.{List, [], ◌∷◌, ◌++◌, append_assoc}
use mathlib.Core.Bool.{Bool, true, false, cond}
use native.Mathlib.Omega.{arith}
use lib.Dec.{ltb}
use lib.ListN.{take, drop, replicate, length-replicate, replicate-append-replicate, length}
use lib.Seq.{take_at, drop_at, drop-drop}
use borrow.Author.Tests.{ltb-true, ltb-false}
use Rattle.buffers.specs.Bytes.{all_blank, count_ff}
use Rattle.buffers.proofs.Laws.{all_blank_ff, count_ff_replicate}
use Rattle.bank.specs.declared.header.StoreHeader.{StoreHeader}
use Rattle.bank.specs.declared.partition.Stop.TheVariants.{Blank}
use Rattle.bank.specs.Header.{header_bytes}
use Rattle.bank.specs.Record.{Record, size_of, sizes, record_bytes, records_bytes}
use Rattle.bank.specs.Bank.{invalid, valid, bank_of, Bank, padded, bank_bytes}
use Rattle.bank.specs.Read.{got, halt, found, Walk, with_first, walk_from, usable_at, spoils, slot_of, after_head, read_bank}
use Rattle.bank.specs.WellFormed.{FineRecords, FineHeader}
use Rattle.bank.specs.Totals.{total}
use Rattle.bank.proofs.WalkLaws.{size_pos, found_blank, walk_end, walk_got, walk_halt}
use Rattle.bank.proofs.LengthLaws.{length_header, length_record, length_records, length_bank}
use Rattle.bank.proofs.HeaderLaws.{header_back}
use Rattle.bank.proofs.RecordBack.{record_back}
use Rattle.bank.proofs.PaddedLaws.{blanks, padded_more}

unfoldable pub prepend_all : List Record → Walk → Walk
prepend_all [] w = w
prepend_all (r ∷ rs) w = with_first r (prepend_all rs w)

-- records that are written from an offset on are read from there, whatever follows them
pub walk_records : (rs : List Record) (s rest : List ℕ) (size at : ℕ) → FineRecords rs → drop at s ≡ records_bytes rs ++ rest
    → at + sizes rs ≤ size
    → walk_from s size at ≡ prepend_all rs (walk_from s size (at + sizes rs))
unfolding records_bytes sizes prepend_all
walk_records [] s rest size at f e h = ap (walk_from s size) (omega arith)
walk_records (r ∷ rs) s rest size at f e h =
    let q : drop at s ≡ record_bytes r ++ (records_bytes rs ++ rest) = e ∙ append_assoc (record_bytes r) (records_bytes rs) rest in
    let g : found (drop at s) ≡ got r = rw q (record_back r (records_bytes rs ++ rest) f.0) in
    let d : drop (at + size_of r) s ≡ records_bytes rs ++ rest =
    sym (drop-drop (size_of r) at s) ∙ ap (drop (size_of r)) q
    ∙ drop_at (record_bytes r) (records_bytes rs ++ rest) (size_of r) (length_record r f.0.guid_long) in
    let k : at + size_of r + sizes rs ≡ at + (size_of r + sizes rs) = omega arith in
    walk_got s size at r (omega (arith, size_pos r)) g
    ∙ ap (with_first r)
    (walk_records rs s rest size (at + size_of r) f.1 d (omega arith) ∙ ap (λ (n : ℕ). prepend_all rs (walk_from s size n)) k)

-- the free bytes after them

parted : (n : ℕ) (rest : List ℕ) → replicate (36 + n) 255 ++ rest ≡ replicate 36 255 ++ (replicate n 255 ++ rest)
parted n rest =
    ap (λ (x : List ℕ). x ++ rest) (sym (replicate-append-replicate 36 n 255)) ∙ append_assoc (replicate 36 255) (replicate n 255) rest

free_found : (n : ℕ) (rest : List ℕ) → found (replicate (36 + n) 255 ++ rest) ≡ halt Blank
free_found n rest =
    let a : take 36 (replicate (36 + n) 255 ++ rest) ≡ replicate 36 255 =
    rw parted (take_at (replicate 36 255) (replicate n 255 ++ rest) 36 refl) in
    found_blank (replicate (36 + n) 255 ++ rest) (ap all_blank a ∙ all_blank_ff 36)

free_count : (n : ℕ) (rest : List ℕ) → count_ff (take n (drop 36 (replicate (36 + n) 255 ++ rest))) ≡ n
free_count n rest =
    ap (λ (l : List ℕ). count_ff (take n l)) (ap (drop 36) (parted n rest) ∙ drop_at (replicate 36 255) (replicate n 255 ++ rest) 36 refl)
    ∙ ap count_ff (take_at (replicate n 255) rest n (length-replicate n 255))
    ∙ count_ff_replicate n

-- where the bytes from an offset up to size are free, reading stops there and size is usable
pub record Free (s : List ℕ) (size at : ℕ) (w : Walk) : Type 0 where
  pub none : w.records ≡ []
  pub usable : usable_at w.stop s size w.at ≡ size
  pub reads : spoils w.stop ≡ false

pub walk_free : (s rest : List ℕ) (size at : ℕ) → at ≤ size → drop at s ≡ replicate (size - at) 255 ++ rest
    → Free s size at (walk_from s size at)
unfolding usable_at
walk_free s rest size at h e = go (ltb (at + 36) size) refl
  where
    go : (t : Bool) → ltb (at + 36) size ≡ t → Free s size at (walk_from s size at)
    go false t =
        subst (Free s size at) (sym (walk_end s size at (ltb-false (at + 36) size t)))
        (record { none = refl; usable = refl; reads = refl })
    go true t =
        let m : at + 36 < size = ltb-true (at + 36) size t in
        let n = size - (at + 36) in
        let k : size - at ≡ 36 + n = omega arith in
        let q : drop at s ≡ replicate (36 + n) 255 ++ rest = e ∙ ap (λ (i : ℕ). replicate i 255 ++ rest) k in
        let c : count_ff (take n (drop (at + 36) s)) ≡ n =
        ap (λ (l : List ℕ). count_ff (take n l)) (sym (drop-drop 36 at s) ∙ ap (drop 36) q) ∙ free_count n rest in
        subst (Free s size at) (sym (walk_halt s size at Blank m (ap found q ∙ free_found n rest)))
        (record { none = refl; usable = omega (arith, c); reads = refl })

pub prepend_all_lem : (rs : List Record) (w : Walk) → w.records ≡ [] → prepend_all rs w ≡ record { records = rs; stop = w.stop; at = w.at }
unfolding prepend_all
prepend_all_lem [] w e = λ i. record { records = e i; stop = w.stop; at = w.at }
prepend_all_lem (r ∷ rs) w e = ap (with_first r) (prepend_all_lem rs w e)

-- the bank comes back whole: header, records in order with all fields, usable = size
pub bank_back : (h : StoreHeader) (rs : List Record) (rest : List ℕ) → FineHeader h → FineRecords rs → 24 + sizes rs ≤ h.size
    → read_bank (header_bytes h ++ (records_bytes rs ++ (replicate (h.size - (24 + sizes rs)) 255 ++ rest))) ≡ valid (bank_of h rs h.size)
unfolding read_bank after_head slot_of
bank_back h rs rest fh fr le =
    let free : List ℕ = replicate (h.size - (24 + sizes rs)) 255 in
    let s : List ℕ = header_bytes h ++ (records_bytes rs ++ (free ++ rest)) in
    let d : drop 24 s ≡ records_bytes rs ++ (free ++ rest) =
    drop_at (header_bytes h) (records_bytes rs ++ (free ++ rest)) 24 (length_header h) in
    let v : drop (24 + sizes rs) s ≡ free ++ rest =
    sym (drop-drop (sizes rs) 24 s) ∙ ap (drop (sizes rs)) d ∙ drop_at (records_bytes rs) (free ++ rest) (sizes rs) (length_records rs fr) in
    let w = walk_from s h.size (24 + sizes rs) in
    let k = walk_free s rest h.size (24 + sizes rs) le v in
    let z : walk_from s h.size 24 ≡ record { records = rs; stop = w.stop; at = w.at } =
    walk_records rs s (free ++ rest) h.size 24 fr d le ∙ prepend_all_lem rs w k.none in
    ap (after_head s) (header_back h (records_bytes rs ++ (free ++ rest)) fh) ∙ ap (slot_of s h) z
    ∙ ap₂ (λ (t : Bool) (u : ℕ). cond t invalid (valid (bank_of h rs u))) k.reads k.usable

-- the round trip, of a bank that fits its size
pub padded_back : (k : Bank) (n : ℕ) → FineHeader k.header → FineRecords k.records → total k ≤ k.header.size → k.header.size ≤ n
    → read_bank (padded n (bank_bytes k)) ≡ valid (bank_of k.header k.records k.header.size)
unfolding total bank_bytes padded
padded_back k n fh fr le h =
    let size = k.header.size in
    let x : List ℕ = header_bytes k.header ++ records_bytes k.records in
    let l : length x ≡ 24 + sizes k.records = length_bank k fr in
    let e : padded n x ≡ header_bytes k.header ++ (records_bytes k.records ++ (blanks (size - (24 + sizes k.records)) ++ blanks (n - size))) =
    padded_more x size n (omega (arith, l)) h
    ∙ append_assoc x (blanks (size - length x)) (blanks (n - size))
    ∙ append_assoc (header_bytes k.header) (records_bytes k.records) (blanks (size - length x) ++ blanks (n - size))
    ∙ ap (λ (i : ℕ). header_bytes k.header ++ (records_bytes k.records ++ (blanks (size - i) ++ blanks (n - size)))) l in
    ap read_bank e ∙ bank_back k.header k.records (blanks (n - size)) fh fr le
