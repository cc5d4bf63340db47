-- Opening: what the code reads off a slot that was read, and the loop that loads the banks (`Loaded` is what stands after i of them).
use Prim.Native.Nat.{ℕ, suc, ◌+◌, ◌-◌, ◌*◌, ◌≤◌, ◌<◌}
use mathlib.Core.Path.{◌≡◌, refl, sym, ap, ap₂, ◌∙◌, subst}
use mathlib.Core.List.{List, [], ◌∷◌, ◌++◌, append_assoc, append-nil, map, map-append}
use mathlib.Core.Bool.{true, false, cond}
use Rattle.std.specs.Prelude.{Some}
use native.Mathlib.Nat.{zero-mul}
use native.Mathlib.Numerals.{add-one}
use native.Mathlib.Omega.{arith}
use lib.Dec.{ltb}
use lib.ListN.{length, get_or, set, take, drop, replicate, length-append, length-drop, length-map, drop_of_length-le}
use lib.Seq.{drop-drop, take_at, set_at, append_snoc, drop-append-add, take_all, take-suc, drop-cons, length-take-le}
use borrow.Author.Tests.{le-leb}
use borrow.Rule.Slice.PartMut.{put_mid, Post-is}
use Rattle.crc32.specs.Crc32.{Bytes}
use Rattle.buffers.proofs.Laws.{clash}
use Rattle.tally.specs.declared.Tally.{Tally}
use Rattle.tally.specs.Tally.{no_tally}
use Rattle.bank.specs.declared.partition.Partition.{Partition}
use Rattle.bank.specs.declared.partition.Slot.{Slot as Parsed}
use Rattle.bank.specs.declared.partition.Slot.TheVariants as told
use Rattle.bank.specs.Bank.{Slot, empty, invalid, valid, bank_size, part_of}
use Rattle.bank.specs.Read.{read_bank}
use Rattle.bank.specs.Answer.{partition_of, answer, parsed, serialized_slot, serialized_part}
use Rattle.bank.proofs.PartitionLaws.{bank_size_lem}
use Rattle.book.specs.Book.{part_size, FineSlot}
use Rattle.book.specs.Opening.{active_from, is_valid, book_of}
use Rattle.book.proofs.BookLaws.{part_size_lem}
use Rattle.book.proofs.OpenFine.{bank_fine}
use Rattle.nvram.specs.declared.state.Kind.TheVariants.{Empty, Invalid, Valid}
use Rattle.nvram.specs.declared.state.Entry.{Entry}
use Rattle.nvram.specs.Part.{entry, entry_of}
use Rattle.nvram.specs.Layout.{lay_table, lay_state, lay_parts, lay_work}

-- a slot that the code was told
module _ (slot : Parsed) where
  module _ (p : Partition) (g : slot ≡ told.Valid p) where
    pub told_valid : (k : Slot) → slot ≡ answer k → (is_valid k ≡ true) × (entry_of k ≡ entry Valid p.total_used p.usable_size)
    unfolding answer entry_of partition_of
    told_valid empty e = clash cc
    told_valid invalid e = clash cc
    told_valid (valid b) e =
        let q : partition_of b ≡ p = cc in
        (refl, ap (λ (x : Partition). entry Valid x.total_used x.usable_size) q)

    pub active_valid : (i best active : ℕ) (k : Slot) (rest : List Slot) → slot ≡ answer k
        → active_from i best active (k ∷ rest)
        ≡ cond (ltb best p.header.generation) (active_from (suc i) p.header.generation i rest) (active_from (suc i) best active rest)
    unfolding answer active_from partition_of
    active_valid i best active empty rest e = clash cc
    active_valid i best active invalid rest e = clash cc
    active_valid i best active (valid b) rest e =
        let q : partition_of b ≡ p = cc in
        ap (λ (x : Partition). cond (ltb best x.header.generation) (active_from (suc i) x.header.generation i rest) (active_from (suc i) best active rest)) q

    pub cast_fits : (k : Slot) × (slot ≡ answer k) × FineSlot k → (p.total_used ≤ 131072) × (p.usable_size ≤ 65536)
    unfolding answer partition_of
    cast_fits (empty, e, f) = clash cc
    cast_fits (invalid, e, f) = clash cc
    cast_fits (valid b, e, f) =
        let q : partition_of b ≡ p = cc in
        let u = f.0.usable_high in
        let s = f.0.header_fine.size_high in
        subst (λ (x : Partition). (x.total_used ≤ 131072) × (x.usable_size ≤ 65536)) q (omega (arith, f.1, part_size_lem), omega arith)

  module _ (other : (p : Partition) → slot ≡ told.Valid p → ⊥) where
    pub told_other : (k : Slot) → slot ≡ answer k → is_valid k ≡ false
    unfolding answer
    told_other empty e = refl
    told_other invalid e = refl
    told_other (valid b) e = absurd (other _ e)

    pub active_other : (i best active : ℕ) (k : Slot) (rest : List Slot) → slot ≡ answer k → active_from i best active (k ∷ rest) ≡ active_from (suc i) best active rest
    unfolding answer active_from
    active_other i best active empty rest e = refl
    active_other i best active invalid rest e = refl
    active_other i best active (valid b) rest e = absurd (other _ e)

pub told_empty : (k : Slot) → answer k ≡ told.Empty → entry Empty 0 0 ≡ entry_of k
unfolding answer entry_of
told_empty empty e = refl
told_empty invalid e = clash cc
told_empty (valid b) e = clash cc

pub told_invalid : (k : Slot) → answer k ≡ told.Invalid → entry Invalid 0 0 ≡ entry_of k
unfolding answer entry_of
told_invalid empty e = clash cc
told_invalid invalid e = refl
told_invalid (valid b) e = clash cc

-- a bank's bytes in a part of the work area
module _ (s out : List ℕ) (long : length s ≡ 65536) (room : length out ≡ 131072) where
  enough : bank_size ≤ length s
  enough = omega (arith, bank_size_lem)

  space : bank_size ≤ length out
  space = omega (arith, bank_size_lem)

  whole : take bank_size s ≡ s
  whole = take_all bank_size s (omega (arith, bank_size_lem))

  pub serialized_slot_lem : serialized_slot s out ≡ Some (answer (read_bank s))
  unfolding serialized_slot parsed
  serialized_slot_lem = let h = enough in let k = space in simp (le-leb _ _ h, le-leb _ _ k, whole)

  pub serialized_part_lem : serialized_part s out ≡ part_of part_size (read_bank s)
  unfolding serialized_part
  serialized_part_lem =
      let h = enough in
      let k = space in
      let n : length out ≡ part_size = omega (arith, part_size_lem) in
      simp (le-leb _ _ h, le-leb _ _ k, whole) (ap (λ (m : ℕ). part_of m (read_bank s)) n)

pub read_fine : (s : List ℕ) → Bytes s → length s ≡ 65536 → FineSlot (read_bank s)
read_fine s b l =
    let e : take bank_size (drop (0 * bank_size) s) ≡ s =
    ap (λ (k : ℕ). take bank_size (drop k s)) (zero-mul bank_size) ∙ take_all bank_size s (omega (arith, bank_size_lem)) in
    subst (λ (x : List ℕ). FineSlot (read_bank x)) e (bank_fine s 0 b (omega arith))

-- a part that was lent and is back
pub part_back : (w x y : List ℕ) (i a e : ℕ) → a ≡ i * 131072 → e ≡ a + 131072 → x ≡ y
    → put_mid a (e - a) w x ≡ take (i * part_size) w ++ (y ++ drop ((i + 1) * part_size) w)
part_back w x y i a e p q r =
    let s : a ≡ i * part_size = p ∙ ap (λ (k : ℕ). i * k) (sym part_size_lem) in
    let t : e ≡ (i + 1) * part_size = q ∙ omega arith ∙ ap (λ (k : ℕ). (i + 1) * k) (sym part_size_lem) in
    ap₂ (λ (u v : List ℕ). take a w ++ (u ++ v)) r (Post-is a e w (omega arith) ∙ ap (λ (k : ℕ). drop k w) t)
    ∙ ap (λ (k : ℕ). take k w ++ (y ++ drop ((i + 1) * part_size) w)) s

table_more : (ss : List Slot) (k : Slot) (i : ℕ) → length ss ≡ i → i < 16 → set (lay_table ss) i (entry_of k) ≡ lay_table (ss ++ (k ∷ []))
unfolding lay_table
table_more ss k i e h =
    let none = entry Empty 0 0 in
    let m : 16 - length ss ≡ suc (16 - (i + 1)) = omega arith in
    let j : 16 - length (ss ++ (k ∷ [])) ≡ 16 - (i + 1) = omega (arith, length-append ss (k ∷ [])) in
    let r = replicate (16 - (i + 1)) none in
    ap (λ (q : ℕ). set (map entry_of ss ++ replicate q none) i (entry_of k)) m
    ∙ set_at (map entry_of ss) none r (entry_of k) i (length-map ss entry_of ∙ e)
    ∙ sym (append_snoc (map entry_of ss) (entry_of k) r)
    ∙ ap₂ (λ (l q : List Entry). l ++ q) (sym (map-append entry_of ss (k ∷ []))) (ap (λ (q : ℕ). replicate q none) (sym j))

parts_more : (ss : List Slot) (k : Slot) → lay_parts (ss ++ (k ∷ [])) ≡ lay_parts ss ++ part_of part_size k
unfolding lay_parts
parts_more [] k = append-nil (part_of part_size k)
parts_more (s ∷ ss) k =
    ap (λ (l : List ℕ). part_of part_size s ++ l) (parts_more ss k) ∙ sym (append_assoc (part_of part_size s) (lay_parts ss) (part_of part_size k))

-- what stands after i of the slots: their entries and parts, and which bank is active as far as those behind say
pub record Loaded (ss : List Slot) (before : List ℕ) (i : ℕ) (work : List ℕ) (entries : List Entry) (best active : ℕ) : Type 0 where
  pub within : i ≤ length ss
  pub kept : length work ≡ length before
  pub table : entries ≡ lay_table (take i ss)
  pub parts : work ≡ lay_parts (take i ss) ++ drop (i * part_size) before
  pub left : active_from 0 0 0 ss ≡ active_from i best active (drop i ss)

module _ (ss : List Slot) (w : List ℕ) (entries : List Entry) where
  pub load_none : entries ≡ replicate 16 (entry Empty 0 0) → Loaded ss w 0 w entries 0 0
  unfolding lay_table lay_parts
  load_none e = record { within = omega arith; kept = refl; table = e; parts = ap (λ (k : ℕ). drop k w) (sym (zero-mul part_size)); left = refl }

module _ (ss : List Slot) (before : List ℕ) (i : ℕ) (work : List ℕ) (entries : List Entry) (best active : ℕ) (l : Loaded ss before i work entries best active) where
  module _ (work' : List ℕ) (e : Entry) (best' active' : ℕ) (d k : Slot) (small : length ss ≤ 16) (here : i < length ss)
      (room : length ss * 131072 ≤ length before)
      (is : get_or ss i d ≡ k)
      (kept : length work' ≡ length work)
      (part : work' ≡ take (i * part_size) work ++ (part_of part_size k ++ drop ((i + 1) * part_size) work))
      (filled : e ≡ entry_of k)
      (takes : (rest : List Slot) → active_from i best active (k ∷ rest) ≡ active_from (suc i) best' active' rest) where
    abbrev so_far : List Slot
    so_far = take i ss

    so_long : length so_far ≡ i
    so_long = length-take-le i ss (omega arith)

    more : take (i + 1) ss ≡ so_far ++ (k ∷ [])
    more = ap (λ (j : ℕ). take j ss) (add-one i) ∙ take-suc ss i d here ∙ ap (λ (x : Slot). so_far ++ (x ∷ [])) is

    start : i * part_size ≡ i * 131072
    start = ap (λ (k : ℕ). i * k) part_size_lem

    front : length (lay_parts so_far) ≡ i * part_size
    front =
        let q : length work ≡ length (lay_parts so_far) + length (drop (i * part_size) before) =
        ap length l.parts ∙ length-append (lay_parts so_far) (drop (i * part_size) before) in
        omega (arith, q, start, l.kept, length-drop (i * part_size) before)

    behind : drop ((i + 1) * part_size) work ≡ drop ((i + 1) * part_size) before
    behind =
        let next : (i + 1) * part_size ≡ i * part_size + part_size = omega arith in
        ap₂ drop (next ∙ ap (λ (k : ℕ). k + part_size) (sym front)) l.parts
        ∙ drop-append-add (lay_parts so_far) (drop (i * part_size) before) part_size
        ∙ drop-drop part_size (i * part_size) before
        ∙ ap (λ (k : ℕ). drop k before) (sym next)

    pub load_more : Loaded ss before (i + 1) work' (set entries i e) best' active'
    load_more =
        record {
          within = omega arith;
          kept = kept ∙ l.kept;
          table =
              ap₂ (λ (t : List Entry) (x : Entry). set t i x) l.table filled
              ∙ table_more so_far k i so_long (omega arith)
              ∙ ap lay_table (sym more);
          parts =
              part
              ∙ ap₂ (λ (x y : List ℕ). x ++ (part_of part_size k ++ y))
              (ap (take (i * part_size)) l.parts ∙ take_at (lay_parts so_far) (drop (i * part_size) before) (i * part_size) front) behind
              ∙ sym (append_assoc (lay_parts so_far) (part_of part_size k) (drop ((i + 1) * part_size) before))
              ∙ ap (λ (x : List ℕ). x ++ drop ((i + 1) * part_size) before) (sym (ap lay_parts more ∙ parts_more so_far k));
          left =
              l.left ∙ ap (active_from i best active) (drop-cons ss i d here ∙ ap (λ (x : Slot). x ∷ drop (suc i) ss) is) ∙ takes (drop (suc i) ss)
              ∙ ap (λ (j : ℕ). active_from j best' active' (drop j ss)) (sym (add-one i));
        }

  module _ (n : ℕ) (long : n ≡ length ss) (done : n ≤ i) where
    all : take i ss ≡ ss
    all = take_all i ss (omega arith)

    pub load_state : (tally : Tally) → tally ≡ no_tally → record { n = n; active = active; tally = tally; banks = entries } ≡ lay_state (book_of ss n) no_tally
    unfolding active_from
    load_state tally e =
        let a : active_from 0 0 0 ss ≡ active = l.left ∙ ap (active_from i best active) (drop_of_length-le ss {i = i} (omega arith)) in
        let t : entries ≡ lay_table ss = l.table ∙ ap lay_table all in
        λ j. record { n = n; active = sym a j; tally = e j; banks = t j }

    pub load_work : work ≡ lay_work (book_of ss n) before
    unfolding lay_work
    load_work =
        let e : i ≡ n = omega (arith, l.within) in
        l.parts ∙ ap₂ (λ (x : List Slot) (k : ℕ). lay_parts x ++ drop (k * part_size) before) all e
