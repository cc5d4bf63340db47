-- The whole image, slot by slot.
use Prim.Native.Nat.{ℕ, zero, suc, ◌+◌, ◌-◌, ◌≤◌, ◌<◌}
use mathlib.Core.Path.{◌≡◌, refl, sym, ap, ap₂, ◌∙◌}
use mathlib.Core.List.{List, [], ◌∷◌, ◌++◌, append_assoc, append-nil}
use mathlib.Core.Bool.{Bool, true, false, ◌||◌}
use native.Mathlib.Omega.{arith}
use lib.Dec.{ltb}
use lib.ListN.{length, get_or, take, drop, replicate, length-append, length-map, get_or-map, drop_of_length-le}
use lib.Seq.{take_at, drop_at, take_all, drop-cons, drop-drop}
use borrow.Author.Tests.{lt-ltb, le-ltb, ltb-false}
use borrow.Rule.Slice.PartMut.{put_mid}
use Rattle.std.specs.Prelude.{Result, Ok, Err}
use Rattle.buffers.specs.Bytes.{onto}
use Rattle.buffers.proofs.Laws.{onto_fits, neither, clash}
use Rattle.bank.specs.declared.header.StoreHeader.{StoreHeader}
use Rattle.bank.specs.declared.header.HeaderFault.{HeaderFault}
use Rattle.bank.specs.Header.{read_header}
use Rattle.bank.specs.Record.{records_bytes, sizes}
use Rattle.bank.specs.Bank.{Slot, empty, invalid, valid, part_of}
use Rattle.bank.specs.Totals.{total}
use Rattle.bank.proofs.PaddedLaws.{part_bytes}
use Rattle.bank.proofs.HeaderLaws.{header_back}
use Rattle.book.specs.Book.{part_size, FineSlot, slot_size}
use Rattle.book.specs.Commit.{slot_output, image_output, overfull, any_overfull}
use Rattle.book.proofs.BookLaws.{fine_at}
use Rattle.nvram.specs.declared.state.Kind.TheVariants.{Valid}
use Rattle.nvram.specs.declared.state.Entry.{Entry}
use Rattle.nvram.specs.Part.{entry_of}
use Rattle.nvram.proofs.CallLaws.{empty_valid, invalid_valid}
use Rattle.nvram.proofs.PlaceLaws.{bank_out}
use Rattle.whole_image.specs.Slots.{Slots}

-- one slot's size

module _ (e : Entry) (p : List ℕ) where
  pub size_none : (e.kind ≡ Valid → ⊥) → (k : Slot) → e ≡ entry_of k → 0 ≡ slot_size k
  unfolding entry_of
  size_none h empty g = refl
  size_none h invalid g = refl
  size_none h (valid b) g = absurd (h (ap (λ (x : Entry). x.kind) g))

  module _ (v : e.kind ≡ Valid) (o : Result StoreHeader HeaderFault) (r : o ≡ read_header p) (k : Slot) (f : FineSlot k) (g : e ≡ entry_of k) (q : p ≡ part_of part_size k) where
    header_read : (h : StoreHeader) × (o ≡ Ok h) × (h.size ≡ slot_size k)
    unfolding entry_of
    header_read = go k f g q
      where
        go : (x : Slot) → FineSlot x → e ≡ entry_of x → p ≡ part_of part_size x → (h : StoreHeader) × (o ≡ Ok h) × (h.size ≡ slot_size x)
        go empty f g q = absurd (empty_valid _ (ap (λ (x : Entry). x.kind) g) v)
        go invalid f g q = absurd (invalid_valid _ (ap (λ (x : Entry). x.kind) g) v)
        go (valid b) f g q =
            let behind = records_bytes b.records ++ replicate (part_size - (24 + sizes b.records)) 255 in
            (b.header, r ∙ ap read_header (q ∙ part_bytes part_size b f.0.records_fine) ∙ header_back b.header behind f.0.header_fine, refl)

    pub size_good : (h : StoreHeader) → o ≡ Ok h → h.size ≡ slot_size k
    size_good h n = let x = header_read in let z : h ≡ x.0 = cc in ap (λ (y : StoreHeader). y.size) z ∙ x.2

    pub size_bad : (d : HeaderFault) → o ≡ Err d → 0 ≡ slot_size k
    size_bad d n = let x = header_read in let z = x.1 in clash cc

slot_high : (k : Slot) → FineSlot k → slot_size k ≤ 65536
slot_high empty f = omega arith
slot_high invalid f = omega arith
slot_high (valid b) f = omega (arith, f.0.header_fine.size_high)

-- slot i of those that entries and parts hold
module _ {es : List Entry} {ps : List (List ℕ)} {ss : List Slot} (s : Slots es ps ss) where
  pub entries_long : length es ≡ length ss
  entries_long = ap length s.entries_are ∙ length-map ss entry_of

  pub parts_long : length ps ≡ length ss
  parts_long = ap length s.parts_are ∙ length-map ss (part_of part_size)

module _ {es : List Entry} {ps : List (List ℕ)} {ss : List Slot} (s : Slots es ps ss) (i : ℕ) where
  abbrev slot : Slot
  slot = get_or ss i invalid

  entry_here : (e : Entry) → ((d : Entry) → e ≡ get_or es i d) → e ≡ entry_of slot
  entry_here e h = h (entry_of invalid) ∙ ap (λ (l : List Entry). get_or l i (entry_of invalid)) s.entries_are ∙ get_or-map entry_of ss i invalid

  part_here : (p : List ℕ) → ((d : List ℕ) → p ≡ get_or ps i d) → p ≡ part_of part_size slot
  part_here p h =
      h (part_of part_size invalid) ∙ ap (λ (l : List (List ℕ)). get_or l i (part_of part_size invalid)) s.parts_are
      ∙ get_or-map (part_of part_size) ss i invalid

-- what a loop's turn has: an entry and a part of slot i, and the size that it has worked out
pub record Turn (es : List Entry) (ps : List (List ℕ)) (i : ℕ) (e : Entry) (p : List ℕ) (r : ℕ) : Type 0 where
  pub here : i < length es
  pub entry_is : (d : Entry) → e ≡ get_or es i d
  pub part_is : (d : List ℕ) → p ≡ get_or ps i d
  pub size_is : (k : Slot) → FineSlot k → e ≡ entry_of k → p ≡ part_of part_size k → r ≡ slot_size k

module _ {es : List Entry} {ps : List (List ℕ)} {i : ℕ} {e : Entry} {p : List ℕ} {r : ℕ} (t : Turn es ps i e p r) {ss : List Slot} (s : Slots es ps ss) where
  abbrev k : Slot
  k = get_or ss i invalid

  in_slots : i < length ss
  in_slots = omega (arith, t.here, entries_long s)

  fine : FineSlot k
  fine = fine_at ss i s.fine

  entry_of_lem : e ≡ entry_of k
  entry_of_lem = entry_here s i e t.entry_is

  part_of_lem : p ≡ part_of part_size k
  part_of_lem = part_here s i p t.part_is

  size_of_lem : r ≡ slot_size k
  size_of_lem = t.size_is k fine entry_of_lem part_of_lem

  pub size_fits : r ≤ 65536
  size_fits = omega (arith, size_of_lem, slot_high k fine)

  -- is one overfull?
  overfull_is : (x : Slot) → overfull x ≡ ltb (slot_size x) (entry_of x).total
  unfolding overfull entry_of
  overfull_is empty = refl
  overfull_is invalid = refl
  overfull_is (valid b) = refl

  any_more : any_overfull (drop i ss) ≡ (ltb r e.total || any_overfull (drop (i + 1) ss))
  unfolding any_overfull
  any_more =
      let n : suc i ≡ i + 1 = omega arith in
      let o : overfull k ≡ ltb r e.total = overfull_is k ∙ ap₂ (λ (a : ℕ) (x : Entry). ltb a x.total) (sym size_of_lem) (sym entry_of_lem) in
      ap any_overfull (drop-cons ss i invalid in_slots) ∙ ap₂ (λ (x : Bool) (j : ℕ). x || any_overfull (drop j ss)) o n

  module _ (same : any_overfull (drop i ss) ≡ any_overfull ss) where
    by_size : (b : Bool) → ltb r e.total ≡ b → (b || any_overfull (drop (i + 1) ss)) ≡ any_overfull ss
    by_size b q = ap (λ (x : Bool). x || any_overfull (drop (i + 1) ss)) (sym q) ∙ sym any_more ∙ same

    pub stop : r < e.total → true ≡ any_overfull ss
    stop l = by_size true (lt-ltb _ _ l)

    pub pass : e.total ≤ r → any_overfull (drop (i + 1) ss) ≡ any_overfull ss
    pass l = by_size false (le-ltb _ _ l)

pub passed : (ss : List Slot) (i : ℕ) → length ss ≤ i → any_overfull (drop i ss) ≡ any_overfull ss → false ≡ any_overfull ss
unfolding any_overfull
passed ss i h q = ap any_overfull (sym (drop_of_length-le ss {i = i} h)) ∙ q

-- a slot's bytes in the image stand at the start of its part
slot_output_lem : (k : Slot) → FineSlot k → overfull k ≡ false → take (slot_size k) (part_of part_size k) ≡ slot_output k
unfolding slot_output overfull
slot_output_lem empty f h = refl
slot_output_lem invalid f h = refl
slot_output_lem (valid b) f h =
    ap (take b.header.size) (sym (append-nil (part_of part_size (valid b)))) ∙ bank_out b [] f.0 (ltb-false b.header.size (total b) h)

none_at : (ss : List Slot) (i : ℕ) → any_overfull ss ≡ false → overfull (get_or ss i invalid) ≡ false
unfolding any_overfull overfull
none_at [] i e = refl
none_at (s ∷ ss) zero e = (neither (overfull s) (any_overfull ss) e).0
none_at (s ∷ ss) (suc i) e = none_at ss i (neither (overfull s) (any_overfull ss) e).1

-- bytes that are copied to as many
pub onto_same : (x d : List ℕ) → length x ≡ length d → onto x d ≡ x
onto_same x d e =
    onto_fits x d (omega arith) ∙ ap (λ (l : List ℕ). x ++ l) (drop_of_length-le d {i = length x} (omega arith)) ∙ append-nil x

-- the image so far
image_more : (ss : List Slot) (i : ℕ) → i < length ss → image_output (take (suc i) ss) ≡ image_output (take i ss) ++ slot_output (get_or ss i invalid)
unfolding image_output
image_more [] i h = absurd (omega arith)
image_more (s ∷ ss) zero h = append-nil (slot_output s)
image_more (s ∷ ss) (suc i) h =
    ap (λ (x : List ℕ). slot_output s ++ x) (image_more ss i (omega arith))
    ∙ sym (append_assoc (slot_output s) (image_output (take i ss)) (slot_output (get_or ss i invalid)))

-- the bytes of the slots before i are in the output o, which was o₀, up to a place
pub record Joined (ss : List Slot) (o₀ o : List ℕ) (at i : ℕ) : Type 0 where
  pub long : length (image_output (take i ss)) ≡ at
  pub is : o ≡ image_output (take i ss) ++ drop at o₀

pub begin : (ss : List Slot) (o : List ℕ) → Joined ss o o 0 0
unfolding image_output
begin ss o = record { long = refl; is = refl }

-- one turn, whose slot's bytes y are put at the place
pub more : {es : List Entry} {ps : List (List ℕ)} {i : ℕ} {e : Entry} {p : List ℕ} {r : ℕ} → Turn es ps i e p r → {ss : List Slot} → Slots es ps ss
    → any_overfull ss ≡ false
    → {o₀ o : List ℕ} {at : ℕ}
    → Joined ss o₀ o at i
    → (y : List ℕ)
    → length y ≡ r
    → y ≡ take r p
    → Joined ss o₀ (put_mid at (at + r - at) o y) (at + r) (i + 1)
more {i = i} {p = p} {r} t {ss} s q {o₀} {o} {at} j y l g =
    let front = image_output (take i ss) in
    let v : y ≡ slot_output (k t s) = g ∙ ap₂ take (size_of_lem t s) (part_of_lem t s) ∙ slot_output_lem (k t s) (fine t s) (none_at ss i q) in
    let b : i + 1 ≡ suc i = omega arith in
    let u : image_output (take (i + 1) ss) ≡ front ++ y =
    ap (λ (c : ℕ). image_output (take c ss)) b ∙ image_more ss i (in_slots t s) ∙ ap (λ (c : List ℕ). front ++ c) (sym v) in
    let n : at + r - at ≡ r = omega arith in
    let d : take at o ≡ front = ap (take at) j.is ∙ take_at front (drop at o₀) at j.long in
    let z : drop (at + r - at) (drop at o) ≡ drop (at + r) o₀ =
    ap₂ drop n (ap (drop at) j.is ∙ drop_at front (drop at o₀) at j.long) ∙ drop-drop r at o₀ in
    record {
      long = ap length u ∙ length-append front y ∙ ap₂ (λ (c d : ℕ). c + d) j.long l;
      is = ap₂ (λ (c e : List ℕ). c ++ (y ++ e)) d z ∙ sym (append_assoc front y (drop (at + r) o₀)) ∙ ap (λ (c : List ℕ). c ++ drop (at + r) o₀) (sym u);
    }

pub done : {ss : List Slot} {o₀ o : List ℕ} {at i : ℕ} → length ss ≤ i → Joined ss o₀ o at i
    → (at ≡ length (image_output ss)) × (o ≡ image_output ss ++ drop at o₀)
done {ss} {o₀} {o} {at} {i} h j =
    let e : take i ss ≡ ss = take_all i ss h in
    (sym j.long ∙ ap (λ (l : List Slot). length (image_output l)) e, j.is ∙ ap (λ (l : List Slot). image_output l ++ drop at o₀) e)
