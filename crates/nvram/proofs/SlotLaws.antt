-- A slot that is laid out is taken back, and what is taken back was laid out so.
use Prim.Native.Nat.{ℕ, ◌+◌, ◌-◌, ◌≤◌}
use mathlib.Core.Path.{◌≡◌, refl, sym, ap, ap₂, ◌∙◌, subst}
use mathlib.Core.List.{List, ◌++◌, append_assoc}
use mathlib.Core.Bool.{Bool, true, false, cond}
use Rattle.std.specs.Prelude.{Option, None, Some, Result, Ok, Err}
use native.Mathlib.Omega.{arith}
use lib.ListN.{length, get_or, set, take, drop, replicate, length-drop, take-append-drop}
use lib.Seq.{take_at, drop_at, drop-drop, length-take-le, set-get_or}
use borrow.Author.Tests.{eq-eqb, eqb-true, le-leb, leb-true}
use Rattle.crc32.specs.Crc32.{Bytes}
use Rattle.buffers.proofs.BelowLaws.{below_take, below_drop}
use Rattle.buffers.specs.Bytes.{all_ff}
use Rattle.buffers.proofs.Laws.{clash, all_ff_is, all_ff_replicate, and_both}
use Rattle.bank.specs.declared.header.StoreHeader.{StoreHeader}
use Rattle.bank.specs.declared.header.HeaderFault.{HeaderFault}
use Rattle.bank.specs.Number.{le32}
use Rattle.bank.specs.Header.{header_bytes, read_header}
use Rattle.bank.specs.Record.{Record, sizes, records_bytes}
use Rattle.bank.specs.Bank.{Bank, Slot, empty, invalid, valid, padded, bank_bytes, part_of, bank_of}
use Rattle.bank.specs.Totals.{total}
use Rattle.bank.specs.WellFormed.{FineRecords, FineBank}
use Rattle.bank.proofs.PaddedLaws.{part_bytes}
use Rattle.bank.proofs.LengthLaws.{length_header, length_records, length_bank, FitsPart, length_part}
use Rattle.bank.proofs.HeaderLaws.{header_back}
use Rattle.bank.proofs.ReadBank.{head_fine}
use Rattle.bank.proofs.HeaderLaws.{headed}
use Rattle.bank.proofs.WriteLaws.{header_normal}
use Rattle.records.specs.View.{view_records}
use Rattle.records.proofs.RecordLaws.{view_records_lem, records_back}
use Rattle.book.specs.Book.{part_size, FineSlot}
use Rattle.nvram.specs.declared.state.Kind.{Kind}
use Rattle.nvram.specs.declared.state.Kind.TheVariants.{Empty, Invalid, Valid}
use Rattle.nvram.specs.declared.state.Entry.{Entry}
use Rattle.nvram.specs.Part.{entry, entry_of, slot_with, view_head, is_blank, view_kind, view_slot}

pub slot_length : (k : Slot) → FineSlot k → length (part_of part_size k) ≡ part_size
slot_length k f = length_part part_size k (holds k f)
  where
    holds : (k : Slot) → FineSlot k → FitsPart part_size k
    holds empty f = tt
    holds invalid f = tt
    holds (valid b) f = (f.0.records_fine, f.1)

-- what a Valid entry and its part with a header h show where they are sound
pub record Fits (h : StoreHeader) (e : Entry) (p : List ℕ) : Type 0 where
  pub reserved : get_or p 15 0 ≡ 0
  pub total_low : 24 ≤ e.total
  pub total_high : e.total ≤ part_size
  pub usable_low : 24 ≤ e.usable
  pub usable_high : e.usable ≤ h.size
  pub rest : all_ff (drop e.total p) ≡ true

-- laid out and taken back

pub fits_view : (h : StoreHeader) (e : Entry) (p : List ℕ) → Fits h e p
    → view_head (Ok h) e p ≡ slot_with h e.usable (view_records (take (e.total - 24) (drop 24 p)))
unfolding view_head
fits_view h e p f =
    simp (
      eq-eqb _ _ f.reserved,
      le-leb _ _ f.total_low,
      le-leb _ _ f.total_high,
      le-leb _ _ f.usable_low,
      le-leb _ _ f.usable_high,
      f.rest,
    )

module _ (b : Bank) (f : FineRecords b.records) where
  abbrev free : List ℕ
  free = replicate (part_size - (24 + sizes b.records)) 255

  abbrev part : List ℕ
  part = part_of part_size (valid b)

  part_is : part ≡ header_bytes b.header ++ (records_bytes b.records ++ free)
  part_is = part_bytes part_size b f

  part_reserved : get_or part 15 0 ≡ 0
  unfolding header_bytes le32
  part_reserved = ap (λ (s : List ℕ). get_or s 15 0) part_is

  part_rest : drop (total b) part ≡ free
  unfolding bank_bytes
  part_rest =
      ap (drop (total b)) (part_is ∙ sym (append_assoc (header_bytes b.header) (records_bytes b.records) free))
      ∙ drop_at (header_bytes b.header ++ records_bytes b.records) free (total b) (length_bank b f)

  pub part_records : take (total b - 24) (drop 24 part) ≡ records_bytes b.records
  unfolding total
  part_records =
      let n : length (records_bytes b.records) ≡ 24 + sizes b.records - 24 = length_records b.records f ∙ omega arith in
      ap (λ (s : List ℕ). take (24 + sizes b.records - 24) s)
      (ap (drop 24) part_is ∙ drop_at (header_bytes b.header) (records_bytes b.records ++ free) 24 (length_header b.header))
      ∙ take_at (records_bytes b.records) free (24 + sizes b.records - 24) n

pub total_least : (b : Bank) → 24 ≤ total b
unfolding total
total_least b = omega arith

bank_view : (b : Bank) → FineBank b → total b ≤ part_size → view_slot (entry_of (valid b)) (part_of part_size (valid b)) ≡ Some (valid b)
unfolding view_slot view_kind entry_of slot_with
bank_view b f t =
    let p = part_of part_size (valid b) in
    let r = f.records_fine in
    let q : read_header p ≡ Ok b.header =
    ap read_header (part_is b r) ∙ header_back b.header (records_bytes b.records ++ free b r) f.header_fine in
    let v : Fits b.header (entry_of (valid b)) p =
    record {
      reserved = part_reserved b r;
      total_low = total_least b;
      total_high = t;
      usable_low = f.usable_low;
      usable_high = f.usable_high;
      rest = ap all_ff (part_rest b r) ∙ all_ff_replicate (part_size - (24 + sizes b.records));
    } in
    ap (λ (o : Result StoreHeader HeaderFault). view_head o (entry_of (valid b)) p) q ∙ fits_view b.header (entry_of (valid b)) p v
    ∙ ap (slot_with b.header b.usable) (ap view_records (part_records b r) ∙ view_records_lem b.records r)

pub slot_view : (k : Slot) → FineSlot k → view_slot (entry_of k) (part_of part_size k) ≡ Some k
unfolding view_slot view_kind entry_of part_of
slot_view empty f = simp (all_ff_replicate part_size)
slot_view invalid f = simp (all_ff_replicate part_size)
slot_view (valid b) f = bank_view b f.0 f.1

-- taken back and laid out

-- a test that gave something held
pub held : {A : Type 0} (t : Bool) (o : Option A) (x : A) → cond t o None ≡ Some x → (t ≡ true) × (o ≡ Some x)
held true o x e = (refl, e)
held false o x e = clash cc

fits_back : (h : StoreHeader) (e : Entry) (p : List ℕ) (k : Slot) → view_head (Ok h) e p ≡ Some k
    → Fits h e p × (slot_with h e.usable (view_records (take (e.total - 24) (drop 24 p))) ≡ Some k)
unfolding view_head
fits_back h e p k v =
    let o = held _ _ k v in
    let a = and_both _ _ o.0 in
    let b = and_both _ _ a.1 in
    let c = and_both _ _ b.1 in
    let d = and_both _ _ c.1 in
    let g = and_both _ _ d.1 in (
      record {
        reserved = eqb-true _ _ a.0;
        total_low = leb-true _ _ b.0;
        total_high = leb-true _ _ c.0;
        usable_low = leb-true _ _ d.0;
        usable_high = leb-true _ _ g.0;
        rest = g.1;
      },
      o.1,
    )

slot_some : (h : StoreHeader) (u : ℕ) (o : Option (List Record)) (k : Slot) → slot_with h u o ≡ Some k
    → (rs : List Record) × (o ≡ Some rs) × (valid (bank_of h rs u) ≡ k)
unfolding slot_with
slot_some h u None k e = clash cc
slot_some h u (Some rs) k e = (rs, refl, cc)

-- e and p are the entry and the part of a slot
abbrev pub Laid : Entry → List ℕ → Slot → Type 0
Laid e p k = (e ≡ entry_of k) × (p ≡ part_of part_size k) × FineSlot k

blank_back : (e : Entry) (p : List ℕ) (k : Kind) → length p ≡ part_size → e.kind ≡ k → is_blank e p ≡ true
    → (e ≡ entry k 0 0) × (p ≡ replicate part_size 255)
blank_back e p k n q h =
    let a = and_both _ _ h in
    let b = and_both _ _ a.1 in
    let t : e.total ≡ 0 = eqb-true _ _ a.0 in
    let u : e.usable ≡ 0 = eqb-true _ _ b.0 in (
      (λ i. record { kind = q i; total = t i; usable = u i }),
      all_ff_is p b.1 ∙ ap (λ (j : ℕ). replicate j 255) n,
    )

module _ (e : Entry) (p : List ℕ) (y : Bytes p) (n : length p ≡ part_size) where
  bank_back : (h : StoreHeader) (rs : List Record) → e.kind ≡ Valid → read_header p ≡ Ok h → Fits h e p
      → view_records (take (e.total - 24) (drop 24 p)) ≡ Some rs → Laid e p (valid (bank_of h rs e.usable))
  unfolding entry_of part_of padded bank_bytes total
  bank_back h rs q g f v =
      let b : Bank = bank_of h rs e.usable in
      let x = take (e.total - 24) (drop 24 p) in
      let r = records_back x rs (below_take (e.total - 24) (drop 24 p) (below_drop 24 p y)) v in
      let l : sizes rs ≡ e.total - 24 =
      sym (length_records rs r.1) ∙ ap length (sym r.0)
      ∙ length-take-le (e.total - 24) (drop 24 p) (omega (arith, length-drop 24 p, f.total_high)) in
      let t : e.total ≡ 24 + sizes rs = omega (arith, f.total_low) in
      let i : 24 + (e.total - 24) ≡ e.total = omega (arith, f.total_low) in
      let m : length (drop e.total p) ≡ part_size - length (bank_bytes b) =
      length-drop e.total p ∙ omega (arith, length_bank b r.1, t) in
      let c : drop (e.total - 24) (drop 24 p) ≡ replicate (part_size - length (bank_bytes b)) 255 =
      drop-drop (e.total - 24) 24 p ∙ ap (λ (j : ℕ). drop j p) i ∙ all_ff_is (drop e.total p) f.rest
      ∙ ap (λ (j : ℕ). replicate j 255) m in (
        (λ i. record { kind = q i; total = t i; usable = e.usable }),
        sym (set-get_or p 15 0) ∙ ap (set p 15) f.reserved ∙ header_normal p h y (headed p h g)
            ∙ ap (λ (s : List ℕ). header_bytes h ++ s)
            (sym (take-append-drop (e.total - 24) (drop 24 p)) ∙ ap₂ (λ (s z : List ℕ). s ++ z) r.0 c)
            ∙ sym (append_assoc (header_bytes h) (records_bytes rs) (replicate (part_size - length (bank_bytes b)) 255)),
        (
          record { header_fine = head_fine p h y g; records_fine = r.1; usable_low = f.usable_low; usable_high = f.usable_high },
          omega (arith, t, f.total_high),
        ),
      )

pub slot_back : (e : Entry) (p : List ℕ) (k : Slot) → Bytes p → length p ≡ part_size → view_slot e p ≡ Some k → Laid e p k
unfolding view_slot view_kind entry_of part_of view_head
slot_back e p k y n v = by_kind e.kind refl v
  where
    by_head : e.kind ≡ Valid → (o : Result StoreHeader HeaderFault) → read_header p ≡ o → view_head o e p ≡ Some k → Laid e p k
    by_head q (Ok h) g v =
        let f = fits_back h e p k v in
        let r = slot_some h e.usable (view_records (take (e.total - 24) (drop 24 p))) k f.1 in
        subst (Laid e p) r.2 (bank_back e p y n h r.0 q g f.0 r.1)
    by_head q (Err x) g v = clash cc

    blank : (c : Kind) (x : Slot) → e.kind ≡ c → entry_of x ≡ entry c 0 0 → part_of part_size x ≡ replicate part_size 255 → FineSlot x
        → cond (is_blank e p) (Some x) None ≡ Some k → Laid e p k
    blank c x q a b f v =
        let o = held (is_blank e p) (Some x) k v in
        let i : x ≡ k = cc o.1 in
        let l = blank_back e p c n q o.0 in
        subst (Laid e p) i (l.0 ∙ sym a, l.1 ∙ sym b, f)

    by_kind : (c : Kind) → e.kind ≡ c → view_kind c e p ≡ Some k → Laid e p k
    by_kind Empty q v = blank Empty empty q refl refl tt v
    by_kind Invalid q v = blank Invalid invalid q refl refl tt v
    by_kind Valid q v = by_head q (read_header p) refl v
