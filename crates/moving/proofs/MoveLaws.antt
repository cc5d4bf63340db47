-- The whole move: a header, the live records behind it and then 0xFF are the part of the moved bank (`moved`); the header leaves the records alone.
use Prim.Native.Nat.{ℕ, ◌+◌, ◌-◌, ◌≤◌}
use mathlib.Core.Path.{◌≡◌, sym, ap, ◌∙◌}
use mathlib.Core.Logic.{◌⊎◌, inl, inr}
use mathlib.Core.List.{List, ◌++◌, append_assoc}
use native.Mathlib.Omega.{arith}
use lib.ListN.{length, take, drop, replicate, length-append, length-replicate}
use lib.Seq.{drop-drop}
use Rattle.buffers.specs.Bytes.{over}
use Rattle.buffers.proofs.OverLaws.{over_over, length_over}
use Rattle.bank.specs.declared.header.StoreHeader.{StoreHeader}
use Rattle.bank.specs.Header.{header_bytes}
use Rattle.bank.specs.Record.{Record, live, sizes, records_bytes}
use Rattle.bank.specs.Bank.{valid, part_of, bank_of}
use Rattle.bank.specs.Totals.{select}
use Rattle.bank.specs.WellFormed.{FineRecords}
use Rattle.bank.proofs.PaddedLaws.{part_bytes}
use Rattle.bank.proofs.LengthLaws.{length_header, length_records}
use Rattle.records.specs.Records.{Holds}
use Rattle.records.proofs.RecordLists.{fine_select}
use Rattle.book.specs.Book.{part_size}
use Rattle.book.proofs.BookLaws.{part_size_lem}
use Rattle.moving.specs.Move.{ReadFirst, Movable}
use Rattle.moving.proofs.CopyLaws.{span_long, span_over}
use Rattle.moving.proofs.LiveLaws.{kept_room}

-- a part lent from one place up to another, and given back as y
over_part : (at end : ℕ) (w y : List ℕ) → length y ≡ end - at → take at w ++ (y ++ drop (end - at) (drop at w)) ≡ over at y w
unfolding over
over_part at end w y e =
    ap (λ (z : List ℕ). take at w ++ (y ++ z)) (drop-drop (end - at) at w ∙ ap (λ (n : ℕ). drop (at + n) w) (sym e))

-- a header, records and 0xFF, put one behind the other
filled : (at p end : ℕ) (h : StoreHeader) (rs : List Record) (w u y : List ℕ) → FineRecords rs → at + 131072 ≤ length w → p ≡ at + 24 + sizes rs
    → p ≤ end
    → end ≡ at + 131072
    → u ≡ over at (header_bytes h ++ records_bytes rs) w
    → y ≡ replicate (length (take (end - p) (drop p u))) 255
    → take p u ++ (y ++ drop (end - p) (drop p u)) ≡ over at (part_of part_size (valid (bank_of h rs h.size))) w
filled at p end h rs w u y f room stop low ends put fill =
    let x = header_bytes h ++ records_bytes rs in
    let lx : length x ≡ 24 + sizes rs = length-append (header_bytes h) (records_bytes rs) ∙ omega (arith, length_header h, length_records rs f) in
    let lu : length u ≡ length w = ap length put ∙ length_over at x w (omega arith) in
    let n : length (take (end - p) (drop p u)) ≡ end - p = span_long p (end - p) u (omega arith) in
    let ly : length y ≡ end - p = ap length fill ∙ length-replicate (length (take (end - p) (drop p u))) 255 ∙ n in
    let k : length (take (end - p) (drop p u)) ≡ part_size - (24 + sizes rs) = omega (arith, n, part_size_lem) in
    let z : y ≡ replicate (part_size - (24 + sizes rs)) 255 = fill ∙ ap (λ (i : ℕ). replicate i 255) k in
    over_part p end u y ly
    ∙ ap (over p y) put
    ∙ over_over at p x y w (omega arith) (omega arith)
    ∙ ap (λ (l : List ℕ). over at l w) (append_assoc (header_bytes h) (records_bytes rs) y ∙ ap (λ (l : List ℕ). header_bytes h ++ (records_bytes rs ++ l)) z ∙ sym (part_bytes part_size (bank_of h rs h.size) f))

module _ {w : List ℕ} {from end part : ℕ} (m : Movable w from end part) (h : StoreHeader) where
  fits : part + length (header_bytes h) ≤ length w
  fits = omega (arith, m.room, length_header h)

  -- the header copied to the part
  pub headed : (x y : List ℕ) → x ≡ header_bytes h → y ≡ x → take part w ++ (y ++ drop (part + 24 - part) (drop part w)) ≡ over part (header_bytes h) w
  headed x y e g =
      let q : y ≡ header_bytes h = g ∙ e in
      over_part part (part + 24) w y (omega (arith, ap length q, length_header h)) ∙ ap (λ (l : List ℕ). over part l w) q

  module _ (v : List ℕ) (e : v ≡ over part (header_bytes h) w) where
    same : length v ≡ length w
    same = ap length e ∙ length_over part (header_bytes h) w fits

    -- it leaves the records alone
    held : (rs : List Record) → Holds w from end rs → Holds v from end rs
    held rs k =
        record {
          fine = k.fine;
          low = k.low;
          high = omega (arith, same, k.high);
          is = ap (λ (l : List ℕ). take (end - from) (drop from l)) e
              ∙ span_over part (header_bytes h) w fits from (end - from) (clear m.apart)
              ∙ k.is;
        }
      where
        clear : (part + 24 ≤ from) ⊎ (end ≤ part) → (part + length (header_bytes h) ≤ from) ⊎ (from + (end - from) ≤ part)
        clear (inl a) = inl (omega (arith, length_header h))
        clear (inr a) = inr (omega (arith, k.low))

    behind : (part + 24 ≤ from) ⊎ (end ≤ part) → ReadFirst (part + 24) from end
    behind (inl a) = inl a
    behind (inr a) = inr (omega arith)

    pub copyable : ((rs : List Record) × Holds v from end rs) × (part + 24 + (end - from) ≤ length v) × ReadFirst (part + 24) from end
    copyable = ((m.records, held m.records m.holds), omega (arith, same, m.few, m.room), behind m.apart)

    -- the live records carried behind it
    module _ (p : ℕ) (u : List ℕ)
        (c : (rs : List Record) → Holds v from end rs → (p ≡ part + 24 + sizes (select live rs)) × (u ≡ over (part + 24) (records_bytes (select live rs)) v)) where
      stops : (rs : List Record) → Holds w from end rs → (part ≤ p) × (p ≤ part + 131072)
      stops rs k =
          let l : length (records_bytes (select live rs)) ≡ sizes (select live rs) = length_records (select live rs) (fine_select live rs k.fine) in
          let i : p ≡ part + 24 + sizes (select live rs) = (c rs (held rs k)).0 in
          (omega arith, omega (arith, kept_room w from end rs k, m.few, k.low))

      pub within : (part ≤ p) × (p ≤ part + 131072)
      within = stops m.records m.holds

      pub moved : (y : List ℕ) (e : ℕ) → e ≡ part + 131072 → y ≡ replicate (length (take (e - p) (drop p u))) 255 → (rs : List Record) → Holds w from end rs
          → (p - part ≡ 24 + sizes (select live rs)) × (take p u ++ (y ++ drop (e - p) (drop p u)) ≡ over part (part_of part_size (valid (bank_of h (select live rs) h.size))) w)
      moved y b ends fill rs k =
          let q = select live rs in
          let i = c rs (held rs k) in
          let f = fine_select live rs k.fine in
          let n : part + 24 ≡ part + length (header_bytes h) = omega (arith, length_header h) in
          let put : u ≡ over part (header_bytes h ++ records_bytes q) w =
          i.1 ∙ ap (over (part + 24) (records_bytes q)) e
          ∙ over_over part (part + 24) (header_bytes h) (records_bytes q) w n (omega (arith, i.0, (stops rs k).1, m.room, length_records q f)) in
          (omega (arith, i.0), filled part p b h q w u y f m.room i.0 (omega (arith, ends, (stops rs k).1)) ends put fill)
