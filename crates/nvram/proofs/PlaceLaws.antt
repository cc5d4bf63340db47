-- One slot's part in the work area of a sound state, and the output of the bank in it.
use Prim.Native.Nat.{ℕ, ◌*◌, ◌≤◌, ◌<◌}
use mathlib.Core.Path.{◌≡◌, sym, ap, ◌∙◌}
use mathlib.Core.List.{List, ◌++◌, append_assoc}
use native.Mathlib.Omega.{arith}
use lib.ListN.{length, get_or, set, take, drop}
use lib.Seq.{drop_at, set-get_or, take-append-le}
use Rattle.buffers.specs.Bytes.{over}
use Rattle.buffers.proofs.OverLaws.{over_mid}
use Rattle.bank.specs.Bank.{Bank, Slot, invalid, valid, bank_bytes, part_of, output}
use Rattle.bank.specs.Totals.{total}
use Rattle.bank.specs.WellFormed.{FineBank}
use Rattle.bank.proofs.LengthLaws.{length_padded, length_bank}
use Rattle.bank.proofs.PaddedLaws.{take_padded}
use Rattle.book.specs.Book.{part_size, FineSlot}
use Rattle.book.proofs.BookLaws.{part_size_lem, fine_at}
use Rattle.nvram.specs.declared.state.Nvram.{Nvram}
use Rattle.nvram.specs.Layout.{lay_parts, lay_work}
use Rattle.nvram.proofs.SlotLaws.{slot_length}
use Rattle.nvram.proofs.LayoutLaws.{Split, split}
use Rattle.nvram.proofs.ActiveLaws.{Sound, book, work_is, fine, n_is}

module _ {s : Nvram} {w : List ℕ} (g : Sound s w) (i : ℕ) (h : i < s.n) where
  pub inside : i < length (book g).slots
  inside = omega (arith, n_is g, (fine g).long)

  pub places : Split (book g).slots i
  places = split (book g).slots i inside (fine g).slots_fine

  abbrev pub after : List ℕ
  after = places.post ++ drop ((book g).n * part_size) w

  -- the work area with a slot in this place
  abbrev pub work_with : Slot → List ℕ
  work_with x = places.pre ++ (part_of part_size x ++ after)

  front_length : length places.pre ≡ i * 131072
  front_length = places.len ∙ ap (λ (n : ℕ). i * n) part_size_lem

  pub laid_with_lem : (x : Slot) → lay_parts (set (book g).slots i x) ++ drop ((book g).n * part_size) w ≡ work_with x
  laid_with_lem x =
      let z : List ℕ = drop ((book g).n * part_size) w in
      ap (λ (l : List ℕ). l ++ z) (places.at x) ∙ append_assoc places.pre (part_of part_size x ++ places.post) z
      ∙ ap (λ (l : List ℕ). places.pre ++ l) (append_assoc (part_of part_size x) places.post z)

  work_has : w ≡ work_with (get_or (book g).slots i invalid)
  unfolding lay_work
  work_has =
      work_is g ∙ ap (λ (l : List Slot). lay_parts l ++ drop ((book g).n * part_size) w) (sym (set-get_or (book g).slots i invalid))
      ∙ laid_with_lem (get_or (book g).slots i invalid)

  pub from_place : (x : Slot) → drop (i * 131072) (work_with x) ≡ part_of part_size x ++ after
  from_place x = drop_at places.pre (part_of part_size x ++ after) (i * 131072) front_length

  pub part_here : drop (i * 131072) w ≡ part_of part_size (get_or (book g).slots i invalid) ++ after
  part_here = ap (drop (i * 131072)) work_has ∙ from_place (get_or (book g).slots i invalid)

  pub over_place : (x : Slot) → FineSlot x → over (i * 131072) (part_of part_size x) w ≡ work_with x
  over_place x f =
      let o : Slot = get_or (book g).slots i invalid in
      ap (over (i * 131072) (part_of part_size x)) work_has
      ∙ over_mid places.pre (part_of part_size o) (part_of part_size x) after (i * 131072) front_length
      (slot_length o (fine_at (book g).slots i (fine g).slots_fine) ∙ sym (slot_length x f))

-- a bank that fits its size is written as its part begins, whatever follows the part
pub bank_out : (k : Bank) (y : List ℕ) → FineBank k → total k ≤ k.header.size
    → take k.header.size (part_of part_size (valid k) ++ y) ≡ output k
unfolding part_of output
bank_out k y f h =
    let n = length_bank k f.records_fine in
    let l = length_padded part_size (bank_bytes k) (omega (arith, n, part_size_lem, f.header_fine.size_high)) in
    take-append-le k.header.size (part_of part_size (valid k)) y (omega (arith, l, part_size_lem, f.header_fine.size_high))
    ∙ take_padded (bank_bytes k) k.header.size part_size (omega (arith, n)) (omega (arith, part_size_lem, f.header_fine.size_high))
