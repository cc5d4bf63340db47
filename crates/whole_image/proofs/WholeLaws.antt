-- The call of the whole image on a sound state and work area: its three ways to end.
use Prim.Native.Nat.{ℕ, zero, suc, ◌-◌, ◌*◌, ◌/◌, ◌≤◌, ◌<◌}
use mathlib.Core.Path.{◌≡◌, refl, sym, ap, ap₂, ◌∙◌}
use mathlib.Core.List.{List, [], ◌∷◌, ◌++◌, map, append_assoc, append-nil}
use mathlib.Core.Bool.{Bool, true, false, cond}
use native.Mathlib.Omega.{arith}
use lib.Dec.{ltb}
use lib.ListN.{length, take, drop, length-map}
use lib.Seq.{take_at, drop_at}
use borrow.Author.Tests.{lt-ltb, le-ltb}
use Rattle.bank.specs.Bank.{Slot, bank_size, part_of}
use Rattle.bank.proofs.PartitionLaws.{bank_size_lem}
use Rattle.book.specs.Book.{part_size, FineSlot, FineSlots}
use Rattle.book.proofs.BookLaws.{part_size_lem}
use Rattle.book.specs.Commit.{image_output, any_overfull}
use Rattle.book.specs.Call.{whole_image, joined, stay, stay_with, step, image_to}
use Rattle.nvram.specs.declared.state.Nvram.{Nvram}
use Rattle.nvram.specs.Part.{entry_of}
use Rattle.nvram.specs.Layout.{lay_table, lay_parts, lay_work}
use Rattle.std.specs.Simd.{first_chunks}
use Rattle.nvram.specs.Contract.{Does}
use Rattle.nvram.proofs.LayoutLaws.{length_parts}
use Rattle.nvram.proofs.CallLaws.{does}
use Rattle.nvram.proofs.ActiveLaws.{Sound, book, viewed, state_is, work_is, fine, n_is, banks_are, does_refuse, place_within}
use Rattle.whole_image.specs.Slots.{Slots}

-- the parts laid out are the work area's first chunks
part_long : (k : Slot) → FineSlot k → length (part_of part_size k) ≡ part_size
unfolding lay_parts
part_long k f = omega (arith, ap length (append-nil (part_of part_size k)), length_parts (k ∷ []) (f, tt))

parts_chunks : (ss : List Slot) (w : List ℕ) (m : ℕ) → FineSlots ss → length ss ≤ m
    → take (length ss) (first_chunks part_size m (lay_parts ss ++ w)) ≡ map (part_of part_size) ss
unfolding lay_parts
parts_chunks [] w m f h = refl
parts_chunks (k ∷ ss) w zero f h = absurd (omega arith)
parts_chunks (k ∷ ss) w (suc m) f h =
    let p = part_of part_size k in
    let l = part_long k f.0 in
    let e : p ++ lay_parts ss ++ w ≡ p ++ (lay_parts ss ++ w) = append_assoc p (lay_parts ss) w in
    rw e (ap₂ (λ (x : List ℕ) (y : List (List ℕ)). x ∷ y) (take_at p (lay_parts ss ++ w) part_size l)
    (ap (λ (x : List ℕ). take (length ss) (first_chunks part_size m x)) (drop_at p (lay_parts ss ++ w) part_size l) ∙ parts_chunks ss w m f.1 (omega arith)))

module _ {s : Nvram} {w : List ℕ} (g : Sound s w) where
  pub room : s.n * 131072 ≤ length w
  room =
      let one : 1 ≤ s.n = omega (arith, n_is g, (fine g).low) in
      omega (arith, place_within g (s.n - 1) (omega arith))

  pub few : s.n ≤ 16
  few = omega (arith, (fine g).high, n_is g)

  -- the entries and parts that the loops walk
  pub slots_are : (ps : List (List ℕ)) → ps ≡ first_chunks 131072 (length w / 131072) w → Slots (take s.n s.banks) (take s.n ps) (book g).slots
  unfolding lay_work lay_table
  slots_are ps e =
      let ss = (book g).slots in
      let m = length w / 131072 in
      let n : length ss ≡ s.n = (fine g).long ∙ sym (n_is g) in
      record {
        fine = (fine g).slots_fine;
        entries_are = ap (take s.n) (banks_are g) ∙ take_at (map entry_of ss) _ s.n (length-map ss entry_of ∙ n);
        parts_are =
            ap₂ take (sym n) (e ∙ ap₂ (λ (p : ℕ) (x : List ℕ). first_chunks p m x) (sym part_size_lem) (work_is g))
            ∙ parts_chunks ss (drop ((book g).n * part_size) w) m (fine g).slots_fine (omega (arith, n, room));
      }

  module _ (o₀ : List ℕ) where
    -- by the tests of room and of totals
    outcome : (a b : Bool) → ltb (length o₀) (s.n * 65536) ≡ a → any_overfull (book g).slots ≡ b
        → step (book g) (whole_image (length o₀))
        ≡ cond a (stay (book g) (joined 5 0))
        (cond b (stay (book g) (joined 13 0)) (stay_with (book g) (joined 0 (length (image_output (book g).slots))) (image_output (book g).slots)))
    unfolding step image_to
    outcome a b e f =
        let h : ltb (length o₀) ((book g).n * bank_size) ≡ a = ap₂ (λ (i j : ℕ). ltb (length o₀) (i * j)) (sym (n_is g)) bank_size_lem ∙ e in rw (h, f)

    pub short : length o₀ < s.n * 65536 → Does (whole_image (length o₀)) s w (joined 5 0) [] s w
    short l = does_refuse g (whole_image (length o₀)) 5 (outcome true _ (lt-ltb _ _ l) refl)

    module _ (l : s.n * 65536 ≤ length o₀) where
      pub over_size : true ≡ any_overfull (book g).slots → Does (whole_image (length o₀)) s w (joined 13 0) [] s w
      over_size e = does_refuse g (whole_image (length o₀)) 13 (outcome false true (le-ltb _ _ l) (sym e))

      -- r bytes of the output o are the image, the others as they were
      pub written : any_overfull (book g).slots ≡ false → (r : ℕ) (o : List ℕ)
          → (r ≡ length (image_output (book g).slots)) × (o ≡ image_output (book g).slots ++ drop r o₀)
          → Does (whole_image (length o₀)) s w (joined 0 r) (take r o) s w × (drop r o ≡ drop r o₀)
      written e r o j =
          let x = image_output (book g).slots in (
            does (whole_image (length o₀)) s w (book g) (stay_with (book g) (joined 0 (length x)) x) (joined 0 r) (take r o) s w (viewed g)
                (outcome false false (le-ltb _ _ l) e)
                (record {
                  answer = ap (joined 0) j.0;
                  out = ap (take r) j.1 ∙ take_at x (drop r o₀) r (sym j.0);
                  state = state_is g;
                  work = work_is g;
                }),
            ap (drop r) j.1 ∙ drop_at x (drop r o₀) r (sym j.0),
          )
