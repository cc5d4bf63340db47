-- Opening: the banks of an image as the code has them, and what each exit answers.
use Prim.Native.Nat.{ℕ, zero, suc, ◌*◌, ◌/◌, ◌≤◌, ◌<◌}
use mathlib.Core.Path.{◌≡◌, refl, sym, ap, ap₂, ◌∙◌}
use mathlib.Core.List.{List, [], ◌∷◌, map}
use mathlib.Core.Bool.{Bool, true, false, ◌||◌}
use native.Mathlib.Omega.{arith}
use lib.ListN.{length, take, drop}
use borrow.Author.Tests.{lt-ltb, le-ltb, le-leb, lt-leb}
use Rattle.std.specs.Prelude.{Result, Ok, Err}
use Rattle.std.specs.Result.{result_unwrap_or}
use Rattle.std.specs.List.{list_any}
use Rattle.std.specs.Simd.{first_chunks}
use Rattle.refusal.specs.declared.Refusal.{Refusal}
use Rattle.refusal.specs.declared.Refusal.TheVariants.{ImageShort, ImageLong, WorkShort, NoValid}
use Rattle.refusal.specs.Refusal.{number, number_of}
use Rattle.tally.specs.Tally.{no_tally}
use Rattle.bank.specs.Bank.{Slot, bank_size}
use Rattle.bank.specs.Read.{read_bank}
use Rattle.bank.proofs.PartitionLaws.{bank_size_lem}
use Rattle.book.specs.Book.{part_size}
use Rattle.book.specs.Opening.{read_slots, is_valid, any_valid, banks_of, book_of, Opened, opened, refused, opening}
use Rattle.book.proofs.BookLaws.{part_size_lem}
use Rattle.nvram.specs.declared.state.Nvram.{Nvram}
use Rattle.nvram.specs.Layout.{lay_state, lay_work}
use Rattle.nvram.specs.Contract.{no_state, Begun, begun}

-- the banks are the image's first chunks
chunks_read : (n : ℕ) (image : List ℕ) → map read_bank (first_chunks bank_size n image) ≡ read_slots n image
unfolding read_slots
chunks_read zero image = refl
chunks_read (suc n) image = ap (λ (ss : List Slot). read_bank (take bank_size image) ∷ ss) (chunks_read n (drop bank_size image))

pub any_read : (bs : List (List ℕ)) → list_any (λ b. is_valid (read_bank b)) bs ≡ any_valid (map read_bank bs)
unfolding any_valid
any_read [] = refl
any_read (b ∷ bs) = ap (λ (t : Bool). is_valid (read_bank b) || t) (any_read bs)

-- what an opening answers, at each exit
abbrev pub Gives : Result Nvram Refusal → List ℕ → Begun → Type 0
Gives r v x = (number_of r ≡ x.number) × (result_unwrap_or r no_state ≡ x.state) × (v ≡ x.work)

module _ (image w : List ℕ) where
  abbrev answers : Begun
  answers = begun (opening image (length w)) w

  abbrev count : ℕ
  count = length image / 65536

  counted : banks_of image ≡ count
  counted = ap (λ (k : ℕ). length image / k) bank_size_lem

  parts_size : banks_of image * part_size ≡ count * 131072
  parts_size = ap₂ (λ (x y : ℕ). x * y) counted part_size_lem

  turned_down : (r : Refusal) → opening image (length w) ≡ refused (number r) → Gives (Err r) w answers
  unfolding begun
  turned_down r e = rw e (refl, refl, refl)

  pub open_1 : length image < 65536 → Gives (Err ImageShort) w answers
  unfolding opening
  open_1 h = let l : length image < bank_size = omega (arith, bank_size_lem) in turned_down ImageShort (simp (lt-ltb _ _ l))

  module _ (h1 : 65536 ≤ length image) where
    enough : bank_size ≤ length image
    enough = omega (arith, bank_size_lem)

    pub open_2 : 1114112 ≤ length image → Gives (Err ImageLong) w answers
    unfolding opening
    open_2 h =
        let a = enough in
        let b : 17 * bank_size ≤ length image = omega (arith, bank_size_lem) in
        turned_down ImageLong (simp (le-ltb _ _ a, le-leb _ _ b))

    module _ (h2 : length image < 1114112) where
      few : length image < 17 * bank_size
      few = omega (arith, bank_size_lem)

      pub open_3 : length w < count * 131072 → Gives (Err WorkShort) w answers
      unfolding opening
      open_3 h =
          let a = enough in
          let b = few in
          let d : length w < banks_of image * part_size = omega (arith, parts_size) in
          turned_down WorkShort (simp (le-ltb _ _ a, lt-leb _ _ b, lt-ltb _ _ d))

      module _ (h3 : count * 131072 ≤ length w) (bs : List (List ℕ)) (is : bs ≡ first_chunks 65536 count image) where
        room : banks_of image * part_size ≤ length w
        room = omega (arith, parts_size)

        abbrev slots : List Slot
        slots = map read_bank bs

        slots_are : slots ≡ read_slots (banks_of image) image
        slots_are =
            ap (map read_bank) (is ∙ ap₂ (λ (k n : ℕ). first_chunks k n image) (sym bank_size_lem) (sym counted)) ∙ chunks_read (banks_of image) image

        module _ (t : Bool) (e : t ≡ any_valid slots) where
          any_is : any_valid (read_slots (banks_of image) image) ≡ t
          any_is = ap any_valid (sym slots_are) ∙ sym e

          pub open_4 : t ≡ false → Gives (Err NoValid) w answers
          unfolding opening
          open_4 f =
              let a = enough in
              let b = few in
              let d = room in
              turned_down NoValid (simp (le-ltb _ _ a, lt-leb _ _ b, le-ltb _ _ d, any_is ∙ f))

          pub open_all : (n : ℕ) → n ≡ count → (s : Nvram) (v : List ℕ)
              → (s ≡ lay_state (book_of slots n) no_tally) × (v ≡ lay_work (book_of slots n) w)
              → t ≡ true
              → Gives (Ok s) v answers
          unfolding opening begun
          open_all n q s v p f =
              let a = enough in
              let b = few in
              let d = room in
              let o : opening image (length w) ≡ opened (book_of (read_slots (banks_of image) image) (banks_of image)) =
              simp (le-ltb _ _ a, lt-leb _ _ b, le-ltb _ _ d, any_is ∙ f) in
              let x : answers ≡ begun (opened (book_of slots n)) w =
              ap (λ (y : Opened). begun y w) o ∙ ap₂ (λ (ss : List Slot) (k : ℕ). begun (opened (book_of ss k)) w) (sym slots_are) (counted ∙ sym q) in
              (sym (ap (λ (y : Begun). y.number) x), p.0 ∙ sym (ap (λ (y : Begun). y.state) x), p.1 ∙ sym (ap (λ (y : Begun). y.work) x))
