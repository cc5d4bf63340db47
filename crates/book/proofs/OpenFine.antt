-- A book that was opened is well-formed: `open_fine`, through the exits of `opening` and what the reader of a bank promises.
use Prim.Native.Nat.{ℕ, zero, suc, ◌+◌, ◌*◌, ◌/◌, ◌≤◌, ◌<◌}
use mathlib.Core.Path.{◌≡◌, refl, ap, subst}
use mathlib.Core.List.{List, [], ◌∷◌}
use mathlib.Core.Bool.{true, false}
use native.Mathlib.Nat.{zero-mul}
use native.Mathlib.Omega.{arith}
use lib.Dec.{ltb, leb}
use lib.ListN.{length, take, drop, length-take, length-drop}
use borrow.Author.Tests.{ltb-false, leb-false}
use Rattle.crc32.specs.Crc32.{Bytes}
use Rattle.buffers.proofs.BelowLaws.{below_take, below_drop}
use Rattle.buffers.proofs.Laws.{clash, by_test}
use Rattle.bank.specs.Bank.{Slot, empty, invalid, valid, bank_size}
use Rattle.bank.specs.Read.{read_bank}
use Rattle.bank.proofs.ReadBank.{read_fine}
use Rattle.bank.proofs.PartitionLaws.{bank_size_lem}
use Rattle.book.specs.Book.{part_size, FineSlot, Book, FineSlots, FineBook}
use Rattle.book.specs.Opening.{slot_in, read_slots, active_from, any_valid, banks_of, book_of, Opened, opened, refused, opening}
use Rattle.book.proofs.BookLaws.{part_size_lem}
use Rattle.book.proofs.SlotReads.{slots_long}

-- a book that was opened is fine

slot_of : (s : List ℕ) → Bytes s → length s ≡ 65536 → (k : Slot) → read_bank s ≡ k → FineSlot k
slot_of s b l empty e = tt
slot_of s b l invalid e = tt
slot_of s b l (valid k) e = let f = read_fine s k b (omega arith) e in (f.0, omega (arith, f.1, part_size_lem))

pub bank_fine : (image : List ℕ) (i : ℕ) → Bytes image → (i + 1) * 65536 ≤ length image → FineSlot (slot_in image i)
bank_fine image i b h =
    let s : i * bank_size ≡ i * 65536 = ap (λ (k : ℕ). i * k) bank_size_lem in
    let x = drop (i * bank_size) image in
    slot_of (take bank_size x) (below_take bank_size x (below_drop (i * bank_size) image b))
    (simp (length-take, length-drop) (omega (arith, bank_size_lem))) (slot_in image i) refl

slots_fine : (n : ℕ) (image : List ℕ) → Bytes image → n * 65536 ≤ length image → FineSlots (read_slots n image)
unfolding read_slots
slots_fine zero image b h = tt
slots_fine (suc n) image b h = (
  subst (λ (k : ℕ). FineSlot (read_bank (take bank_size (drop k image)))) (zero-mul bank_size) (bank_fine image 0 b (omega arith)),
  slots_fine n (drop bank_size image) (below_drop bank_size image b) (simp length-drop (omega (arith, bank_size_lem))),
)

active_within : (ss : List Slot) (i best active n : ℕ) → i + length ss ≡ n → active < n → active_from i best active ss < n
unfolding active_from
active_within [] i best active n e h = h
active_within (empty ∷ ss) i best active n e h = active_within ss (suc i) best active n (omega arith) h
active_within (invalid ∷ ss) i best active n e h = active_within ss (suc i) best active n (omega arith) h
active_within (valid b ∷ ss) i best active n e h =
    by_test (λ k. k < n) (ltb best b.header.generation) _ _
    (λ _. active_within ss (suc i) b.header.generation i n (omega arith) (omega arith))
    (λ _. active_within ss (suc i) best active n (omega arith) h)

book_fine : (image : List ℕ) (n : ℕ) → Bytes image → n ≡ length image / 65536 → 65536 ≤ length image → length image < 1114112 → FineBook (book_of (read_slots n image) n)
book_fine image n k e low high =
    let long = slots_long n image in
    record {
      low = omega arith;
      high = omega arith;
      inside = active_within (read_slots n image) 0 0 0 n (omega arith) (omega arith);
      long = long;
      slots_fine = slots_fine n image k (omega arith);
    }

never : (b : Book) (j : ℕ) → refused j ≡ opened b → FineBook b
never b j e = clash cc

pub open_fine : (image : List ℕ) (work : ℕ) (b : Book) → Bytes image → opening image work ≡ opened b → FineBook b
unfolding opening
open_fine image work b k e =
    by_test P (ltb (length image) bank_size) _ _ (λ _. never b 1)
    (λ t1. by_test P (leb (17 * bank_size) (length image)) _ _ (λ _. never b 2)
    (λ t2. by_test P (ltb work (banks_of image * part_size)) _ _ (λ _. never b 3)
    (λ _. by_test P (any_valid (read_slots (banks_of image) image)) _ _ (fine t1 t2) (λ _. never b 4)))) e
  where
    P : Opened → Type 0
    P o = o ≡ opened b → FineBook b

    fine : ltb (length image) bank_size ≡ false → leb (17 * bank_size) (length image) ≡ false → any_valid (read_slots (banks_of image) image) ≡ true
        → opened (book_of (read_slots (banks_of image) image) (banks_of image)) ≡ opened b
        → FineBook b
    fine t1 t2 _ q =
        let z : book_of (read_slots (banks_of image) image) (banks_of image) ≡ b = cc in
        subst FineBook z
        (book_fine image (banks_of image) k (ap (λ (j : ℕ). length image / j) bank_size_lem) (omega (arith, bank_size_lem, ltb-false (length image) bank_size t1))
        (omega (arith, bank_size_lem, leb-false (17 * bank_size) (length image) t2)))
