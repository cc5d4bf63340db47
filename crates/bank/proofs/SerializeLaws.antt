-- What `Partition::serialize` answers and leaves: a law for bytes that are too few, and for each slot that was read.
use Prim.Native.Nat.{ℕ, ◌≤◌, ◌<◌}
use mathlib.Core.Path.{◌≡◌, refl, sym, ap, ◌∙◌}
use mathlib.Core.List.{List}
use mathlib.Core.Bool.{and-false}
use native.Mathlib.Omega.{arith}
use lib.Dec.{leb}
use lib.ListN.{length, take, replicate}
use borrow.Author.Tests.{lt-leb, le-leb}
use Rattle.std.specs.Prelude.{Option, Some, None}
use Rattle.std.specs.Array.{IsFirstChunk}
use Rattle.buffers.proofs.Laws.{clash, by_test}
use Rattle.bank.specs.declared.partition.Partition.{Partition}
use Rattle.bank.specs.declared.partition.Slot.{Slot}
use Rattle.bank.specs.declared.partition.Slot.TheVariants.{Valid}
use Rattle.bank.specs.Bank as bank
use Rattle.bank.specs.Bank.{Bank, bank_size, part_of}
use Rattle.bank.specs.Read.{read_bank}
use Rattle.bank.specs.Totals.{total}
use Rattle.bank.specs.Answer.{partition_of, answer, parsed, serialized_slot, serialized_part}
use Rattle.bank.proofs.PartitionLaws.{bank_size_lem, parsed_short, parsed_long}

-- the answer, taken back
valid_back : (k : bank.Slot) (p : Partition) → answer k ≡ Valid p → (b : Bank) × (k ≡ bank.valid b) × (partition_of b ≡ p)
unfolding answer
valid_back bank.empty p e = clash cc
valid_back bank.invalid p e = clash cc
valid_back (bank.valid b) p e = (b, refl, cc)

blank_part : (n : ℕ) (k : bank.Slot) → ((p : Partition) → answer k ≡ Valid p → ⊥) → part_of n k ≡ replicate n 255
unfolding answer part_of
blank_part n bank.empty f = refl
blank_part n bank.invalid f = refl
blank_part n (bank.valid b) f = absurd (f (partition_of b) refl)

module _ (s out : List ℕ) where
  pub room_short : length out < 65536 → (None ≡ serialized_slot s out) × (out ≡ serialized_part s out)
  unfolding serialized_slot serialized_part
  room_short h = let l : length out < bank_size = omega (arith, bank_size_lem) in (simp (lt-leb _ _ l), simp (lt-leb _ _ l))

  pub bank_short : length s < 65536 → (None ≡ serialized_slot s out) × (out ≡ serialized_part s out)
  unfolding serialized_slot serialized_part
  bank_short h =
      let l : length s < bank_size = omega (arith, bank_size_lem) in
      let p : parsed s ≡ None = sym (parsed_short s h) in
      (by_test (λ (t : Option Slot). None ≡ t) (leb bank_size (length out)) _ _ (λ _. sym p) (λ _. refl), simp (lt-leb _ _ l, and-false))

  -- the bank that was lent
  module _ (room : 65536 ≤ length out) (b : List ℕ) (k : IsFirstChunk s b 65536) where
    enough : bank_size ≤ length out
    enough = omega (arith, bank_size_lem)

    pub slot_is : Some (answer (read_bank b)) ≡ serialized_slot s out
    unfolding serialized_slot
    slot_is = parsed_long s b k ∙ simp (le-leb _ _ enough)

    pub part_is : part_of (length out) (read_bank b) ≡ serialized_part s out
    unfolding serialized_part
    part_is =
        let l : bank_size ≤ length s = omega (arith, k.enough, bank_size_lem) in
        let e : b ≡ take bank_size s = k.same ∙ ap (λ (n : ℕ). take n s) (sym bank_size_lem) in
        rw e (simp (le-leb _ _ enough, le-leb _ _ l))

    pub valid_read : (p : Partition) → answer (read_bank b) ≡ Valid p → (k : Bank) × (read_bank b ≡ bank.valid k) × (p.total_used ≡ total k)
    unfolding partition_of
    valid_read p v = let r = valid_back (read_bank b) p v in (r.0, r.1, sym (ap (λ (y : Partition). y.total_used) r.2))

    -- a slot that isn't Valid leaves 0xFF
    pub part_blank : ((p : Partition) → answer (read_bank b) ≡ Valid p → ⊥) → replicate (length out) 255 ≡ serialized_part s out
    unfolding part_of
    part_blank f = sym (blank_part (length out) (read_bank b) f) ∙ part_is
