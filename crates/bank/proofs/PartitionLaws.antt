-- Reading a bank in the numbers that the code has: a turn of the loop over the records (`turn_next`, `turn_halt`, `turn_end`), a bank whose header
-- was read (`read_spoiled`, `read_kept`), a slot by its head, and bytes that are too few.
use Prim.Native.Nat.{ℕ, ◌+◌, ◌-◌, ◌≤◌, ◌<◌}
use mathlib.Core.Path.{◌≡◌, refl, sym, ap, ap₂, ◌∙◌}
use mathlib.Core.Bool.{true, false, not, ◌&&◌, cond}
use denote.Enum.Bare.{sameb}
use Rattle.buffers.specs.Bytes.{all_ff}
use Rattle.bank.specs.contracts.header.HeaderFault.{the_type}
use mathlib.Core.List.{List, [], ◌∷◌}
use native.Mathlib.Omega.{arith}
use borrow.Author.Tests.{lt-leb, le-leb, leb-true, leb-false}
use lib.Dec.{leb}
use lib.ListN.{length, take, drop, length-drop}
use Rattle.std.specs.Array.{IsFirstChunk}
use Rattle.crc32.specs.Crc32.{Bytes}
use Rattle.buffers.proofs.Laws.{clash, by_test}
use lib.Seq.{take_all}
use Rattle.bank.specs.declared.header.StoreHeader.{StoreHeader}
use Rattle.bank.specs.declared.header.HeaderFault.{HeaderFault}
use Rattle.bank.specs.declared.header.HeaderFault.TheVariants.{Signature, Version, Size}
use Rattle.std.specs.Prelude.{Some, None, Result, Ok, Err}
use Rattle.bank.specs.declared.partition.Slot.TheVariants.{Empty, Invalid, Valid}
use Rattle.bank.specs.declared.partition.Stop.{Stop}
use Rattle.bank.specs.declared.partition.Stop.TheVariants.{Blank, End}
use Rattle.bank.specs.declared.partition.Walked.{Walked}
use Rattle.bank.specs.Record.{Record, size_of}
use Rattle.bank.specs.Header.{read_header}
use Rattle.bank.specs.Read.{Item, got, halt, found, Walk, halted, with_first, walk_from, usable_at, spoils, slot_of, erased_slot, after_head, read_bank}
use Rattle.bank.specs.Bank.{bank_size, of_lent}
use Rattle.bank.specs.Totals.{total}
use Rattle.bank.specs.Answer.{step_of, walked, partition_of, answer, parsed}
use Rattle.bank.proofs.WalkLaws.{stands, stands_size, walk_at, walk_end, walk_got, walk_halt}
use Rattle.bank.proofs.ReadFine.{FineWalk, walk_fine}

step_next : (o : Item) (n : ℕ) → Ok n ≡ step_of o → (r : Record) × (o ≡ got r) × (size_of r ≡ n)
unfolding step_of
step_next (got r) n e = (r, refl, cc)
step_next (halt c) n e = clash cc

step_halt : (o : Item) (c : Stop) → Err c ≡ step_of o → o ≡ halt c
unfolding step_of
step_halt (got r) c e = cc
step_halt (halt d) c e = cc

-- a record that was read counts
pub one_read : (k : ℕ) (r : Record) (w : Walk) → walked k (with_first r w) ≡ walked (k + 1) w
unfolding walked
one_read k r w = let e : k + length (r ∷ w.records) ≡ k + 1 + length w.records = omega arith in λ i. record { at = w.at; stop = w.stop; count = e i }

pub none_read : (k : ℕ) (c : Stop) (at : ℕ) → walked k (halted c at) ≡ record { at = at; stop = c; count = k }
unfolding walked
none_read k c at = let e : k + length {A = Record} [] ≡ k = omega arith in λ i. record { at = at; stop = c; count = e i }

pub record Turned (s : List ℕ) (size at n : ℕ) : Type 0 where
  pub more : 36 < n
  pub within : at + n ≤ 65536
  pub same : (k : ℕ) → walked k (walk_from s size at) ≡ walked (k + 1) (walk_from s size (at + n))

module _ (s : List ℕ) (size at : ℕ) (long : length s ≡ 65536) (r : Result ℕ Stop) (h : at + 36 < size)
    (e : r ≡ step_of (found (take (65536 - at) (drop at s)))) where
  here : r ≡ step_of (found (drop at s))
  here = e ∙ ap (λ (l : List ℕ). step_of (found l)) (take_all (65536 - at) (drop at s) (omega (arith, length-drop at s)))

  pub turn_next : (n : ℕ) → r ≡ Ok n → Turned s size at n
  unfolding walked size_of
  turn_next n f =
      let o = step_next (found (drop at s)) n (sym f ∙ here) in
      let st = stands (drop at s) o.0 o.1 in
      record {
        more = omega (arith, o.2);
        within = omega (arith, long, o.2, stands_size (drop at s) o.0 st, st.ends, length-drop at s);
        same =
            λ k. ap (walked k) (walk_got s size at o.0 h o.1) ∙ one_read k o.0 (walk_from s size (at + size_of o.0))
            ∙ ap (λ (i : ℕ). walked (k + 1) (walk_from s size (at + i))) o.2;
      }

  pub turn_halt : (k : ℕ) (c : Stop) → r ≡ Err c → walked k (walk_from s size at) ≡ record { at = at; stop = c; count = k }
  turn_halt k c f = ap (walked k) (walk_halt s size at c h (step_halt (found (drop at s)) c (sym f ∙ here))) ∙ none_read k c at

pub turn_end : (s : List ℕ) (size at k : ℕ) → size ≤ at + 36 → walked k (walk_from s size at) ≡ record { at = at; stop = End; count = k }
turn_end s size at k h = ap (walked k) (walk_end s size at h) ∙ none_read k End at

-- a bank whose header was read, in the numbers that the code has
module _ (s : List ℕ) (h : StoreHeader) (e : read_header s ≡ Ok h) (w : Walked) (q : w ≡ walked 0 (walk_from s h.size 24)) where
  at_is : w.at ≡ (walk_from s h.size 24).at
  unfolding walked
  at_is = ap (λ (x : Walked). x.at) q

  stop_is : w.stop ≡ (walk_from s h.size 24).stop
  unfolding walked
  stop_is = ap (λ (x : Walked). x.stop) q

  bank_is : read_bank s ≡ slot_of s h (walk_from s h.size 24)
  unfolding read_bank after_head
  bank_is = ap (after_head s) e

  pub read_spoiled : spoils w.stop ≡ true → Invalid ≡ answer (read_bank s)
  unfolding slot_of answer
  read_spoiled t = sym (ap answer bank_is ∙ simp (ap spoils (sym stop_is) ∙ t))

  pub read_kept : (u : ℕ) → spoils w.stop ≡ false → u ≡ usable_at w.stop s h.size w.at
      → Valid (record { header = h; total_used = w.at; usable_size = u }) ≡ answer (read_bank s)
  unfolding slot_of answer partition_of total
  read_kept u t v =
      sym
      (ap answer bank_is
      ∙ simp (ap spoils (sym stop_is) ∙ t)
      (λ i. Valid
      (record {
        header = h;
        total_used = (sym (walk_at s h.size 24) ∙ sym at_is) i;
        usable_size = (ap₂ (λ (c : Stop) (a : ℕ). usable_at c s h.size a) (sym stop_is) (sym at_is) ∙ sym v) i;
      })))

  module _ (k : Bytes s) (long : length s ≡ 65536) where
    fine : FineWalk s h.size 24 (walk_from s h.size 24)
    fine = walk_fine s h.size k 24 (omega arith)

    pub at_within : w.at ≤ 65536
    at_within = omega (arith, at_is, fine.high)

    pub blank_within : w.stop ≡ Blank → w.at + 36 < h.size
    blank_within b =
        let n : (walk_from s h.size 24).stop ≡ Blank = sym stop_is ∙ b in
        omega (arith, at_is, fine.inside (λ c. clash cc))

-- a slot by its head, where there is no bank to read
module _ (s : List ℕ) where
  erased_is : answer (erased_slot s) ≡ cond (all_ff s) Empty Invalid
  unfolding erased_slot answer
  erased_is = by_test (λ x. answer x ≡ cond (all_ff s) Empty Invalid) (all_ff s) _ _ (λ a. simp a) (λ a. simp a)

  -- a fault that is not of the size leaves an Empty bank or an Invalid one
  pub read_fault : (f : HeaderFault) → read_header s ≡ Err f → answer (read_bank s) ≡ cond (not (sameb the_type f Size) && all_ff s) Empty Invalid
  unfolding read_bank after_head answer
  read_fault Signature e = ap (λ (o : Result StoreHeader HeaderFault). answer (after_head s o)) e ∙ erased_is
  read_fault Version e = ap (λ (o : Result StoreHeader HeaderFault). answer (after_head s o)) e ∙ erased_is
  read_fault Size e = ap (λ (o : Result StoreHeader HeaderFault). answer (after_head s o)) e

-- any bytes lent
pub bank_size_lem : bank_size ≡ 65536
unfolding bank_size
bank_size_lem = refl

module _ {A : Type 0} (short : A) (of : List ℕ → A) (s : List ℕ) where
  pub lent_short : length s < 65536 → short ≡ of_lent short of s
  lent_short h = let l : length s < bank_size = omega (arith, bank_size_lem) in simp (lt-leb _ _ l)

  pub lent_first : (b : List ℕ) → IsFirstChunk s b 65536 → of b ≡ of_lent short of s
  lent_first b k =
      let e : b ≡ take bank_size s = k.same ∙ ap (λ (n : ℕ). take n s) (sym bank_size_lem) in
      let l : bank_size ≤ length s = omega (arith, bank_size_lem, k.enough) in
      rw e (simp (le-leb _ _ l))

  pub lent_by : (P : A → Type 0) → (bank_size ≤ length s → P (of (take bank_size s))) → (length s < bank_size → P short) → P (of_lent short of s)
  lent_by P f g = by_test P (leb bank_size (length s)) _ _ (λ t. f (leb-true _ _ t)) (λ t. g (leb-false _ _ t))

pub parsed_short : (s : List ℕ) → length s < 65536 → None ≡ parsed s
unfolding parsed
parsed_short s = lent_short None (λ b. Some (answer (read_bank b))) s

pub parsed_long : (s b : List ℕ) → IsFirstChunk s b 65536 → Some (answer (read_bank b)) ≡ parsed s
unfolding parsed
parsed_long s = lent_first None (λ x. Some (answer (read_bank x))) s
