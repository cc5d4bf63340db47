-- The cause as the code finds it: of a walk (`good_cause`), of a fault in the header (`size_cause` and its like). And a bank is Invalid exactly
-- where a fault is named (`invalid_fault`).
use Prim.Native.Nat.{ℕ}
use mathlib.Core.Path.{◌≡◌, refl, sym, ap, ◌∙◌}
use mathlib.Core.List.{List}
use mathlib.Core.Bool.{Bool, true, false, not, ◌&&◌, cond}
use denote.Enum.Bare.{sameb}
use Rattle.bank.specs.contracts.header.HeaderFault.{the_type}
use lib.Dec.{leb}
use lib.ListN.{length, take}
use Rattle.buffers.specs.Bytes.{all_ff}
use Rattle.buffers.proofs.Laws.{all_ff_is}
use Rattle.bank.specs.declared.header.StoreHeader.{StoreHeader}
use Rattle.std.specs.Prelude.{Result, Ok, Err, Some, None}
use Rattle.bank.specs.declared.header.HeaderFault.{HeaderFault}
use Rattle.bank.specs.declared.header.HeaderFault.TheVariants as head
use Rattle.bank.specs.declared.partition.Stop.{Stop}
use Rattle.bank.specs.declared.partition.Stop.TheVariants as stop
use Rattle.bank.specs.declared.partition.Slot.TheVariants as slot
use Rattle.bank.specs.declared.partition.Walked.{Walked}
use Rattle.bank.specs.Header.{signature, read_header}
use Rattle.bank.specs.Bank.{bank_size}
use Rattle.bank.specs.Read.{walk_from, usable_at, spoils, read_bank}
use Rattle.bank.specs.Answer.{walked, answer, parsed}
use Rattle.bank.proofs.HeaderLaws.{HeadShows, head_shows}
use Rattle.bank.proofs.PartitionLaws.{read_fault, read_spoiled, read_kept}
use Rattle.cause.specs.declared.Cause.TheVariants.{Short, Empty, Signature, Version, Size}
use Rattle.cause.specs.Cause.{stop_cause, walk_cause, head_cause, bank_cause, cause_of, is_fault, is_invalid}
use Rattle.cause.proofs.Facts.{not_erased}

-- of the stops, those that spoil a bank are faults
stop_fault : (c : Stop) (at n : ℕ) → is_fault (stop_cause c at n) ≡ spoils c
stop_fault stop.Blank at n = refl
stop_fault stop.Start at n = refl
stop_fault stop.Length at n = refl
stop_fault stop.End at n = refl
stop_fault stop.Name at n = refl
stop_fault stop.Crc at n = refl

module _ (s : List ℕ) where
  head_cause_lem : (o : Result StoreHeader HeaderFault) → read_header s ≡ o → head_cause s o ≡ bank_cause s
  unfolding bank_cause
  head_cause_lem o e = ap (head_cause s) (sym e)

  pub size_cause : read_header s ≡ Err head.Size → Size ≡ bank_cause s
  unfolding head_cause
  size_cause e = head_cause_lem (Err head.Size) e

  pub version_cause : read_header s ≡ Err head.Version → Version ≡ bank_cause s
  unfolding head_cause
  version_cause e = head_cause_lem (Err head.Version) e

  module _ (e : read_header s ≡ Err head.Signature) where
    pub empty_cause : all_ff s ≡ true → Empty ≡ bank_cause s
    unfolding head_cause
    empty_cause a = rw a at (head_cause_lem (Err head.Signature) e)

    pub signature_cause : all_ff s ≡ false → Signature ≡ bank_cause s
    unfolding head_cause
    signature_cause a = rw a at (head_cause_lem (Err head.Signature) e)

  module _ (h : StoreHeader) (e : read_header s ≡ Ok h) (w : Walked) (q : w ≡ walked 0 (walk_from s h.size 24)) where
    pub good_cause : walk_cause w ≡ bank_cause s
    unfolding head_cause
    good_cause = ap walk_cause q ∙ head_cause_lem (Ok h) e

    good_fault : is_fault (bank_cause s) ≡ is_invalid (Some (answer (read_bank s)))
    good_fault = ap is_fault (sym good_cause) ∙ stop_fault w.stop w.at w.count ∙ go (spoils w.stop) refl
      where
        go : (t : Bool) → spoils w.stop ≡ t → t ≡ is_invalid (Some (answer (read_bank s)))
        go true t = ap (λ x. is_invalid (Some x)) (read_spoiled s h e w q t)
        go false t = ap (λ x. is_invalid (Some x)) (read_kept s h e w q (usable_at w.stop s h.size w.at) t refl)

  unsigned : (t : Bool) → is_fault (cond t Empty Signature) ≡ is_invalid (Some (cond t slot.Empty slot.Invalid))
  unsigned true = refl
  unsigned false = refl

  signed_ff : take 4 s ≡ signature → all_ff s ≡ false
  signed_ff e = go (all_ff s) refl
    where
      go : (t : Bool) → all_ff s ≡ t → t ≡ false
      go true a = absurd (not_erased s e (all_ff_is s a))
      go false a = refl

  shown : (f : HeaderFault) → HeadShows s (Err f)
      → is_fault (head_cause s (Err f)) ≡ is_invalid (Some (cond (not (sameb the_type f head.Size) && all_ff s) slot.Empty slot.Invalid))
  unfolding head_cause
  shown head.Signature k = unsigned (all_ff s)
  shown head.Version k = rw (signed_ff k.0) refl
  shown head.Size k = refl

  fault : (o : Result StoreHeader HeaderFault) → read_header s ≡ o → HeadShows s o → is_fault (bank_cause s) ≡ is_invalid (Some (answer (read_bank s)))
  fault (Ok h) e k = good_fault h e (walked 0 (walk_from s h.size 24)) refl
  fault (Err f) e k = ap is_fault (sym (head_cause_lem (Err f) e)) ∙ shown f k ∙ ap (λ x. is_invalid (Some x)) (sym (read_fault s f e))

pub invalid_fault : (s : List ℕ) → is_fault (cause_of s) ≡ is_invalid (parsed s)
unfolding cause_of parsed
invalid_fault s = both (leb bank_size (length s))
  where
    both : (t : Bool) → is_fault (cond t (bank_cause (take bank_size s)) Short) ≡ is_invalid (cond t (Some (answer (read_bank (take bank_size s)))) None)
    both true = fault (take bank_size s) (read_header (take bank_size s)) refl (head_shows (take bank_size s) (read_header (take bank_size s)) refl)
    both false = refl
