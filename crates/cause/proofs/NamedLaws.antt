-- The reader's cause is Named (`cause_named`), by `walk_ind` over the records, and no other is (`named_only`); its place and index lie within the
-- bank (`spot_low`).
use Prim.Native.Nat.{ℕ, ◌+◌, ◌≤◌, ◌<◌}
use mathlib.Core.Path.{◌≡◌, refl, sym, ap, ◌∙◌, subst}
use mathlib.Core.List.{List}
use mathlib.Core.Bool.{true, false}
use native.Mathlib.Omega.{arith}
use lib.ListN.{length, take, drop, replicate}
use lib.Seq.{take_all, length-take-le}
use Rattle.buffers.specs.Bytes.{all_ff}
use Rattle.buffers.proofs.Laws.{clash, all_ff_is, all_ff_replicate, by_test}
use Rattle.bank.specs.declared.header.StoreHeader.{StoreHeader}
use Rattle.std.specs.Prelude.{Result, Ok, Err}
use Rattle.bank.specs.declared.header.HeaderFault.{HeaderFault}
use Rattle.bank.specs.declared.header.HeaderFault.TheVariants as head
use Rattle.bank.specs.declared.partition.Stop.{Stop}
use Rattle.bank.specs.declared.partition.Stop.TheVariants as stop
use Rattle.bank.specs.Number.{u32_at}
use Rattle.bank.specs.Header.{header_of, read_header}
use Rattle.bank.specs.Record.{Record, size_of}
use Rattle.bank.specs.Bank.{bank_size}
use Rattle.bank.specs.Read.{walk_from}
use Rattle.bank.specs.Answer.{walked}
use Rattle.bank.proofs.HeaderLaws.{Headed, HeadShows, head_shows}
use Rattle.bank.proofs.WalkLaws.{Stands, stands_size, Halts, halts, walk_ind}
use Rattle.bank.proofs.PartitionLaws.{one_read, none_read, lent_by}
use Rattle.cause.specs.declared.Cause.{Cause}
use Rattle.cause.specs.declared.Cause.TheVariants.{Short, Empty, Signature, Version, Size, Name, Crc, Blank, Start, Length, End}
use Rattle.cause.specs.Cause.{stop_cause, walk_cause, head_cause, bank_cause, cause_of, spot_of}
use Rattle.cause.specs.Named.{rank, HoldsAt, Begins, behind_header, behind_record, Named}
use Rattle.cause.proofs.Order.{NoneBelow, none_yet, by_order, only}
use Rattle.cause.proofs.Facts.{past_short, past_empty, past_signature, past_version, past_header, past_end, past_blank, past_start, past_length, past_name, past_record}

named_at : {s : List ℕ} {index at : ℕ} (c : Cause) → Begins s index at → HoldsAt s index at c → NoneBelow s index at (rank c) → Named s c
named_at {s} {index} {at} c b h n = record { index = index; at = at; begins = b; holds = h; earliest = n }

-- behind a good header
module _ (s : List ℕ) (l : bank_size ≤ length s) {g : StoreHeader} (d : Headed s g) where
  size_is : g.size ≡ u32_at s 4
  unfolding header_of
  size_is = ap (λ (h : StoreHeader). h.size) d.is

  module _ (index at : ℕ) (b : Begins s index at) where
    ended : g.size ≤ at + 36 → Named s (stop_cause stop.End at index)
    ended e = named_at End b (omega (arith, size_is)) (past_header s index at l d)

    stopped : at + 36 < u32_at s 4 → (c : Stop) → Halts (drop at s) c → Named s (stop_cause c at index)
    stopped i stop.Blank h = named_at Blank b h (past_end s index at l d i)
    stopped i stop.Start h = named_at Start b h.1 (past_blank s index at l d i h.0)
    stopped i stop.Length h = named_at Length b h.1 (past_start s index at l d i h.0)
    stopped i stop.Name h = named_at (Name _) b (h.2, refl) (past_length s index at l d i h.0 h.1)
    stopped i stop.Crc h = named_at (Crc _) b (h.3, refl) (past_name s index at l d i h.0 h.1 h.2)
    stopped i stop.End h = absurd h

  walk_named : (at : ℕ) → (index : ℕ) → Begins s index at → Named s (walk_cause (walked index (walk_from s g.size at)))
  walk_named =
      walk_ind s g.size (λ at w. (index : ℕ) → Begins s index at → Named s (walk_cause (walked index w)))
      (λ at e index b. rw (none_read index stop.End at) (ended index at b e))
      (λ at c i e index b. rw (none_read index c at) (stopped index at b (omega (arith, size_is)) c (halts (drop at s) c e)))
      (λ at r i k ih index b. rw (one_read index r (walk_from s g.size (at + size_of r))) (ih (index + 1) (more at r i k index b)))
    where
      more : (at : ℕ) (r : Record) → at + 36 < g.size → Stands (drop at s) r → (index : ℕ) → Begins s index at → Begins s (index + 1) (at + size_of r)
      more at r i k index b =
          subst (λ (n : ℕ). Begins s (index + 1) (at + n)) (sym (stands_size (drop at s) r k))
          (behind_record b (past_record s index at l d (omega (arith, size_is)) r k))

not_ff : (s : List ℕ) → all_ff s ≡ false → s ≡ replicate (length s) 0xFF → ⊥
not_ff s a e = let t : all_ff s ≡ true = ap all_ff e ∙ all_ff_replicate (length s) in clash cc

module _ (s : List ℕ) (l : bank_size ≤ length s) where
  head_named : (o : Result StoreHeader HeaderFault) → HeadShows s o → Named s (head_cause s o)
  unfolding head_cause bank_size
  head_named (Err head.Signature) h =
      by_test (Named s) (all_ff s) Empty Signature (λ a. named_at Empty behind_header (all_ff_is s a) (past_short s 0 24 l))
      (λ a. named_at Signature behind_header (h (omega arith)) (past_empty s 0 24 l (not_ff s a)))
  head_named (Err head.Version) h = named_at Version behind_header h.1 (past_signature s 0 24 l h.0)
  head_named (Err head.Size) h = named_at Size behind_header h.2 (past_version s 0 24 l h.0 h.1)
  head_named (Ok g) h = walk_named s l h 24 0 behind_header

  bank_named : Named s (bank_cause s)
  unfolding bank_cause
  bank_named = head_named (read_header s) (head_shows s (read_header s) refl)

pub cause_named : (s : List ℕ) → Named (take bank_size s) (cause_of s)
unfolding cause_of
cause_named s =
    lent_by Short bank_cause s (Named (take bank_size s))
    (λ l. bank_named (take bank_size s) (omega (arith, length-take-le bank_size s l)))
    (λ l. rw (take_all bank_size s (omega arith)) (named_at Short behind_header l (none_yet s 0 24)))

pub named_only : (s : List ℕ) (c : Cause) → Named (take bank_size s) c → cause_of s ≡ c
named_only s c n = only (cause_named s) n

pub told_named : (s : List ℕ) (c : Cause) → c ≡ cause_of s → (c ≡ cause_of s) × Named (take bank_size s) c
told_named s c e = (e, subst (Named (take bank_size s)) (sym e) (cause_named s))

-- place and index lie within the bank

index_low : {s : List ℕ} {index at : ℕ} → Begins s index at → index ≤ at
index_low behind_header = omega arith
index_low (behind_record b n) = omega (arith, index_low b)

inside : {s : List ℕ} (index at : ℕ) → NoneBelow s index at 6 → at + 36 < 65536
inside index at n = by_order (at + 36) 65536 (λ l. l) (λ l. absurd (over (omega arith))) (λ e. absurd (over (omega arith)))
  where
    over : 65536 ≤ at + 36 → ⊥
    over l = n Size (omega arith) (λ p. n End (omega arith) (omega (arith, p.1)))

spot_inside : {s : List ℕ} {c : Cause} (n : Named s c) → 9 ≤ rank c → (n.at + 36 < 65536) × (n.index ≤ n.at)
spot_inside n r = (inside n.index n.at (λ d l. n.earliest d (omega arith)), index_low n.begins)

pub spot_low : (s : List ℕ) (c : Cause) → Named s c → ((spot_of c).place < 65536) × ((spot_of c).index < 65536)
spot_low s Short n = (omega arith, omega arith)
spot_low s Empty n = (omega arith, omega arith)
spot_low s Signature n = (omega arith, omega arith)
spot_low s Version n = (omega arith, omega arith)
spot_low s Size n = (omega arith, omega arith)
spot_low s (Name p) n =
    let i = spot_inside n (omega arith) in (rw n.holds.1 (omega arith), rw n.holds.1 (omega arith))
spot_low s (Crc p) n =
    let i = spot_inside n (omega arith) in (rw n.holds.1 (omega arith), rw n.holds.1 (omega arith))
spot_low s Blank n = (omega arith, omega arith)
spot_low s Start n = (omega arith, omega arith)
spot_low s Length n = (omega arith, omega arith)
spot_low s End n = (omega arith, omega arith)
