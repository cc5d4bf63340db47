-- A slot, a comparison, a cause and a run log's answer as the numbers that cross to C.
use Rattle.std.specs.Prelude.{ℕ, ◌*◌, ◌≡◌, List, [], ◌∷◌, Bool, Option, None, Some, Result, Ok, Err, cond, get_or, take, replicate}
use Rattle.bank.specs.declared.partition.Slot.{Slot}
use Rattle.bank.specs.declared.partition.Slot.TheVariants.{Empty, Invalid, Valid}
use Rattle.cause.specs.declared.Cause.{Cause}
use Rattle.cause.specs.declared.Cause.TheVariants as cause
use Rattle.cause.specs.Cause.{spot_of}
use Rattle.refusal.specs.declared.Refusal.{Refusal}
use Rattle.refusal.specs.Refusal.{number_of}
use Rattle.run_log.specs.Output.{answer_of, count_of, given}
use Rattle.run_log.specs.RunLog.{log_bytes}

-- 0 where too few bytes are lent
abbrev pub slot_number : Option Slot → ℕ
slot_number None = 0
slot_number (Some Empty) = 1
slot_number (Some Invalid) = 2
slot_number (Some (Valid p)) = 3

-- size, generation, state, flags, system limit, common limit, total, usable; zeros unless Valid
abbrev pub slot_fields : Option Slot → List ℕ
slot_fields None = replicate 8 0
slot_fields (Some Empty) = replicate 8 0
slot_fields (Some Invalid) = replicate 8 0
slot_fields (Some (Valid p)) =
    p.header.size ∷ p.header.generation ∷ p.header.state ∷ p.header.flags ∷ p.header.system_size ∷ p.header.common_size
    ∷ p.total_used
    ∷ p.usable_size
    ∷ []

-- 1 for yes, 0 for no and where the comparison is refused
abbrev pub same_field : Result Bool Refusal → List ℕ
same_field (Ok same) = cond same 1 0 ∷ []
same_field (Err r) = 0 ∷ []

abbrev pub cause_number : Cause → ℕ
cause_number cause.Short = 0
cause_number cause.Empty = 1
cause_number cause.Signature = 2
cause_number cause.Version = 3
cause_number cause.Size = 4
cause_number (cause.Name p) = 5
cause_number (cause.Crc p) = 6
cause_number cause.Blank = 7
cause_number cause.Start = 8
cause_number cause.Length = 9
cause_number cause.End = 10

-- the place in the bank, the record's index; zeros where none is named
abbrev pub cause_fields : Cause → List ℕ
cause_fields c = (spot_of c).place ∷ (spot_of c).index ∷ []

-- a run log's call with this result returns r, answers the count q, and leaves a lent output o as o'
abbrev pub Counts : ℕ → Result (List ℕ) Refusal → List ℕ → ℕ → List ℕ → List ℕ → Type 0
Counts unit c o r q o' = (r ≡ number_of (answer_of unit c)) × (q ≡ count_of (answer_of unit c) ∷ []) × (o' ≡ given c o)

-- a log that is accepted is that of the entries that are given
abbrev pub IsLog : List ℕ → ℕ → List ℕ → List ℕ → Type 0
IsLog s r q o' = r ≡ 0 → s ≡ log_bytes (take (3 * get_or q 0 0) o')
