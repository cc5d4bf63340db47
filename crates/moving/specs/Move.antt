-- The move of a bank in the work area: where records can be moved to, what is kept of each, and that a copy reads a byte before it writes there.
use Rattle.std.specs.Prelude.{ℕ, ◌+◌, ◌-◌, ◌≤◌, cond, List, [], ◌⊎◌, eqb, length, get_or}
use Rattle.bank.specs.Record.{Record}
use Rattle.records.specs.Records.{Holds}

-- copied forward to `to`, each byte from a place up to `end` is read before it is written over
abbrev pub ReadFirst : ℕ → ℕ → ℕ → Type 0
ReadFirst to from end = (to ≤ from) ⊎ (end ≤ to)

-- of a record's bytes, what a move keeps: all if it is live
unfoldable pub live_bytes : List ℕ → List ℕ
live_bytes x = cond (eqb (get_or x 2 0) 0x7F) x []

-- records that can be moved to the part at `part`: another one than theirs, or the same
pub record Movable (w : List ℕ) (from end part : ℕ) : Type 0 where
  pub records : List Record
  pub holds : Holds w from end records
  pub few : 24 + (end - from) ≤ 131072
  pub room : part + 131072 ≤ length w
  pub apart : (part + 24 ≤ from) ⊎ (end ≤ part)
