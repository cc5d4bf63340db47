-- Erase requests counted by caller (01, 'A commit, from the entry down'; 02, N7): those in its own commits since opening, up to a stop.
use Rattle.std.specs.Prelude.{ℕ, ◌+◌, min, Bool, true, false, Option, None, Some}
use Rattle.tally.specs.declared.Caller.{Caller}
use Rattle.tally.specs.declared.Caller.TheVariants.{Clock, Barrel}
use Rattle.tally.specs.declared.Tally.{Tally}

-- a tally stops at 4,294,967,295
abbrev pub stopped : ℕ → ℕ
stopped k = min k 4294967295

-- a caller's tally k after a call: whether that is its own commit, and the erase request, if there is one
abbrev pub counted_if : Bool → Option ℕ → ℕ → ℕ
counted_if false e k = k
counted_if true None k = k
counted_if true (Some offset) k = stopped (k + 1)

-- whether somebody's commit, or nobody's, is this caller's own
abbrev pub is_own : Caller → Option Caller → Bool
is_own caller None = false
is_own Clock (Some Clock) = true
is_own Clock (Some Barrel) = false
is_own Barrel (Some Clock) = false
is_own Barrel (Some Barrel) = true

-- the tally of a caller
abbrev pub tally_of : Caller → Tally → ℕ
tally_of Clock t = t.clock
tally_of Barrel t = t.barrel

-- at the opening
abbrev pub no_tally : Tally
no_tally = record { clock = 0; barrel = 0 }

-- after somebody's commit, or after a call that is none, each by itself
abbrev pub counted : Option Caller → Option ℕ → Tally → Tally
counted o e t = record { clock = counted_if (is_own Clock o) e t.clock; barrel = counted_if (is_own Barrel o) e t.barrel }

-- the old total: the sum, stopped at the same number
abbrev pub total_of : Tally → ℕ
total_of t = stopped (t.clock + t.barrel)
