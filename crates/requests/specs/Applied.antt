-- What the code answers of a commit as the book's answer: its number, erase request and write; and the state that a move leaves.
use Rattle.std.specs.Prelude.{ℕ, set, Option, Some, Result, Ok, Err}
use Rattle.refusal.specs.declared.Refusal.{Refusal}
use Rattle.refusal.specs.Refusal.{number_of}
use Rattle.tally.specs.declared.Caller.{Caller}
use Rattle.tally.specs.Tally.{counted}
use Rattle.book.specs.Call.{Answer, committed}
use Rattle.nvram.specs.declared.state.Kind.TheVariants.{Valid}
use Rattle.nvram.specs.declared.state.Nvram.{Nvram}
use Rattle.nvram.specs.Part.{entry}
use Rattle.requests.specs.declared.Written.{Written}
use Rattle.requests.specs.declared.Applied.{Applied}

-- a refused write has no offset and no length
abbrev pub offset_of : Result Written Refusal → ℕ
offset_of (Ok x) = x.offset
offset_of (Err r) = 0

abbrev pub length_of : Result Written Refusal → ℕ
length_of (Ok x) = x.length
length_of (Err r) = 0

abbrev pub applied : Applied → Answer
applied r = committed (number_of r.written) r.erase (offset_of r.written) (length_of r.written)

-- a state after a move: the bank in slot i, which becomes active, and the erase request counted for the caller
unfoldable pub moved_state : Nvram → ℕ → ℕ → ℕ → Caller → Option ℕ → Nvram
moved_state s i total usable caller erase =
    record { n = s.n; active = i; tally = counted (Some caller) erase s.tally; banks = set s.banks i (entry Valid total usable) }
