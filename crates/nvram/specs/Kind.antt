-- The numbers of the kinds, as a state is stored.
use Rattle.std.specs.Prelude.{◌≡◌, ℕ, ◌<◌, Result, MatchResult}
use Rattle.nvram.specs.declared.state.Kind.{Kind}
use Rattle.nvram.specs.declared.state.Kind.TheVariants.{Empty, Invalid, Valid}
use Rattle.nvram.specs.declared.state.UnknownKind.{UnknownKind}

abbrev pub kind_number : Kind → ℕ
kind_number Empty = 0
kind_number Invalid = 1
kind_number Valid = 2

-- the kind of this number, or that none has it
abbrev pub Names : ℕ → Result Kind UnknownKind → Type 0
Names number r = MatchResult r (λ kind. kind_number kind ≡ number) (λ e. (e.0 ≡ number) × (2 < number))
