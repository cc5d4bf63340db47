-- Whether a slot is Valid, by the code's test that it is not.
use mathlib.Core.Path.{◌≡◌, refl}
use mathlib.Core.Bool.{true, false, not}
use denote.Enum.Bare.{sameb}
use Rattle.buffers.proofs.Laws.{clash}
use Rattle.nvram.specs.contracts.state.Kind.{the_type}
use Rattle.nvram.specs.declared.state.Kind.{Kind}
use Rattle.nvram.specs.declared.state.Kind.TheVariants.{Empty, Invalid, Valid}

pub not_valid : (k : Kind) → true ≡ not (sameb the_type k Valid) → k ≡ Valid → ⊥
not_valid Empty e q = clash cc
not_valid Invalid e q = clash cc
not_valid Valid e q = clash cc

pub is_valid : (k : Kind) → false ≡ not (sameb the_type k Valid) → k ≡ Valid
is_valid Empty e = clash cc
is_valid Invalid e = clash cc
is_valid Valid e = refl
