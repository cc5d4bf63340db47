use mathlib.Core.Path.{refl}
use Rattle.longest.specs.Ring.{held}
use Rattle.longest.proofs.ring.Ring.new.Goals as goal

pub returns : goal.returns
unfolding held
returns c = refl
