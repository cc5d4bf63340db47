use Prim.Native.Nat.{◌/◌, ◌<◌}
use native.Mathlib.Omega.{arith}
use native.Mathlib.Nat.{mod-eq_of_lt}
use Rattle.rate.specs.Rate.{places_of}
use Rattle.rate.proofs.places.places_of.Goals as goal

pub returns : goal.returns
unfolding places_of
returns c = let h : c.args.n / 60 / 60 / 60 < 24 = omega arith in rw (mod-eq_of_lt h)
