use mathlib.Core.Path.{◌≡◌}
use native.Mathlib.Omega.{arith}
use Prim.Native.Nat.{◌<◌, ◌≤◌}
use lib.IntN.{nat_abs}
use mir.Syntax.{w64}
use mir.ValLaws.{to_z-of_z}
use borrow.Author.Tests.{lt-ltb, le-ltb}
use Rattle.rate.specs.Rate.{rate_of}
use Rattle.rate.specs.Answer.{from_thirds}
use Rattle.rate.proofs.from_thirds.Goals as goal

pub returns-then-n-ge-DAY : goal.returns-then-n-ge-DAY
unfolding from_thirds
returns-then-n-ge-DAY c =
    let e : c.unsigned_abs-n.result ≡ nat_abs c.args.z = rw (to_z-of_z w64 c.args.z c.ranges.z) at c.unsigned_abs-n.ensures.value in
    let h : 5184000 ≤ nat_abs c.args.z = omega (arith, e) in
    rw (le-ltb _ _ h)

pub returns : goal.returns
unfolding from_thirds rate_of
returns c = let k = to_z-of_z w64 c.args.z c.ranges.z in
    let e : c.unsigned_abs-n.result ≡ nat_abs c.args.z = rw k at c.unsigned_abs-n.ensures.value in
    let h : nat_abs c.args.z < 5184000 = omega (arith, e) in
    rw (lt-ltb _ _ h, k, c.places_of.ensures, e)
