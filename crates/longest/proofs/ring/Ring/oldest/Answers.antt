use native.Mathlib.Omega.{arith}
use Prim.Native.Nat.{◌%◌, ◌<◌}
use mathlib.Core.Path.{◌≡◌, sym, ap, ◌∙◌}
use lib.ListN.{length, take}
use Rattle.longest.proofs.RingLaws.{slot, length_held, held_oldest}
use Rattle.longest.proofs.ring.Ring.oldest.Goals as goal

pub returns : goal.returns
unfolding slot
returns c =
    let r = c.self.inside in
    let some : 0 < r.len = omega (arith, length_held r.places r.head r.len, ap length c.self.view_is) in
    let at_head : r.head % 64 ≡ r.head = omega (arith, c.self.invariant.0) in
    ap (take 1) (sym c.self.view_is ∙ held_oldest r.places r.head r.len some) ∙ rw at_head
