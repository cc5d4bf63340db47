use mathlib.Core.Path.{ap, ◌∙◌}
use Prim.Native.Nat.{ℕ}
use lib.IntN.{pos, neg_ℤ}
use Rattle.rate.specs.Rate.{signed, thirds}
use Rattle.rate.proofs.Signs.{held, neg_held}
use Rattle.rate.proofs.Rate.thirds.Goals as goal

pub returns-then-self : goal.returns-then-self
unfolding signed thirds
returns-then-self c = let m = c.magnitude-n in
    rw c.if-self.true (neg_held (pos m.result) m.ensures.1 ∙ ap (λ (k : ℕ). neg_ℤ (pos k)) m.ensures.0)

pub returns-else-self : goal.returns-else-self
unfolding signed thirds
returns-else-self c = let m = c.magnitude-n in
    rw c.if-self.false (held (pos m.result) m.ensures.1 ∙ ap pos m.ensures.0)
