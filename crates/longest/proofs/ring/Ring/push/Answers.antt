use native.Mathlib.Omega.{arith}
use Prim.Native.Nat.{◌<◌}
use mathlib.Core.Path.{ap, ◌∙◌}
use mathlib.Core.List.{List, [], ◌∷◌, ◌++◌}
use lib.ListN.{length}
use Rattle.std.proofs.Common.{rules}
use Rattle.longest.specs.declared.ring.Candidate.{Candidate}
use Rattle.longest.specs.Ring.{trimmed}
use Rattle.longest.proofs.RingLaws.{length_held, held_more}
use Rattle.longest.proofs.ring.Ring.push.Goals.{After-self-1}
use Rattle.longest.proofs.ring.Ring.push.Goals as goal

room : (c : After-self-1) → c.not_shorter-len.result < 64
room c =
    let r = c.self.inside in
    omega (arith, c.not_shorter-len.ensures.1, length_held r.places r.head r.len, ap length c.self.view_is)

pub invariant_of-self : goal.invariant_of-self
invariant_of-self c = (c.self.invariant.0, omega (arith, room c))

pub returns : goal.returns
returns c =
    let r = c.self.inside in
    let x = c.args.candidate in
    held_more r.places r.head c.not_shorter-len.result x (search rules) (room c)
    ∙ ap (λ (k : List Candidate). k ++ (x ∷ [])) (c.not_shorter-len.ensures.0 ∙ ap (trimmed x.seconds) c.self.view_is)
