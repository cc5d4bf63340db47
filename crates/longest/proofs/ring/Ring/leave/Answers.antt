use mathlib.Core.Path.{sym, ap, ◌∙◌}
use Rattle.longest.specs.Ring.{without}
use Rattle.longest.proofs.RingLaws.{held_goes, held_stays, held_empty}
use Rattle.longest.proofs.ring.Ring.leave.Goals.{else-self-gt0-via-then-self-gt0+else-self-index, else-self-gt0-via-else-self-gt0}
use Rattle.longest.proofs.ring.Ring.leave.Goals as goal

pub returns-then-self-index : goal.returns-then-self-index
returns-then-self-index c =
    let r = c.self.inside in
    sym (held_goes r.places r.head r.len c.args.index c.self.invariant.0 c.if-self-gt0.true c.if-self-index.true) ∙ ap (without c.args.index) c.self.view_is

pub returns-else-self-gt0 : goal.returns-else-self-gt0
returns-else-self-gt0 c =
    let r = c.self.inside in
    let i = c.args.index in
    sym c.self.view_is ∙ sym (elim c.else-self-gt0.branch [ else-self-gt0-via-then-self-gt0+else-self-index w ↦ held_stays r.places r.head r.len i c.self.invariant.0 w.if-self-gt0.true w.if-self-index.false | else-self-gt0-via-else-self-gt0 w ↦ held_empty r.places r.head r.len i w.if-self-gt0.false ]) ∙ ap (without i) c.self.view_is
