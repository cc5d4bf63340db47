use mathlib.Core.Path.{◌∙◌}
use Rattle.exports.proofs.StoreLaws.{opens_6, opens}
use Rattle.exports.proofs.store.feqyondil_open.Goals as goal

pub returns-then-state-lt-STATE : goal.returns-then-state-lt-STATE
returns-then-state-lt-STATE c = rw c.number.ensures (opens_6 _ _ _ c.if-state-lt-STATE.true)

pub returns : goal.returns
returns c =
    let e = c.parse-opened.ensures in
    opens _ _ _ c.if-state-lt-STATE.false _ _ _ _ (c.number_of.ensures ∙ e.0) (c.unwrap_or.ensures ∙ rw c.no_state.ensures e.1) e.2 c.store.ensures
