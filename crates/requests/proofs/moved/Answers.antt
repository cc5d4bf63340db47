use mathlib.Core.Path.{◌∙◌, sym}
use Rattle.requests.proofs.RequestLaws.{tally_stays, tally_more, moved_is}
use Rattle.requests.proofs.moved.Goals.{then-is_some, else-is_some}
use Rattle.requests.proofs.moved.Goals as goal

pub returns : goal.returns
returns c = let a = c.args in let t = a.state.now.tally in let e = c.is_some.ensures in
    elim c.if-is_some.branch [
      | then-is_some w ↦ moved_is a.state.now _ _ _ _ _ w.state-is (tally_more t a.caller a.erase _ (sym e ∙ w.if-is_some.true) w.count-state.ensures)
      | else-is_some w ↦ moved_is a.state.now _ _ _ _ _ w.state-is (tally_stays t a.caller a.erase (sym e ∙ w.if-is_some.false))
    ]
