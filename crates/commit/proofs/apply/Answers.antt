-- `apply`: what is judged is written as it stands by `stays`, or moved by `move_on`.
use mathlib.Core.Path.{sym, ap, ◌∙◌}
use Rattle.std.specs.Prelude.{Ok}
use Rattle.nvram.proofs.ActiveLaws.{active_in, part_within}
use Rattle.commit.specs.Active.{way_of, verdict, MoveDue}
use Rattle.commit.proofs.CommitLaws.{known, from_here, size_high, stays, writes}
use Rattle.commit.proofs.apply.Goals.{In-Ok-Move-default}
use Rattle.commit.proofs.apply.Goals as goal

due : (c : In-Ok-Move-default) → MoveDue (way_of c.args.way) c.args.state.now c.args.work.now
due c b k p q = let j = c.in-Ok-Move-default in sym (sym (ap (λ d. verdict (Ok d)) j.field-0-0-is) ∙ (j.ensures c.args.caller).2 b k p q)

pub write-written-requires : goal.write-written-requires
write-written-requires c =
    let x = c.in-Ok-InPlace-default.ensures c.args.caller in
    (active_in (known x.1), size_high x.1, part_within (known x.1), x.0)

pub move_on-requires : goal.move_on-requires
move_on-requires c =
    let j = c.in-Ok-Move-default.ensures c.args.caller in (j.1, (_, due (goal.at.move_on-requires c).In-Ok-Move-default), j.0)

pub returns-in-Ok-Move-default : goal.returns-in-Ok-Move-default
returns-in-Ok-Move-default c = c.move_on.ensures _ (due (goal.at.returns-in-Ok-Move-default c).In-Ok-Move-default)

pub returns-in-Ok-InPlace-default : goal.returns-in-Ok-InPlace-default
returns-in-Ok-InPlace-default c =
    let j = c.in-Ok-InPlace-default in
    let x = j.ensures c.args.caller in
    writes _ _ _ _ _ _ (size_high x.1) (part_within (known x.1)) c.write-written.ensures
    (stays x.1 _ _ _ x.0 (sym (ap (λ d. verdict (Ok d)) j.field-0-0-is) ∙ from_here x.1 x.2))
