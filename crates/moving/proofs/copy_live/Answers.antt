-- `copy_live`: nothing of a record that isn't live (`copy_live_dead`); a live one is copied or is there already (by `copy_self`): `copy_live_live`.
use mathlib.Core.Path.{◌≡◌, ◌∙◌}
use lib.ListN.{take, drop}
use Rattle.buffers.specs.Bytes.{over}
use Rattle.moving.proofs.CopyLaws.{copy_self}
use Rattle.moving.proofs.LiveLaws.{copy_live_dead, copy_live_live}
use Rattle.moving.proofs.copy_live.Goals.{then-at-to, else-at-to}
use Rattle.moving.proofs.copy_live.Goals as goal

pub returns-then-w-at-ne-ADDED : goal.returns-then-w-at-ne-ADDED
returns-then-w-at-ne-ADDED c =
    let a = c.args in
    copy_live_dead a.w.now a.at a.to a.n c.requires.0 c.if-w-at-ne-ADDED.true

pub returns : goal.returns
returns c =
    let a = c.args in
    let p = c.requires in
    let left : c.if-at-to.w ≡ over a.to (take a.n (drop a.at a.w.now)) a.w.now =
    elim c.if-at-to.branch [
      | then-at-to w ↦ w.w-is ∙ w.copy.ensures
      | else-at-to w ↦ w.w-is ∙ copy_self a.at a.to a.n a.w.now w.if-at-to.false p.1
    ] in
    copy_live_live a.w.now a.at a.to a.n p.0 c.if-w-at-ne-ADDED.false p.1 c.if-at-to.w left
