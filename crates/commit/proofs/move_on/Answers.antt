-- `move_on`: `at_hand` is what is known at the start (`Moving`), `left` what the functions called have left (`MoveLeft`); the exits are `does_12`,
-- where the live records are over the size, and `does_move`.
use mathlib.Core.Path.{refl}
use Rattle.book.specs.Commit.{Way}
use Rattle.commit.specs.Active.{MoveDue}
use Rattle.commit.proofs.CommitLaws.{size_high, writes}
use Rattle.commit.proofs.MovingLaws.{Moving, some_bank, next_in, movable, may_raise, total_fits, MoveLeft, new_within, does_12, does_move}
use Rattle.commit.proofs.move_on.Goals.{After-moved, After-row_known-3-1}
use Rattle.commit.proofs.move_on.Goals as goal

-- of any way in which a move is due; one is required (`some_way`)
at_hand : (c : After-row_known-3-1) → (way : Way) → MoveDue way c.args.state.now c.args.work.now → Moving way c.args.state.now c.args.work.now c.args.header
at_hand c way due =
    record { active = c.requires.0; due = due }

abbrev some_way : (c : After-row_known-3-1) → Moving c.requires.1.0 c.args.state.now c.args.work.now c.args.header
some_way c = at_hand c c.requires.1.0 c.requires.1.1

-- what the functions called have left of it
left : (c : After-moved) {way : Way} (known : Moving way c.args.state.now c.args.work.now c.args.header)
    → MoveLeft known c.args.caller c.move_bank-total.result c.move_bank-total.new.work c.request-erase.result c.moved.new.state
left c known = record {
  header = c.raised.result;
  header_raised = c.raised.ensures;
  copied = c.move_bank-total.ensures;
  erase_is = c.request-erase.ensures;
  state = c.moved.ensures;
}

pub nonzero_rem-next : goal.nonzero_rem-next
nonzero_rem-next c = some_bank (some_way c)

pub bounds-state-next : goal.bounds-state-next
bounds-state-next c = next_in (some_way (goal.at.bounds-state-next c).After-row_known-3-1)

pub request-erase-requires : goal.request-erase-requires
request-erase-requires c = next_in (some_way (goal.at.request-erase-requires c).After-row_known-3-1)

pub raised-requires : goal.raised-requires
raised-requires c = may_raise (some_way (goal.at.raised-requires c).After-row_known-3-1)

pub move_bank-total-requires : goal.move_bank-total-requires
move_bank-total-requires c = movable (some_way (goal.at.move_bank-total-requires c).After-row_known-3-1)

pub moved-requires : goal.moved-requires
moved-requires c =
    let m = some_way (goal.at.moved-requires c).After-row_known-3-1 in (next_in m, total_fits m _ _ _ c.move_bank-total.ensures)

pub write-requires : goal.write-requires
write-requires c =
    let before = goal.at.write-requires c in
    let m = some_way before.After-row_known-3-1 in
    (next_in m, size_high m.active, new_within _ (left before.After-moved m), c.requires.2)

pub returns-then-size-total : goal.returns-then-size-total
returns-then-size-total c way due =
    let before = goal.at.returns-then-size-total c in
    let l = left before.After-moved (at_hand before.After-row_known-3-1 way due) in
    (does_12 _ l _ c.requires.2 c.if-size-total.true, refl)

pub returns-else-size-total : goal.returns-else-size-total
returns-else-size-total c way due =
    let before = goal.at.returns-else-size-total c in
    let m = at_hand before.After-row_known-3-1 way due in
    let l = left before.After-moved m in
    writes _ _ _ _ _ _ (size_high m.active) (new_within _ l) c.write.ensures (does_move _ l _ c.requires.2 c.if-size-total.false)
