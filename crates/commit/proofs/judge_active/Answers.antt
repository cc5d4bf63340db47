-- `judge_active`: `at_hand` is a sound state and work area, `active` its Valid bank; the refusals are `check_refuses`, `does_5`, `does_7` and
-- `refuses`, by the book's verdict of the active bank (`decided`).
use mathlib.Core.Path.{◌≡◌, refl, sym, ap, ◌∙◌, subst}
use native.Mathlib.Omega.{arith}
use Rattle.std.specs.Prelude.{Err, Ok, Some}
use Rattle.std.proofs.lemmas.Result.{err_from_is_err_and}
use Rattle.book.specs.Call.{commit}
use Rattle.nvram.proofs.ActiveLaws.{Sound, active_in}
use Rattle.nvram.proofs.CheckLaws.{check_refuses, check_sound, check_other}
use Rattle.commit.specs.Active.{way_of, ActiveKnown, Judges}
use Rattle.commit.proofs.CommitLaws.{of_here, does_5, does_7, checked, used, live_fits, judged, refuses}
use Rattle.commit.proofs.judge_active.Goals.{In_ok-active, In-Some}
use Rattle.commit.proofs.judge_active.Goals as goal

at_hand : (c : In_ok-active) → Sound c.args.state c.args.work.now
at_hand c = check_sound _ _ (λ i. omega (arith, c.type_inv.work i)) (omega arith) _ _ c.check.ensures _ c.in_ok-active.was

summed : (c : In-Some) → c.check.result ≡ Ok (Some c.in-Some.bank)
summed c = c.in_ok-active.was ∙ ap Ok c.in-Some.is

abbrev active : (c : In-Some) (at_hand : Sound c.args.state c.args.work.now) → ActiveKnown c.args.state c.args.work.now c.in-Some.bank.header
active c at_hand = checked at_hand c.check.ensures (summed c)

pub returns-in_err-active : goal.returns-in_err-active
returns-in_err-active c caller =
    let a = c.args in
    let p = err_from_is_err_and c.from_residual.result c.from_residual.ensures.1 in
    subst (Judges (way_of a.way) caller a.state a.work.now a.room) (sym (p.1 ∙ ap Err p.2))
    (check_refuses _ _ (λ i. omega (arith, c.type_inv.work i)) (omega arith) _ _ c.check.ensures _ (commit (way_of a.way) caller a.room) c.in_err-active.was)

pub returns-then-room-lt-SIZE : goal.returns-then-room-lt-SIZE
returns-then-room-lt-SIZE c caller = does_5 (at_hand (goal.at.returns-then-room-lt-SIZE c).In_ok-active) _ _ _ c.if-room-lt-SIZE.true

pub returns-in_default : goal.returns-in_default
returns-in_default c caller =
    let g = at_hand (goal.at.returns-in_default c).In_ok-active in
    does_7 g _ _ _ c.if-room-lt-SIZE.false (check_other _ _ g.bytes g.long _ _ c.check.ensures (c.in_ok-active.was ∙ ap Ok c.in_default.is))

pub bounds-state-state : goal.bounds-state-state
bounds-state-state c = active_in (at_hand (goal.at.bounds-state-state c).In_ok-active)

pub judge_as-requires : goal.judge_as-requires
judge_as-requires c =
    let before = goal.at.judge_as-requires c in
    omega (arith, live_fits (at_hand before.In_ok-active) c.check.ensures (summed before.In-Some))

pub returns-in_err-due : goal.returns-in_err-due
returns-in_err-due c caller =
    let a = c.args in
    let before = goal.at.returns-in_err-due c in
    let g = at_hand before.In_ok-active in
    let p = err_from_is_err_and c.from_residual-in_err-due.result c.from_residual-in_err-due.ensures.1 in
    subst (Judges (way_of a.way) caller a.state a.work.now a.room) (sym (p.1 ∙ ap Err p.2))
    (refuses (active before.In-Some g) _ _ _ c.if-room-lt-SIZE.false _ (judged (active before.In-Some g) _ _ _ _ (used g c.check.ensures (summed before.In-Some)) refl c.in_err-due.ensures))

pub returns : goal.returns
returns c caller =
    let before = goal.at.returns c in
    let g = at_hand before.In_ok-active in
    let k = active before.In-Some g in
    (c.if-room-lt-SIZE.false, k, of_here k _ (judged k _ _ _ _ (used g c.check.ensures (summed before.In-Some)) refl c.in_ok-due.ensures))
