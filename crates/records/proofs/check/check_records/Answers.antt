-- `check_records`: the figures of s are those of its bytes from `at` on, with the figures so far added (`Walked`): `begin`, `turn`, `stopped` and
-- `done`. None of the four is over `at`, so adding a record stays in range.
use native.Mathlib.Omega.{arith}
use Prim.Native.Nat.{ℕ, ◌≤◌}
use mathlib.Core.Path.{sym, subst}
use mathlib.Core.List.{List}
use lib.ListN.{length}
use Rattle.buffers.proofs.LoopSteps.{tail}
use Rattle.records.proofs.RecordSteps.{Further, view_onward, view_stop, view_done}
use Rattle.records.proofs.FigureLaws.{begin, turn, stopped, done}
use Rattle.records.proofs.check.check_records.Goals.{In-Some}
use Rattle.records.proofs.check.check_records.Goals as goal

further : (c : In-Some) → Further c.args.s.now c.loop-at.at c.in-Some.end
further c = view_onward c.args.s.now c.loop-at.at c.loop-at-test.true c.next_record.result c.next_record.ensures _ c.in-Some.is

pub loop-at-init : goal.loop-at-init
loop-at-init c = begin _ _ _ c.none-used.ensures

pub returns-in_default : goal.returns-in_default
returns-in_default c = stopped c.loop-at.invariant (view_stop c.args.s.now c.loop-at.at c.loop-at-test.true c.next_record.result c.next_record.ensures c.in_default.is)

pub overflow_sub-end : goal.overflow_sub-end
overflow_sub-end c = omega (arith, (further (goal.at.overflow_sub-end c).In-Some).more)

pub add-used-requires : goal.add-used-requires
add-used-requires c = let m = (further (goal.at.add-used-requires c).In-Some) in
    let f = c.loop-at.invariant.small in
    (subst (λ (l : List ℕ). 36 ≤ length l) (sym (tail c.args.s.now c.loop-at.at)) m.long, omega (arith, m.more, m.within, f.0), omega (arith, m.more, m.within, f.1), omega (arith, m.more, m.within, f.2), omega (arith, m.more, m.within, f.3))

pub loop-at-smaller : goal.loop-at-smaller
loop-at-smaller c = let m = (further (goal.at.loop-at-smaller c).In-Some) in omega (arith, m.more, m.within)

pub loop-at-preserved : goal.loop-at-preserved
loop-at-preserved c = turn c.loop-at.invariant (further (goal.at.loop-at-preserved c).In-Some) c.add-used.result c.add-used.ensures

pub returns : goal.returns
returns c = done c.loop-at.invariant (view_done c.args.s.now c.loop-at.at c.loop-at-test.false)
