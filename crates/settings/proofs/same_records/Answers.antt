-- `same_records`: both walks from 24 compare as those from `at` on; `turn_alike` passes two records, `turn_stop`, `turn_fault`, `turn_other` and `both_end`
-- are the exits.
use native.Mathlib.Omega.{arith}
use mathlib.Core.Path.{sym, ◌∙◌}
use lib.ListN.{length-take, length-drop}
use Rattle.settings.proofs.SideBySide.{record_lent, record_within, turn_alike, turn_other, turn_stop, turn_fault, both_end}
use Rattle.settings.proofs.same_records.Goals as goal

pub returns-then-ends : goal.returns-then-ends
returns-then-ends c = c.ends-then-ends.ensures ∙ sym (c.loop-at.invariant.1 ∙ turn_stop c.args.one.now c.args.other.now c.args.size c.loop-at.at c.told-one c.told-other (omega arith) (sym c.ends.ensures ∙ c.if-ends.true))

pub returns-in_default : goal.returns-in_default
returns-in_default c =
    sym (c.loop-at.invariant.1 ∙ turn_fault c.args.one.now c.args.other.now c.args.size c.loop-at.at c.told-one c.told-other (omega arith) _ c.record_size.ensures (sym c.ends.ensures ∙ c.if-ends.false) c.in_default.is)

pub same_record-requires : goal.same_record-requires
same_record-requires c = (simp (length-take, length-drop) (omega (arith, c.told-one, c.told-other)), record_lent c.args.one.now c.args.other.now c.args.size c.loop-at.at c.told-one c.told-other (omega arith) _ c.record_size.ensures _ c.in-Some.is)

pub returns-then-not-same_record : goal.returns-then-not-same_record
returns-then-not-same_record c = sym (c.loop-at.invariant.1 ∙ turn_other c.args.one.now c.args.other.now c.args.size c.loop-at.at c.told-one c.told-other (omega arith) _ c.record_size.ensures _ c.in-Some.is _ c.same_record.ensures c.if-not-same_record.true)

pub overflow_add-at-in-loop-at : goal.overflow_add-at-in-loop-at
overflow_add-at-in-loop-at c = let w = record_within c.args.one.now c.args.other.now c.args.size c.loop-at.at c.told-one c.told-other (omega arith) _ c.record_size.ensures _ c.in-Some.is in omega (arith, w.1)

pub loop-at-smaller : goal.loop-at-smaller
loop-at-smaller c = let w = record_within c.args.one.now c.args.other.now c.args.size c.loop-at.at c.told-one c.told-other (omega arith) _ c.record_size.ensures _ c.in-Some.is in omega (arith, w.0, w.1)

pub loop-at-preserved : goal.loop-at-preserved
loop-at-preserved c =
    let w = record_within c.args.one.now c.args.other.now c.args.size c.loop-at.at c.told-one c.told-other (omega arith) _ c.record_size.ensures _ c.in-Some.is in
    (omega (arith, w.1), c.loop-at.invariant.1 ∙ turn_alike c.args.one.now c.args.other.now c.args.size c.loop-at.at c.told-one c.told-other (omega arith) _ c.record_size.ensures _ c.in-Some.is _ c.same_record.ensures c.if-not-same_record.false)

pub returns : goal.returns
returns c = sym (c.loop-at.invariant.1 ∙ both_end c.args.one.now c.args.other.now c.args.size c.loop-at.at (omega arith))
