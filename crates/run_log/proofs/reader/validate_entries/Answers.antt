use native.Mathlib.Omega.{arith}
use Prim.Native.Nat.{◌-◌}
use mathlib.Core.Path.{◌≡◌, sym, ◌∙◌}
use Rattle.std.specs.Prelude.{Ok}
use Rattle.std.proofs.lemmas.Bool.Decides.{nat_tests}
use Rattle.std.proofs.lemmas.Result.{err_from_is_err_and}
use Rattle.buffers.proofs.LoopSteps.{tail}
use Rattle.run_log.specs.RunLog.{read_entry}
use Rattle.run_log.proofs.Reading.{answer_from_lem, entry_inside, entries_bad, entries_run, entries_over, entries_end}
use Rattle.run_log.proofs.reader.validate_entries.Goals.{In_ok-entry}
use Rattle.run_log.proofs.reader.validate_entries.Goals as goal

run : (c : In_ok-entry) → read_entry c.loop-i.last c.loop-i.rest.now ≡ Ok (c.in_ok-entry.entry, c.in_ok-entry.size)
run c = sym c.read_entry.ensures ∙ c.in_ok-entry.was

pub loop-i-init : goal.loop-i-init
loop-i-init c = let e : c.args.count - 0 ≡ c.args.count = omega arith in rw e (answer_from_lem _)

pub returns-in_err-entry : goal.returns-in_err-entry
returns-in_err-entry c =
    let l = c.loop-i in
    let p = err_from_is_err_and c.from_residual.result c.from_residual.ensures.1 in
    let e = entries_bad c.args.count l.i l.last l.rest.now (omega arith) (sym c.read_entry.ensures ∙ c.in_err-entry.was) in
    cc

pub slice_bounds-rest-count : goal.slice_bounds-rest-count
slice_bounds-rest-count c = (entry_inside c.loop-i.last c.loop-i.rest.now (run (goal.at.slice_bounds-rest-count c).In_ok-entry)).1

pub slice_bounds-rest-start : goal.slice_bounds-rest-start
slice_bounds-rest-start c = (entry_inside c.loop-i.last c.loop-i.rest.now (run (goal.at.slice_bounds-rest-start c).In_ok-entry)).1

pub loop-i-preserved : goal.loop-i-preserved
loop-i-preserved c =
    let l = c.loop-i in
    rw (tail l.rest.now c.in_ok-entry.size) (l.invariant ∙ entries_run c.args.count l.i l.last l.rest.now (omega arith) (run (goal.at.loop-i-preserved c).In_ok-entry))

pub returns-then-not-is_empty : goal.returns-then-not-is_empty
returns-then-not-is_empty c =
    let l = c.loop-i in
    sym (l.invariant ∙ entries_over c.args.count l.i l.last l.rest.now (omega arith) (omega arith) (grind (arith, nat_tests)))

pub returns : goal.returns
returns c =
    let l = c.loop-i in
    sym (l.invariant ∙ entries_end c.args.count l.i l.last l.rest.now (omega arith) (omega arith) (grind (arith, nat_tests)))
