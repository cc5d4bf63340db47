use native.Mathlib.Omega.{arith}
use Prim.Native.Nat.{◌+◌, ◌≤◌}
use mathlib.Core.Path.{◌≡◌, sym}
use lib.ListN.{length, drop, length-drop}
use Rattle.std.specs.Prelude.{Some}
use Rattle.std.proofs.lemmas.Result.{err_from_is_err_and}
use Rattle.buffers.proofs.LoopSteps.{tail}
use Rattle.leb128.specs.Leb128.{decoded}
use Rattle.leb128.proofs.Decoding.{decoded_inside}
use Rattle.run_log.proofs.Entries.{entry_none, entry_falls, entry_no_seconds, entry_no_turns, entry_run}
use Rattle.run_log.proofs.Reading.{number_is, number_none}
use Rattle.run_log.proofs.reader.read_entry.Goals.{In_ok-seconds, In_ok-turns}
use Rattle.run_log.proofs.reader.read_entry.Goals as goal

pub returns-in_err-start : goal.returns-in_err-start
returns-in_err-start c =
    let p = err_from_is_err_and c.from_residual.result c.from_residual.ensures.1 in
    let n = number_none c.number.ensures c.in_err-start.was in
    let e = entry_none c.args.last c.args.s.now n.0 in
    cc

pub returns-then-start-last : goal.returns-then-start-last
returns-then-start-last c = sym (entry_falls c.args.last c.args.s.now (number_is c.number.ensures c.in_ok-start.was) c.if-start-last.true)

pub slice_bounds-number-count : goal.slice_bounds-number-count
slice_bounds-number-count c = (decoded_inside c.args.s.now (number_is c.number.ensures c.in_ok-start.was)).1

pub slice_bounds-number-start : goal.slice_bounds-number-start
slice_bounds-number-start c = (decoded_inside c.args.s.now (number_is c.number.ensures c.in_ok-start.was)).1

pub returns-in_err-seconds : goal.returns-in_err-seconds
returns-in_err-seconds c =
    let p = err_from_is_err_and c.from_residual-in_err-seconds.result c.from_residual-in_err-seconds.ensures.1 in
    let n = number_none (rw (tail c.args.s.now c.in_ok-start.i) at c.number-2.ensures) c.in_err-seconds.was in
    let e = entry_no_seconds c.args.last c.args.s.now (number_is c.number.ensures c.in_ok-start.was) c.if-start-last.false n.0 in
    cc

second : (c : In_ok-seconds) → decoded (drop c.in_ok-start.i c.args.s.now) ≡ Some (c.in_ok-seconds.seconds, c.in_ok-seconds.j)
second c = number_is (rw (tail c.args.s.now c.in_ok-start.i) at c.number-2.ensures) c.in_ok-seconds.was

second_inside : (c : In_ok-seconds) → c.in_ok-start.i + c.in_ok-seconds.j ≤ length c.args.s.now
second_inside c = omega (arith, (decoded_inside c.args.s.now (number_is c.number.ensures c.in_ok-start.was)).1, (decoded_inside _ (second c)).1, length-drop c.in_ok-start.i c.args.s.now)

pub overflow_add-at : goal.overflow_add-at
overflow_add-at c = omega (arith, second_inside c)

pub slice_bounds-number-count-2 : goal.slice_bounds-number-count-2
slice_bounds-number-count-2 c = second_inside c

pub slice_bounds-number-start-2 : goal.slice_bounds-number-start-2
slice_bounds-number-start-2 c = second_inside (goal.at.slice_bounds-number-start-2 c).In_ok-seconds

pub returns-in_err-turns : goal.returns-in_err-turns
returns-in_err-turns c =
    let p = err_from_is_err_and c.from_residual-in_err-turns.result c.from_residual-in_err-turns.ensures.1 in
    let n = number_none (rw (tail c.args.s.now (c.in_ok-start.i + c.in_ok-seconds.j)) at c.number-3.ensures) c.in_err-turns.was in
    let e = entry_no_turns c.args.last c.args.s.now (number_is c.number.ensures c.in_ok-start.was) c.if-start-last.false (second (goal.at.returns-in_err-turns c).In_ok-seconds) n.0 in
    cc

third : (c : In_ok-turns) → decoded (drop (c.in_ok-start.i + c.in_ok-seconds.j) c.args.s.now) ≡ Some (c.in_ok-turns.turns, c.in_ok-turns.k)
third c = number_is (rw (tail c.args.s.now (c.in_ok-start.i + c.in_ok-seconds.j)) at c.number-3.ensures) c.in_ok-turns.was

pub overflow_add-result : goal.overflow_add-result
overflow_add-result c =
    let at = c.in_ok-start.i + c.in_ok-seconds.j in
    omega (arith, second_inside (goal.at.overflow_add-result c).In_ok-seconds, (decoded_inside _ (third c)).1, length-drop at c.args.s.now)

pub returns : goal.returns
returns c = sym (entry_run c.args.last c.args.s.now (number_is c.number.ensures c.in_ok-start.was) c.if-start-last.false (second (goal.at.returns c).In_ok-seconds) (third c))
