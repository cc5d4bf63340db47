use mathlib.Core.Path.{sym, ap, ◌∙◌}
use Rattle.std.proofs.lemmas.Result.{err_from_is_err_and}
use Rattle.buffers.proofs.LoopSteps.{tail}
use Rattle.leb128.proofs.Decoding.{decoded_inside}
use Rattle.run_log.specs.Output.{answer_of}
use Rattle.run_log.proofs.Results.{answer_refused}
use Rattle.run_log.proofs.Reading.{number_is, number_none, log_long, log_none, log_counted}
use Rattle.run_log.proofs.reader.validate.Goals as goal

pub returns-then-s-gt-MOST : goal.returns-then-s-gt-MOST
returns-then-s-gt-MOST c = sym (answer_refused 3 (log_long c.args.s.now c.if-s-gt-MOST.true))

pub returns-in_err-count : goal.returns-in_err-count
returns-in_err-count c =
    let p = err_from_is_err_and c.from_residual.result c.from_residual.ensures.1 in
    let n = number_none c.number.ensures c.in_err-count.was in
    let e = answer_refused 3 (log_none c.args.s.now c.if-s-gt-MOST.false n.0) in
    cc

pub slice_bounds-validate_entries-count : goal.slice_bounds-validate_entries-count
slice_bounds-validate_entries-count c = (decoded_inside c.args.s.now (number_is c.number.ensures c.in_ok-count.was)).1

pub slice_bounds-validate_entries-start : goal.slice_bounds-validate_entries-start
slice_bounds-validate_entries-start c = (decoded_inside c.args.s.now (number_is c.number.ensures c.in_ok-count.was)).1

pub returns : goal.returns
returns c =
    rw (tail c.args.s.now c.in_ok-count.k) at c.validate_entries.ensures
    ∙ sym (ap (answer_of 3) (log_counted c.args.s.now c.if-s-gt-MOST.false (number_is c.number.ensures c.in_ok-count.was)))
