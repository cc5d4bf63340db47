use native.Mathlib.Omega.{arith}
use mathlib.Core.Path.{sym, ◌∙◌}
use Rattle.std.proofs.lemmas.Result.{err_from_is_err_and}
use Rattle.buffers.specs.Bytes.{AllBelow}
use Rattle.buffers.proofs.LoopSteps.{tail}
use Rattle.run_log.proofs.Reading.{Accepted, accepted_log, from_inside}
use Rattle.longest.proofs.Answers.{outside, inside, slide_window, slide_refused, slide_many, slide_no_room, slide_room, slide_given}
use Rattle.longest.proofs.longest_runs.Goals.{In_ok-count}
use Rattle.longest.proofs.longest_runs.Goals as goal

taken : (c : In_ok-count) → Accepted c.args.log.now c.in_ok-count.count
taken c = accepted_log c.args.log.now (sym c.in_ok-count.was ∙ c.validate.ensures)

pub returns-then-window-lt1 : goal.returns-then-window-lt1
returns-then-window-lt1 c = slide_window c.args.window c.args.log.now c.args.out.now (outside c.args.window (λ a b. omega (arith, c.then-window-lt1.either)))

pub returns-in_err-count : goal.returns-in_err-count
returns-in_err-count c =
    let p = err_from_is_err_and c.from_residual.result c.from_residual.ensures.1 in
    rw (p.1, p.2) (slide_refused c.args.window c.args.log.now c.args.out.now (inside c.args.window (omega arith) (omega arith)) (sym c.in_err-count.was ∙ c.validate.ensures))

pub returns-then-count-gt-ENTRIES_MOST : goal.returns-then-count-gt-ENTRIES_MOST
returns-then-count-gt-ENTRIES_MOST c = slide_many c.args.window c.args.log.now c.args.out.now (inside c.args.window (omega arith) (omega arith)) (taken (goal.at.returns-then-count-gt-ENTRIES_MOST c).In_ok-count) c.if-count-gt-ENTRIES_MOST.true

pub returns-then-out-windows : goal.returns-then-out-windows
returns-then-out-windows c = slide_no_room c.args.window c.args.log.now c.args.out.now (inside c.args.window (omega arith) (omega arith)) (taken (goal.at.returns-then-out-windows c).In_ok-count) (omega arith) c.saturating_sub-windows.ensures c.if-out-windows.true

pub slice_bounds-slide-count : goal.slice_bounds-slide-count
slice_bounds-slide-count c = from_inside c.args.log.now c.args.out.now (taken (goal.at.slice_bounds-slide-count c).In_ok-count) (λ i. omega (arith, c.type_inv.log i)) c.encoded_len-from.ensures.0

pub slice_bounds-slide-start : goal.slice_bounds-slide-start
slice_bounds-slide-start c = from_inside c.args.log.now c.args.out.now (taken (goal.at.slice_bounds-slide-start c).In_ok-count) (λ i. omega (arith, c.type_inv.log i)) c.encoded_len-from.ensures.0

pub slide-requires : goal.slide-requires
slide-requires c =
    let b : AllBelow 256 c.args.log.now = λ i. omega (arith, c.type_inv.log i) in
    let t = taken (goal.at.slide-requires c).In_ok-count in
    let r = slide_room c.args.window c.args.log.now c.args.out.now (inside c.args.window (omega arith) (omega arith)) t (omega arith) c.saturating_sub-windows.ensures b c.encoded_len-from.ensures.0 c.if-out-windows.false in
    (omega arith, omega arith, omega arith, rw (tail c.args.log.now c.encoded_len-from.result) r)

pub returns : goal.returns
returns c =
    let b : AllBelow 256 c.args.log.now = λ i. omega (arith, c.type_inv.log i) in
    slide_given c.args.window c.args.log.now c.args.out.now (inside c.args.window (omega arith) (omega arith)) (taken (goal.at.returns c).In_ok-count) (omega arith) c.saturating_sub-windows.ensures b c.encoded_len-from.ensures.0 c.if-out-windows.false (rw (tail c.args.log.now c.encoded_len-from.result) at c.slide.ensures)
