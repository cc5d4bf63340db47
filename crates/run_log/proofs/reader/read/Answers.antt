use native.Mathlib.Omega.{arith}
use Prim.Native.Nat.{◌*◌}
use mathlib.Core.Path.{sym, ◌∙◌}
use lib.ListN.{drop}
use Rattle.std.proofs.lemmas.Result.{err_from_is_err_and}
use Rattle.buffers.proofs.LoopSteps.{tail}
use Rattle.leb128.proofs.Numbers.{decodes_front}
use Rattle.run_log.proofs.Reading.{Accepted, accepted_log, accepted_small, read_refused, read_no_room, from_inside, read_given}
use Rattle.run_log.proofs.reader.read.Goals.{In_ok-count}
use Rattle.run_log.proofs.reader.read.Goals as goal

taken : (c : In_ok-count) → Accepted c.args.s.now c.in_ok-count.count
taken c = accepted_log c.args.s.now (sym c.in_ok-count.was ∙ c.validate.ensures)

pub returns-in_err-count : goal.returns-in_err-count
returns-in_err-count c =
    let p = err_from_is_err_and c.from_residual.result c.from_residual.ensures.1 in
    rw (p.1, p.2) (read_refused c.args.s.now c.args.out.now (sym c.in_err-count.was ∙ c.validate.ensures))

pub overflow_mul-numbers : goal.overflow_mul-numbers
overflow_mul-numbers c = omega (arith, accepted_small (taken c))

pub returns-then-out-numbers : goal.returns-then-out-numbers
returns-then-out-numbers c = read_no_room c.args.s.now c.args.out.now (taken (goal.at.returns-then-out-numbers c).In_ok-count) c.if-out-numbers.true

pub overflow_cast-count : goal.overflow_cast-count
overflow_cast-count c = omega (arith, accepted_small (taken (goal.at.overflow_cast-count c).In_ok-count))

pub slice_bounds-decode_all-count : goal.slice_bounds-decode_all-count
slice_bounds-decode_all-count c = from_inside c.args.s.now c.args.out.now (taken (goal.at.slice_bounds-decode_all-count c).In_ok-count) (λ i. omega (arith, c.type_inv.s i)) c.encoded_len-from.ensures.0

pub slice_bounds-decode_all-start : goal.slice_bounds-decode_all-start
slice_bounds-decode_all-start c = from_inside c.args.s.now c.args.out.now (taken (goal.at.slice_bounds-decode_all-start c).In_ok-count) (λ i. omega (arith, c.type_inv.s i)) c.encoded_len-from.ensures.0

pub returns : goal.returns
returns c =
    let out = c.args.out.now in
    let s = c.args.s.now in
    let from = c.encoded_len-from.result in
    let given = decodes_front (3 * c.in_ok-count.count) (drop from s) out c.if-out-numbers.false (rw (tail s from) at c.decode_all.ensures) in
    read_given s out (taken (goal.at.returns c).In_ok-count) (λ i. omega (arith, c.type_inv.s i)) c.encoded_len-from.ensures.0 c.if-out-numbers.false given
