-- `cause_line`: a short `out` is left alone (`left_alone`); else the line, which fits (`line_fits`), is put at its front (`left_printed`).
use mathlib.Core.Path.{ap}
use native.Mathlib.Omega.{arith}
use lib.ListN.{length}
use borrow.Author.Rules.{rules}
use Rattle.cause.specs.Cause.{cause_of}
use Rattle.text.proofs.PutLaws.{left_alone, left_printed}
use Rattle.bankcause.specs.Line.{cause_line, line_size}
use Rattle.bankcause.proofs.LineLaws.{line_fits}
use Rattle.bankcause.proofs.line.cause_line.Goals as goal

pub returns-then-out-lt-OUT : goal.returns-then-out-lt-OUT
unfolding line_size
returns-then-out-lt-OUT c =
    let r = left_alone line_size (cause_line (cause_of c.args.nvr.now)) c.args.out.now (omega arith) in
    record { prefix_len = r.0; value = r.1 }

pub put_cause-requires : goal.put_cause-requires
unfolding line_size
put_cause-requires c = let w = c.new-w.ensures.front in
    rw c.bank_cause.ensures.value (record { fits = omega (arith, line_fits c.args.nvr.now, w.0, ap length w.1) })

pub returns : goal.returns
unfolding line_size
returns c = let a = c.args in
    let w = c.new-w.ensures.front in
    let r = left_printed line_size (cause_line (cause_of a.nvr.now)) a.out.now (omega arith) w.0 w.1 (rw c.bank_cause.ensures.value at c.put_cause.ensures) in
    record { prefix_len = search (rules, r.0); value = search (rules, r.1) }
