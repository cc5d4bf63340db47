use native.Mathlib.Omega.{arith}
use Prim.Native.Nat.{◌+◌}
use mathlib.Core.Path.{◌≡◌, sym, ◌∙◌}
use lib.ListN.{length}
use Rattle.leb128.proofs.Numbers.{sizes_some}
use Rattle.run_log.specs.RunLog.{log_bytes}
use Rattle.run_log.proofs.Writing.{length_log, write_threes, write_falls, write_long, write_gives, write_refused, write_no_room, write_given}
use Rattle.run_log.proofs.writer.write.Goals.{After-encoded_len_all}
use Rattle.run_log.proofs.writer.write.Goals as goal

size : (c : After-encoded_len_all) → c.encoded_len.result + c.encoded_len_all.result ≡ length (log_bytes c.args.ns.now)
size c = omega (arith, c.encoded_len.ensures.0, c.encoded_len_all.ensures.0, length_log c.args.ns.now)

pub returns-then-ns-ne0 : goal.returns-then-ns-ne0
returns-then-ns-ne0 c = write_refused c.args.ns.now c.args.out.now (write_threes c.args.ns.now (omega arith))

pub returns-then-falls : goal.returns-then-falls
returns-then-falls c = write_refused c.args.ns.now c.args.out.now (write_falls c.args.ns.now (omega arith) (sym c.falls.ensures ∙ c.if-falls.true))

pub returns-then-ns-gt-MOST : goal.returns-then-ns-gt-MOST
returns-then-ns-gt-MOST c = let ns = c.args.ns.now in write_refused ns c.args.out.now (write_long ns (omega arith) (sym c.falls.ensures ∙ c.if-falls.false) (omega (arith, length_log ns, sizes_some ns)))

pub returns-then-size-gt-MOST : goal.returns-then-size-gt-MOST
returns-then-size-gt-MOST c = let ns = c.args.ns.now in write_refused ns c.args.out.now (write_long ns (omega arith) (sym c.falls.ensures ∙ c.if-falls.false) (omega (arith, (size (goal.at.returns-then-size-gt-MOST c).After-encoded_len_all))))

pub returns-then-out-size : goal.returns-then-out-size
returns-then-out-size c = let size = size (goal.at.returns-then-out-size c).After-encoded_len_all in
    let ns = c.args.ns.now in write_no_room ns c.args.out.now (write_gives ns (omega arith) (sym c.falls.ensures ∙ c.if-falls.false) (omega (arith, size))) (omega (arith, size))

pub returns : goal.returns
returns c = let size = size (goal.at.returns c).After-encoded_len_all in
    let ns = c.args.ns.now in write_given ns c.args.out.now (write_gives ns (omega arith) (sym c.falls.ensures ∙ c.if-falls.false) (omega (arith, size))) (omega (arith, size)) size c.encode-at.ensures.0 c.encode-at.ensures.1 c.encode_all.ensures
