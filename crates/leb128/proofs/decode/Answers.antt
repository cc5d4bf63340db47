use native.Mathlib.Omega.{arith}
use Rattle.leb128.proofs.DecodeLoop.{passed_none, passed_end, passed_high, passed_more, last_zero, last_large, last_fits}
use Rattle.leb128.proofs.decode.Goals as goal

pub loop-i-init : goal.loop-i-init
loop-i-init c = passed_none c.args.s.now

pub returns-then-scale-ge-LIMIT : goal.returns-then-scale-ge-LIMIT
returns-then-scale-ge-LIMIT c = passed_high c.loop-i.invariant c.if-scale-ge-LIMIT.true

pub returns-then-b-eq0 : goal.returns-then-b-eq0
returns-then-b-eq0 c = last_zero c.loop-i.invariant (omega arith) c.from-b.result c.from-b.ensures c.if-b-lt128.true (omega arith) (omega arith)

pub returns-then-n-ge-LIMIT : goal.returns-then-n-ge-LIMIT
returns-then-n-ge-LIMIT c = last_large c.loop-i.invariant (omega arith) c.from-b.result c.from-b.ensures c.if-b-lt128.true (λ l e. omega arith) c.if-n-ge-LIMIT.true

pub returns-then-b-lt128 : goal.returns-then-b-lt128
returns-then-b-lt128 c = last_fits c.loop-i.invariant (omega arith) c.from-b.result c.from-b.ensures c.if-b-lt128.true (λ l e. omega arith) c.if-n-ge-LIMIT.false

pub loop-i-preserved : goal.loop-i-preserved
loop-i-preserved c = passed_more c.loop-i.invariant (omega arith) c.from-b.result c.from-b.ensures c.if-b-lt128.false (omega arith) (omega arith)

pub returns : goal.returns
returns c = passed_end c.loop-i.invariant (omega arith)
