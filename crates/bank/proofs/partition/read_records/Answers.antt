-- `read_records`: the walk from 24 stops where and why that from `at` does, which has `count` records before it; `turn_next` passes a record,
-- `turn_halt` and `turn_end` are the exits.
use native.Mathlib.Omega.{arith}
use mathlib.Core.Path.{sym, ◌∙◌}
use Rattle.bank.proofs.PartitionLaws.{turn_next, turn_halt, turn_end}
use Rattle.bank.proofs.partition.read_records.Goals as goal

pub overflow_add-at-in-Ok : goal.overflow_add-at-in-Ok
overflow_add-at-in-Ok c = let a = c.args in let now = c.loop-at in
    let t = turn_next a.nvr.now a.size now.at c.told-nvr c.parse.result (omega arith) c.parse.ensures _ c.in-Ok.is in
    omega (arith, t.within)

pub loop-at-smaller : goal.loop-at-smaller
loop-at-smaller c = let a = c.args in let now = c.loop-at in
    let t = turn_next a.nvr.now a.size now.at c.told-nvr c.parse.result (omega arith) c.parse.ensures _ c.in-Ok.is in
    omega (arith, t.within, t.more)

pub loop-at-preserved : goal.loop-at-preserved
loop-at-preserved c = let a = c.args in let now = c.loop-at in
    let t = turn_next a.nvr.now a.size now.at c.told-nvr c.parse.result (omega arith) c.parse.ensures _ c.in-Ok.is in
    (omega (arith, t.within), omega (arith, t.more), now.invariant.2 ∙ t.same now.count)

pub returns-in-Err : goal.returns-in-Err
returns-in-Err c = let a = c.args in let now = c.loop-at in
    sym (now.invariant.2 ∙ turn_halt a.nvr.now a.size now.at c.told-nvr c.parse.result (omega arith) c.parse.ensures now.count _ c.in-Err.is)

pub returns : goal.returns
returns c = let a = c.args in let now = c.loop-at in sym (now.invariant.2 ∙ turn_end a.nvr.now a.size now.at now.count (omega arith))
