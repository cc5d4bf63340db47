use mathlib.Core.Path.{◌≡◌, sym, ap, ◌∙◌}
use Rattle.run_log.specs.RunLog.{falls}
use Rattle.run_log.proofs.Writing.{entries_fall, falls_entries, falls_here, falls_more, falls_none}
use Rattle.run_log.proofs.writer.falls.Goals.{After-as_chunks}
use Rattle.run_log.proofs.writer.falls.Goals as goal

by_entries : (c : After-as_chunks) → falls 0 c.args.ns.now ≡ entries_fall 0 c.as_chunks.result.0.now
by_entries c = falls_entries 0 c.args.ns.now ∙ ap (entries_fall 0) (sym c.as_chunks.ensures.front)

pub returns-then-start-last : goal.returns-then-start-last
returns-then-start-last c =
    let l = c.loop-start in
    let f = falls_here c.as_chunks.result.0.now l.start-index l.last c.loop-start-test.true c.if-start-last.true in
    sym (by_entries (goal.at.returns-then-start-last c).After-as_chunks ∙ l.invariant ∙ f)

pub loop-start-preserved : goal.loop-start-preserved
loop-start-preserved c =
    let l = c.loop-start in
    l.invariant ∙ falls_more c.as_chunks.result.0.now l.start-index l.last c.loop-start-test.true c.if-start-last.false

pub returns : goal.returns
returns c =
    let l = c.loop-start in
    sym (by_entries (goal.at.returns c).After-as_chunks ∙ l.invariant ∙ falls_none c.as_chunks.result.0.now l.start-index l.last c.loop-start-test.false)
