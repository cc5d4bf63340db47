-- `find`: whatever records stand there, what is found from `at` on is what is found in all (`Look`); `look`, `see` and `unseen` are start, turn and
-- end, and a match leaves by the `hit` of `see`.
use mathlib.Core.Path.{sym}
use mathlib.Core.List.{List}
use Rattle.bank.specs.Record.{Record}
use Rattle.records.specs.Match.{found_in}
use Rattle.records.specs.Records.{Holds}
use Rattle.records.proofs.RecordWalk.{Seen, see, unseen}
use Rattle.records.proofs.edit.find.Goals.{After-parse-header}
use Rattle.records.proofs.edit.find.Goals as goal

seen : (c : After-parse-header) (rs : List Record) → Holds c.args.work.now c.args.records.start c.args.records.end rs
    → Seen c.args.key.now c.args.typ c.args.work.now c.loop-at.at c.args.records.end (found_in c.args.key.now c.args.typ c.args.records.start rs) c.parse-header.result
seen c rs h = see (c.loop-at.invariant rs h) c.loop-at-test.true c.parse-header.result c.parse-header.ensures

-- of the records that are known to stand there
here : (c : After-parse-header) → Seen c.args.key.now c.args.typ c.args.work.now c.loop-at.at c.args.records.end (found_in c.args.key.now c.args.typ c.args.records.start c.requires.0) c.parse-header.result
here c = seen c c.requires.0 c.requires.1

pub is_match-requires : goal.is_match-requires
is_match-requires c = (here (goal.at.is_match-requires c).After-parse-header).test

pub returns-then-is_match : goal.returns-then-is_match
returns-then-is_match c = λ rs h. (seen (goal.at.returns-then-is_match c).After-parse-header rs h).hit (sym c.if-is_match.ensures) c.size.result c.size.ensures

pub loop-at-preserved : goal.loop-at-preserved
loop-at-preserved c = λ rs h. (seen (goal.at.loop-at-preserved c).After-parse-header rs h).next (sym c.if-is_match.ensures) c.size-at.result c.size-at.ensures

pub returns : goal.returns
returns c = λ rs h. unseen (c.loop-at.invariant rs h) c.loop-at-test.false
