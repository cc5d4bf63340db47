-- `copy_all_live`: whatever records stand there, the live ones of those left, put at p, make what is wanted (`ToMove`); `begin`, `turn` (`turn_at`)
-- and `done` are start, turn and end. `ToMove` keeps that no byte is written over before it is read.
use Prim.Native.Nat.{◌+◌}
use mathlib.Core.Path.{◌∙◌}
use mathlib.Core.List.{List}
use lib.ListN.{length}
use Rattle.buffers.specs.Bytes.{over}
use Rattle.bank.specs.Record.{Record, live, records_bytes}
use Rattle.bank.specs.Totals.{select}
use Rattle.records.specs.Records.{Holds}
use Rattle.moving.proofs.LiveLaws.{MoveTurn, turn, done, stop_is}
use Rattle.moving.proofs.copy_all_live.Goals.{After-size-n}
use Rattle.moving.proofs.copy_all_live.Goals as goal

-- the turn that the code is in, once it has the record's size
turn_at : (c : After-size-n) → let a = c.args in let l = c.loop-at in (rs : List Record) → Holds a.w.now a.records.start a.records.end rs → MoveTurn l.w l.at a.records.end l.p (a.to + length (records_bytes (select live rs))) (over a.to (records_bytes (select live rs)) a.w.now) c.size-n.result
turn_at c rs h = turn (c.loop-at.invariant.2 rs h) c.loop-at-test.true c.parse-header.result c.parse-header.ensures c.size-n.result c.size-n.ensures

pub copy_live-p-requires : goal.copy_live-p-requires
copy_live-p-requires c = let p = c.requires.0 in
    let t = (turn_at (goal.at.copy_live-p-requires c).After-size-n) p.0 p.1 in
    (t.more, t.inside, t.fits, t.clear)

pub loop-at-preserved : goal.loop-at-preserved
loop-at-preserved c = let turn_at = turn_at (goal.at.loop-at-preserved c).After-size-n in
    let p = c.requires.0 in
    let l = c.loop-at in
    let k = c.copy_live-p in (
      ((turn_at p.0 p.1).next k.result k.new.w k.ensures.0 k.ensures.1).1 ∙ l.invariant.0,
      l.invariant.1,
      λ rs h. ((turn_at rs h).next k.result k.new.w k.ensures.0 k.ensures.1).0,
    )

pub returns : goal.returns
returns c = let a = c.args in
    λ rs h.
    let d = done (c.loop-at.invariant.2 rs h) c.loop-at-test.false in
    (d.0 ∙ stop_is a.w.now a.records.start a.records.end a.to rs h, d.1)
