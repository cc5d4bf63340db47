use native.Mathlib.Omega.{arith}
use Prim.Native.Nat.{◌+◌, ◌-◌, ◌*◌}
use mathlib.Core.Path.{◌≡◌, sym, ◌∙◌}
use lib.ListN.{drop}
use Rattle.std.specs.Prelude.{Ok}
use Rattle.buffers.specs.Bytes.{over}
use Rattle.buffers.proofs.LoopSteps.{tail}
use Rattle.leb128.specs.Leb128.{decoded_all}
use Rattle.run_log.specs.RunLog.{read_entry}
use Rattle.run_log.proofs.Reading.{entry_inside}
use Rattle.longest.specs.Longest.{lengths, windows}
use Rattle.longest.proofs.Entries.{lengths_more, lengths_stop, lengths_none}
use Rattle.longest.proofs.SlideLaws.{Slides, begin, done, pushed, not_full, ring_room, full_room, full}
use Rattle.longest.proofs.slide.slide.Goals.{In-Ok, After-push, then-i-first, else-i-first}
use Rattle.longest.proofs.slide.slide.Goals as goal

run : (c : In-Ok) → read_entry 0 c.loop-i.rest.now ≡ Ok (c.in-Ok.entry, c.in-Ok.size)
run c = sym c.read_entry.ensures ∙ c.in-Ok.is

push : (c : After-push) → Slides c.args.window (c.args.window + 1) (over 0 (windows c.args.window 0 (lengths (decoded_all (3 * c.args.count) c.args.s.now))) c.args.out.now) (lengths (decoded_all (3 * (c.args.count - (c.loop-i.i + 1))) (drop c.in-Ok.size c.loop-i.rest.now))) c.loop-i.out c.push.new.self c.loop-i.first (c.loop-i.i + 1)
push c = let l = c.loop-i in
    pushed l.invariant (lengths_more c.args.count l.i l.rest.now (omega arith) (sym c.read_entry.ensures ∙ c.in-Ok.is)) c.push.ensures

pub loop-i-init : goal.loop-i-init
loop-i-init c = let a = c.args in
    let e : a.count - 0 ≡ a.count = omega arith in
    rw (e, c.new-ring.ensures) (begin a.window (lengths (decoded_all (3 * a.count) a.s.now)) a.out.now c.requires.1 c.requires.3)

pub returns-in_default : goal.returns-in_default
returns-in_default c = let l = c.loop-i in
    done l.invariant (lengths_stop c.args.count l.i l.rest.now (omega arith) (sym c.read_entry.ensures ∙ c.in_default.is))

pub slice_bounds-rest-count : goal.slice_bounds-rest-count
slice_bounds-rest-count c = (entry_inside 0 c.loop-i.rest.now (run c)).1

pub slice_bounds-rest-start : goal.slice_bounds-rest-start
slice_bounds-rest-start c = (entry_inside 0 c.loop-i.rest.now (run (goal.at.slice_bounds-rest-start c).In-Ok)).1

pub push-requires : goal.push-requires
push-requires c = ring_room c.loop-i.invariant c.requires.2

pub put_window-requires : goal.put_window-requires
put_window-requires c = full_room (push (goal.at.put_window-requires c).After-push) c.requires.1 c.if-i-first.true

pub loop-i-preserved : goal.loop-i-preserved
loop-i-preserved c =
    let p = push (goal.at.loop-i-preserved c).After-push in
    rw (tail c.loop-i.rest.now c.in-Ok.size) (elim c.if-i-first.branch [
      | then-i-first w ↦ rw (w.out-is, w.ring-is, w.first-is) (full p c.requires.1 w.if-i-first.true w.oldest.ensures w.put_window.ensures w.leave.ensures)
      | else-i-first w ↦ rw (w.out-is, w.ring-is, w.first-is) (not_full p w.if-i-first.false)
    ])

pub returns : goal.returns
returns c = let l = c.loop-i in
    done l.invariant (lengths_none c.args.count l.i l.rest.now (omega arith))
