-- `record_lines`: the lines of the records before `at` are put and those from it on are left (`ToList`); `left_all`, `left_turn` and `left_none` are
-- start, turn and end, and `left_sized` keeps the places within the bank.
use native.Mathlib.Omega.{arith}
use mathlib.Core.Path.{◌≡◌}
use lib.ListN.{length}
use borrow.Author.Rules.{rules}
use Rattle.banklist.proofs.RecordLoop.{left_all, left_sized, left_room, left_turn, left_none}
use Rattle.banklist.proofs.listing.record_lines.Goals as goal

pub loop-at-init : goal.loop-at-init
loop-at-init c = let a = c.args in
    let q = c.requires in
    let l : length a.nvr.now ≡ 65536 = search rules in
    left_all a.nvr.now a.w.now a.total q.0 (omega arith) q.1 q.2 q.3

pub slice_bounds-record_line-count : goal.slice_bounds-record_line-count
slice_bounds-record_line-count c = let l : length c.args.nvr.now ≡ 65536 = search rules in
    let z = left_sized c.loop-at.invariant (omega arith) _ l c.parse-h.ensures in
    omega (arith, c.size.ensures)

pub slice_bounds-record_line-start : goal.slice_bounds-record_line-start
slice_bounds-record_line-start c = let l : length c.args.nvr.now ≡ 65536 = search rules in
    let z = left_sized c.loop-at.invariant (omega arith) _ l c.parse-h.ensures in
    omega (arith, c.size.ensures)

pub slice_bounds-record_line-end : goal.slice_bounds-record_line-end
slice_bounds-record_line-end c = let l : length c.args.nvr.now ≡ 65536 = search rules in
    let z = left_sized c.loop-at.invariant (omega arith) _ l c.parse-h.ensures in
    omega (arith, c.size.ensures)

pub record_line-requires : goal.record_line-requires
record_line-requires c = let l : length c.args.nvr.now ≡ 65536 = search rules in
    left_room c.loop-at.invariant (omega arith) _ l c.parse-h.ensures _ c.size.ensures

pub loop-at-preserved : goal.loop-at-preserved
loop-at-preserved c = let l : length c.args.nvr.now ≡ 65536 = search rules in
    left_turn c.loop-at.invariant (omega arith) _ l c.parse-h.ensures _ c.size.ensures _ c.size-at.ensures c.record_line.ensures

pub returns : goal.returns
returns c = left_none c.loop-at.invariant (omega arith)
