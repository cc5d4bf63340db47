-- `same_fields`: the places of value and end are those of the record (`lengths`), so that all parts are within both slices; the law is `same_fields_bytes`.
use native.Mathlib.Omega.{arith}
use lib.Seq.{length-take-le}
use Rattle.settings.proofs.RecordBytes.{Lengths, lengths, same_fields_bytes}
use Rattle.settings.proofs.same_fields.Goals.{After-size-end}
use Rattle.settings.proofs.same_fields.Goals as goal

at_hand : (c : After-size-end) → Lengths c.args.one.now c.size-value.result c.size-end.result
at_hand c = let p = c.requires.1 in
    lengths _ p.0 p.1 _ c.parse-header.ensures _ _ c.size-value.ensures c.size-end.ensures

pub slice_bounds-same-end : goal.slice_bounds-same-end
slice_bounds-same-end c = let h = at_hand (goal.at.slice_bounds-same-end c).After-size-end in let t = length-take-le 2 c.args.one.now (omega arith) in omega arith

pub slice_bounds-same-end-2 : goal.slice_bounds-same-end-2
slice_bounds-same-end-2 c = let h = at_hand (goal.at.slice_bounds-same-end-2 c).After-size-end in let t = length-take-le 2 c.args.other.now (omega arith) in omega arith

pub slice_bounds-same-end-3 : goal.slice_bounds-same-end-3
slice_bounds-same-end-3 c = let h = at_hand (goal.at.slice_bounds-same-end-3 c).After-size-end in omega arith

pub slice_bounds-same-end-4 : goal.slice_bounds-same-end-4
slice_bounds-same-end-4 c = let h = at_hand (goal.at.slice_bounds-same-end-4 c).After-size-end in omega arith

pub slice_bounds-same-end-5 : goal.slice_bounds-same-end-5
slice_bounds-same-end-5 c = let h = at_hand (goal.at.slice_bounds-same-end-5 c).After-size-end in omega arith

pub slice_bounds-same-end-6 : goal.slice_bounds-same-end-6
slice_bounds-same-end-6 c = let h = at_hand (goal.at.slice_bounds-same-end-6 c).After-size-end in omega arith

pub returns : goal.returns
returns c = same_fields_bytes _ _ (λ i. omega (arith, c.shared_slice_known-1.given i)) (λ i. omega (arith, c.shared_slice_known-2-1.given i)) c.requires.0
    _ _ (at_hand (goal.at.returns c).After-size-end) _ _ _ c.same.ensures c.same-2.ensures c.same-3.ensures
