use native.Mathlib.Omega.{arith}
use mathlib.Core.Path.{◌≡◌, sym, ◌∙◌}
use lib.ListN.{length}
use Rattle.std.proofs.lemmas.List.{set-get_or}
use Rattle.buffers.proofs.LoopSteps.{tail}
use Rattle.std.specs.Prelude.{Some}
use Rattle.leb128.specs.Leb128.{decoded}
use Rattle.leb128.proofs.Decoding.{decoded_inside}
use Rattle.leb128.proofs.Numbers.{decodes_more, decodes_stop, decodes_none}
use Rattle.leb128.proofs.decode_all.Goals.{In-Some}
use Rattle.leb128.proofs.decode_all.Goals as goal

found : (c : In-Some) → decoded c.loop-number.rest.now ≡ Some (c.in-Some.n, c.in-Some.k)
found c = sym c.decode.ensures ∙ c.in-Some.is

pub returns-in_default : goal.returns-in_default
returns-in_default c = let l = c.loop-number in
    set-get_or l.out l.number-index 0 ∙ sym (l.invariant ∙ decodes_stop (length c.args.out.now) l.number-index l.rest.now l.out (omega arith) (sym c.decode.ensures ∙ c.in_default.is))

pub slice_bounds-rest-count : goal.slice_bounds-rest-count
slice_bounds-rest-count c = (decoded_inside _ (found c)).1

pub slice_bounds-rest-start : goal.slice_bounds-rest-start
slice_bounds-rest-start c = (decoded_inside _ (found (goal.at.slice_bounds-rest-start c).In-Some)).1

pub loop-number-preserved : goal.loop-number-preserved
loop-number-preserved c = let l = c.loop-number in
    rw (tail l.rest.now c.in-Some.k) (l.invariant ∙ decodes_more (length c.args.out.now) l.number-index l.rest.now l.out (omega arith) (omega arith) (found (goal.at.loop-number-preserved c).In-Some))

pub returns : goal.returns
returns c = let l = c.loop-number in
    sym (l.invariant ∙ decodes_none (length c.args.out.now) l.number-index l.rest.now l.out (omega arith))
