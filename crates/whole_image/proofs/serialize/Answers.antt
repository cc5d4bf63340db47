-- `serialize`: refusals 6, 5 and 13 in that order by `does_6`, `short` and `over_size`; else the image is joined (`written`). `at_hand` is what is
-- known after the first test, and `slots_are` the slots that the loops walk.
use native.Mathlib.Omega.{arith}
use mathlib.Core.Path.{refl, sym, ◌∙◌}
use lib.Seq.{length-take-le}
use Rattle.book.specs.Call.{whole_image}
use Rattle.nvram.proofs.CallLaws.{does_6}
use Rattle.nvram.proofs.ActiveLaws.{Sound}
use Rattle.whole_image.proofs.WholeLaws.{room, few, slots_are, short, over_size, written}
use Rattle.whole_image.proofs.serialize.Goals.{Else-not-is_sound, After-as_chunks}
use Rattle.whole_image.proofs.serialize.Goals as goal

at_hand : (c : Else-not-is_sound) → Sound c.args.state c.args.work.now
at_hand c = record {
  bytes = λ i. omega (arith, c.type_inv.work i);
  long = c.well_formed.0.1.1.1.1.1.0.1.0.1;
  ok = sym c.is_sound.ensures ∙ c.if-not-is_sound.false;
}

pub returns-then-not-is_sound : goal.returns-then-not-is_sound
returns-then-not-is_sound c = (does_6 (whole_image _) c.args.state c.args.work.now (sym c.is_sound.ensures ∙ c.if-not-is_sound.true), refl)

pub returns-then-output-n : goal.returns-then-output-n
returns-then-output-n c = (short (at_hand (goal.at.returns-then-output-n c).Else-not-is_sound) c.args.output.now c.if-output-n.true, refl)

pub shared_ref_as_front-entries : goal.shared_ref_as_front-entries
shared_ref_as_front-entries c = few (at_hand (goal.at.shared_ref_as_front-entries c).Else-not-is_sound)

pub slice_bounds-parts-end : goal.slice_bounds-parts-end
slice_bounds-parts-end c = let k = c.as_chunks in
    sym (length-take-le _ k.result.0.now (omega (arith, k.ensures.front_len, room (at_hand (goal.at.slice_bounds-parts-end c).Else-not-is_sound))))

pub returns-then-overfull : goal.returns-then-overfull
returns-then-overfull c = let g = at_hand (goal.at.returns-then-overfull c).Else-not-is_sound in
    (over_size g c.args.output.now c.if-output-n.false (sym c.if-overfull.true ∙ c.overfull.ensures _ (slots_are g _ c.as_chunks.ensures.front)), refl)

pub join-requires : goal.join-requires
join-requires c = let g = at_hand (goal.at.join-requires c).Else-not-is_sound in
    ((_, slots_are g _ c.as_chunks.ensures.front), omega (arith, length-take-le c.args.state.n c.args.state.banks (omega (arith, few g, g.long))))

pub returns : goal.returns
returns c = let g = at_hand (goal.at.returns c).Else-not-is_sound in
    let s = slots_are g _ c.as_chunks.ensures.front in
    let q = sym (c.overfull.ensures _ s) ∙ c.if-overfull.false in
    written g c.args.output.now c.if-output-n.false q c.join.result c.join.new.output (c.join.ensures _ s q)
