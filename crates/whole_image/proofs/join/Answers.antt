-- `join`: if no slot is overfull, the output begins with the bytes of the slots so far and is as it was behind them (`Joined`); `begin`, `more`
-- and `done` are start, turn and end. `at` is at most 65,536 for each slot, so that the output has room.
use native.Mathlib.Omega.{arith}
use Prim.Native.Nat.{◌+◌, ◌-◌, ◌≤◌}
use mathlib.Core.Path.{◌≡◌, refl, sym, ap, ◌∙◌}
use mathlib.Core.List.{[]}
use lib.Seq.{length-take-le}
use lib.ListN.{length, take, drop, length-take, length-drop}
use borrow.Rule.Slice.PartMut.{same_len_mid}
use Rattle.std.proofs.lemmas.Slice.Zip.{zip_turn}
use Rattle.std.proofs.lemmas.List.{length_push}
use Rattle.whole_image.proofs.ImageLaws.{Turn, entries_long, parts_long, size_fits, onto_same, begin, more}
use Rattle.whole_image.proofs.join.Goals.{After-slot_size-size}
use Rattle.whole_image.proofs.join.Goals as goal

turn : (c : After-slot_size-size) → Turn c.args.entries.now c.args.parts.now (length c.loop-entry.yielded) c.in-Some.entry.now c.in-Some.part.now c.slot_size-size.result
turn c =
    let l = c.loop-entry in
    let t = zip_turn c.args.entries.now c.args.parts.now l.yielded c.into_iter-entry-iterator.result l.entry-iterator c.next.new.self c.next.result (cc) (cc) l.yielded_by _ c.in-Some.is c.next.ensures.steps in
    record { here = t.0; entry_is = t.2; part_is = t.3; size_is = c.slot_size-size.ensures }

fits : (c : After-slot_size-size) → c.loop-entry.at + 65536 ≤ length c.args.output.now
fits c = let t = turn c in omega (arith, t.here, c.loop-entry.invariant.low, c.requires.1)

part_long : (c : After-slot_size-size) → length c.in-Some.part.now ≡ 131072
part_long c = let t = turn c in ap length (t.part_is []) ∙ c.told-parts _ (omega (arith, t.here, entries_long c.requires.0.1, parts_long c.requires.0.1))

small : (c : After-slot_size-size) → c.slot_size-size.result ≤ 65536
small c = size_fits (turn c) c.requires.0.1

pub loop-entry-init : goal.loop-entry-init
loop-entry-init c = record { kept = refl; low = omega arith; joined = λ ss s q. begin ss c.args.output.now }

pub slice_bounds-copy-end-in-loop-entry : goal.slice_bounds-copy-end-in-loop-entry
slice_bounds-copy-end-in-loop-entry c =
    let here = (goal.at.slice_bounds-copy-end-in-loop-entry c).After-slot_size-size in omega (arith, fits here, small here, c.loop-entry.invariant.kept)

pub shared_ref_as_front-copy : goal.shared_ref_as_front-copy
shared_ref_as_front-copy c = omega (arith, small (goal.at.shared_ref_as_front-copy c).After-slot_size-size)

pub loop-entry-preserved : goal.loop-entry-preserved
loop-entry-preserved c =
    let here = (goal.at.loop-entry-preserved c).After-slot_size-size in
    let l = c.loop-entry in
    let n = c.slot_size-size.result in
    let x = c.copy in
    let p = length_push l.yielded (c.in-Some.entry, c.in-Some.part) in
    let lent : length (take (l.at + n - l.at) (drop l.at l.output)) ≡ n = simp (length-take, length-drop) (omega (arith, fits here, small here, l.invariant.kept)) in
    let long : length (take n c.in-Some.part.now) ≡ n = length-take-le n c.in-Some.part.now (omega (arith, part_long here, small here)) in
    record {
      kept = same_len_mid l.at _ l.output x.new.dst x.auto.dst ∙ l.invariant.kept;
      low = omega (arith, p, small here, l.invariant.low);
      joined = λ ss s q. rw p (more (turn here) s q (l.invariant.joined ss s q) x.new.dst (x.auto.dst ∙ lent) (x.ensures ∙ onto_same _ _ (long ∙ sym lent)));
    }
