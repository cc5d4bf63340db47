-- `overfull`: whatever slots they are, one is overfull just if one of those that are left is; `pass` is the turn, `stop` and `passed` are the exits.
use native.Mathlib.Omega.{arith}
use mathlib.Core.Path.{◌∙◌, ap}
use Prim.Native.Nat.{ℕ}
use lib.ListN.{length, drop}
use Rattle.book.specs.Commit.{any_overfull}
use Rattle.std.proofs.lemmas.Slice.Zip.{zip_turn, zip_end}
use Rattle.std.proofs.lemmas.List.{length_push}
use Rattle.whole_image.proofs.ImageLaws.{Turn, entries_long, parts_long, stop, pass, passed}
use Rattle.whole_image.proofs.overfull.Goals.{After-slot_size}
use Rattle.whole_image.proofs.overfull.Goals as goal

turn : (c : After-slot_size) → Turn c.args.entries.now c.args.parts.now (length c.loop-entry.yielded) c.in-Some.entry.now c.in-Some.part.now c.slot_size.result
turn c =
    let l = c.loop-entry in
    let t = zip_turn c.args.entries.now c.args.parts.now l.yielded c.into_iter-entry-iterator.result l.entry-iterator c.next.new.self c.next.result (cc) (cc) l.yielded_by _ c.in-Some.is c.next.ensures.steps in
    record { here = t.0; entry_is = t.2; part_is = t.3; size_is = c.slot_size.ensures }

pub returns-then-slot_size-entry : goal.returns-then-slot_size-entry
returns-then-slot_size-entry c = λ ss s. stop (turn (goal.at.returns-then-slot_size-entry c).After-slot_size) s (c.loop-entry.invariant ss s) c.if-slot_size-entry.true

pub loop-entry-preserved : goal.loop-entry-preserved
loop-entry-preserved c = λ ss s. let l = c.loop-entry in
    ap (λ (n : ℕ). any_overfull (drop n ss)) (length_push l.yielded (c.in-Some.entry, c.in-Some.part))
    ∙ pass (turn (goal.at.loop-entry-preserved c).After-slot_size) s (l.invariant ss s) c.if-slot_size-entry.false

pub returns : goal.returns
returns c = λ ss s. let l = c.loop-entry in
    let e = zip_end c.args.entries.now c.args.parts.now l.yielded c.into_iter-entry-iterator.result l.entry-iterator c.next.new.self c.next.result (cc) (cc) l.yielded_by c.in-None.is c.next.ensures.steps in
    passed ss (length l.yielded) (omega (arith, e, entries_long s, parts_long s)) (l.invariant ss s)
