-- `check_slots`: the check of all slots is that of those from i on with the summary so far (`walk_from`); `walk_start` and `walk_holds` are start and
-- turn, `walk_fails`, `walk_unfree` and `walk_free` the exits.
use native.Mathlib.Omega.{arith}
use mathlib.Core.Path.{◌≡◌, sym, ap, ◌∙◌}
use Prim.Native.Nat.{◌+◌, ◌-◌, ◌<◌}
use mathlib.Core.Bool.{Bool}
use Prim.Native.Nat.{ℕ, ◌*◌, ◌/◌}
use mathlib.Core.List.{List, []}
use Rattle.book.specs.Book.{part_size}
use lib.ListN.{length, get_or, take, drop, length-drop}
use lib.Seq.{take_all}
use borrow.Author.Tests.{eq-eqb, ne_eqb}
use Rattle.std.specs.Prelude.{Option, Err}
use Rattle.std.proofs.lemmas.Result.{err_from_is_err_and}
use Rattle.nvram.specs.declared.summary.Summary.{Summary}
use Rattle.nvram.specs.Layout.{all_free}
use Rattle.nvram.proofs.TableLaws.{part_at, walk_from, walk_start, walk_fails, walk_holds, walk_unfree, walk_free}
use Rattle.nvram.proofs.sound.check_slots.Goals.{Start, After-check_slot, then-is_active, else-is_active}
use Rattle.nvram.proofs.sound.check_slots.Goals as goal

pub loop-i-init : goal.loop-i-init
loop-i-init c = walk_start _ _ _ _ _

part : (c : After-check_slot) → get_or c.as_chunks.result.0.now c.loop-i.i [] ≡ take part_size (drop (c.loop-i.i * part_size) c.args.work.now)
part c = ap (λ (x : List (List ℕ)). get_or x c.loop-i.i []) c.as_chunks.ensures.front ∙ part_at (length c.args.work.now / 131072) c.loop-i.i c.args.work.now [] (omega arith)

pub returns-in_err-here : goal.returns-in_err-here
returns-in_err-here c =
    let p = err_from_is_err_and c.from_residual.result c.from_residual.ensures.1 in
    let l : c.loop-i.i < length c.args.state.banks = omega arith in
    p.1
    ∙ ap Err p.2
    ∙ sym (c.loop-i.invariant ∙ walk_fails _ _ _ _ _ _ _ (omega arith) l _ (part (goal.at.returns-in_err-here c).After-check_slot) _ c.in_err-here.ensures)

pub loop-i-preserved : goal.loop-i-preserved
loop-i-preserved c =
    let l : c.loop-i.i < length c.args.state.banks = omega arith in
    let s = c.args.state in
    let next = λ (u : Option Summary). walk_from s.n s.banks c.args.work.now c.args.counting s.active u (c.loop-i.i + 1) in
    c.loop-i.invariant
    ∙ walk_holds _ _ _ _ _ _ _ (omega arith) l _ (part (goal.at.loop-i-preserved c).After-check_slot) _ c.in_ok-here.ensures
    ∙ ap next (elim c.if-is_active.branch [
      | then-is_active w ↦ rw (eq-eqb _ _ w.if-is_active.true) (sym w.summary-is)
      | else-is_active w ↦ rw (ne_eqb _ _ w.if-is_active.false) (sym w.summary-is)
    ])

free : (c : Start) (t : Bool) → t ≡ all_free (take (16 - c.args.state.n) (drop c.args.state.n c.args.state.banks)) → all_free (drop c.args.state.n c.args.state.banks) ≡ t
free c t e =
    let s = c.args.state in
    sym (e ∙ ap all_free (take_all (16 - s.n) (drop s.n s.banks) (omega (arith, length-drop s.n s.banks))))

pub returns-then-not-all_free : goal.returns-then-not-all_free
returns-then-not-all_free c = sym (c.loop-i.invariant ∙ walk_unfree _ _ _ _ _ _ _ (omega arith) (free (goal.at.returns-then-not-all_free c).Start _ c.if-not-all_free.ensures))

pub returns : goal.returns
returns c = sym (c.loop-i.invariant ∙ walk_free _ _ _ _ _ _ _ (omega arith) (free (goal.at.returns c).Start _ c.if-not-all_free.ensures))
