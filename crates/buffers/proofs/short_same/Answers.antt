-- `short_same`: `ok` and the comparison from i on make that of the whole (`Both`); `eq_more` takes a byte of each, `eq_none` is the end.
use native.Mathlib.Omega.{arith}
use mathlib.Core.Path.{refl}
use Rattle.buffers.proofs.LoopSteps.{flag_more, flag_none, eq_more, eq_none}
use Rattle.buffers.proofs.short_same.Goals as goal

pub loop-i-init : goal.loop-i-init
loop-i-init c = record { is = refl }

pub loop-i-preserved : goal.loop-i-preserved
loop-i-preserved c = let l = c.loop-i in
    flag_more l.invariant (eq_more c.args.a.now c.args.b.now c.requires l.i (omega arith))

pub returns : goal.returns
returns c = let l = c.loop-i in
    flag_none l.invariant (eq_none c.args.a.now c.args.b.now c.requires l.i (omega arith))
