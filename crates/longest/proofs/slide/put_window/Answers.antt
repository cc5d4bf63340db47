use native.Mathlib.Omega.{arith}
use Prim.Native.Nat.{◌+◌, ◌*◌}
use mathlib.Core.Path.{sym, ◌∙◌}
use mathlib.Core.List.{[], ◌∷◌}
use lib.ListN.{set, length-set}
use Rattle.buffers.proofs.OverLaws.{over_set, over_cons}
use Rattle.longest.proofs.slide.put_window.Goals as goal

pub returns : goal.returns
returns c = let w = c.args.out.now in
    let p = 2 * c.args.first in
    let q = set w p c.args.longest.seconds in
    over_set (p + 1) c.args.longest.index q (rw length-set (omega arith)) ∙ sym (over_cons p c.args.longest.seconds (c.args.longest.index ∷ []) w (omega arith))
