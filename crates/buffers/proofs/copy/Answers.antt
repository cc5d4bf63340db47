-- `copy`: the first i bytes are copied and the rest is as it was (`copy_more`). `onto_front` says that this is `onto`.
use native.Mathlib.Omega.{arith}
use Prim.Native.Nat.{min}
use mathlib.Core.Path.{◌≡◌, sym, ◌∙◌}
use lib.ListN.{length}
use Rattle.buffers.proofs.Laws.{onto_front}
use Rattle.buffers.proofs.copy.Goals as goal

pub returns : goal.returns
returns c = let l = c.loop-i in
    let s = c.args.src.now in
    let d = c.args.dst.now in
    let e : l.i ≡ min (length s) (length d) = omega arith in
    l.invariant.1 ∙ rw e (sym (onto_front s d))
