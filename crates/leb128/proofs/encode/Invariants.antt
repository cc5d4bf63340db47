use Prim.Native.Nat.{◌+◌}
use mathlib.Core.Path.{◌≡◌}
use lib.ListN.{length}
use Rattle.buffers.specs.Bytes.{over}
use Rattle.leb128.specs.Leb128.{encoded}
use Rattle.leb128.proofs.encode.Given as goal

abbrev pub invariant-loop-left : goal.invariant-loop-left
invariant-loop-left l = (over l.at (encoded l.n) l.initial.out ≡ over l.p (encoded l.left) l.out) × (l.p + length (encoded l.left) ≡ l.at + length (encoded l.n)) × (length l.out ≡ length l.initial.out)

abbrev pub decreases-loop-left : goal.decreases-loop-left
decreases-loop-left l = l.left
