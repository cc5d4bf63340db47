use Prim.Native.Nat.{◌+◌, ◌≤◌}
use mathlib.Core.Path.{◌≡◌}
use lib.ListN.{length, drop}
use Rattle.buffers.specs.Bytes.{over}
use Rattle.leb128.specs.Leb128.{encoded_all}
use Rattle.leb128.proofs.encode_all.Given as goal

abbrev pub invariant-loop-n : goal.invariant-loop-n
invariant-loop-n l = (over l.at (encoded_all l.ns) l.initial.out ≡ over l.p (encoded_all (drop l.n-index l.ns)) l.out) × (l.p + length (encoded_all (drop l.n-index l.ns)) ≤ length l.out)
