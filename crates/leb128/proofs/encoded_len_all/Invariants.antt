use Prim.Native.Nat.{◌+◌, ◌*◌, ◌≤◌}
use mathlib.Core.Path.{◌≡◌}
use lib.ListN.{length, drop}
use Rattle.leb128.specs.Leb128.{encoded_all}
use Rattle.leb128.proofs.encoded_len_all.Given as goal

abbrev pub invariant-loop-n : goal.invariant-loop-n
invariant-loop-n l = (length (encoded_all l.ns) ≡ l.size + length (encoded_all (drop l.n-index l.ns))) × (l.size ≤ 5 * l.n-index)
