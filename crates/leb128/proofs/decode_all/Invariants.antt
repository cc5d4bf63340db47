use Prim.Native.Nat.{◌-◌}
use mathlib.Core.Path.{◌≡◌}
use lib.ListN.{length}
use Rattle.buffers.specs.Bytes.{over}
use Rattle.leb128.specs.Leb128.{decoded_all}
use Rattle.leb128.proofs.decode_all.Given as goal

abbrev pub invariant-loop-number : goal.invariant-loop-number
invariant-loop-number l = over 0 (decoded_all (length l.initial.out) l.s) l.initial.out ≡ over l.number-index (decoded_all (length l.initial.out - l.number-index) l.rest) l.out
