use Prim.Native.Nat.{◌≤◌}
use lib.ListN.{length, take}
use Rattle.text.specs.Text.{hex}
use Rattle.text.specs.Put.{Put}
use Rattle.text.proofs.Writer.put_hex.Given as goal

abbrev pub invariant-loop-b : goal.invariant-loop-b
invariant-loop-b l = (l.b-index ≤ length l.bytes) × Put l.initial.self l.self (hex (take l.b-index l.bytes))
