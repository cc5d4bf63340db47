use mathlib.Core.Path.{◌≡◌}
use lib.ListN.{take}
use Rattle.buffers.specs.Bytes.{over}
use Rattle.state_bytes.specs.State.{all_le32}
use Rattle.state_bytes.proofs.put.Given as goal

abbrev pub invariant-loop-i : goal.invariant-loop-i
invariant-loop-i g l = l.bytes ≡ over l.at (all_le32 (take l.i l.numbers)) l.initial.bytes
