use mathlib.Core.Path.{◌≡◌}
use lib.Bits.{bit_xor}
use lib.ListN.{drop}
use Rattle.crc32.specs.Table.{shares}
use Rattle.crc32.proofs.late_bytes.Given as goal

abbrev pub invariant-loop-i : goal.invariant-loop-i
invariant-loop-i l = bit_xor l.acc (shares l.t 0 0 (drop l.i l.bytes)) ≡ shares l.t 0 0 (drop 4 l.bytes)
