-- Any line fits the bytes lent (`line_fits`).
use Prim.Native.Nat.{ℕ, ◌≤◌, ◌<◌}
use mathlib.Core.List.{List}
use native.Mathlib.Omega.{arith}
use lib.ListN.{length}
use Rattle.cause.specs.declared.Cause.{Cause}
use Rattle.cause.specs.declared.Cause.TheVariants.{Short, Empty, Signature, Version, Size, Name, Crc, Blank, Start, Length, End}
use Rattle.cause.specs.Cause.{cause_of, spot_of}
use Rattle.cause.proofs.NamedLaws.{cause_named, spot_low}
use Rattle.text.proofs.TextLaws.{decimal_short, length_fields, length_last}
use Rattle.bankcause.specs.Line.{cause_line, line_size}

short_line : (c : Cause) → (spot_of c).place < 10000000000 → (spot_of c).index < 10000000000 → length (cause_line c) ≤ line_size
unfolding cause_line line_size
short_line Short p i = simp length_last (omega arith)
short_line Empty p i = simp length_last (omega arith)
short_line Signature p i = simp (length_fields, length_last) (omega (arith, decimal_short 9 _ p))
short_line Version p i = simp (length_fields, length_last) (omega (arith, decimal_short 9 _ p))
short_line Size p i = simp (length_fields, length_last) (omega (arith, decimal_short 9 _ p))
short_line (Name s) p i = simp (length_fields, length_last) (omega (arith, decimal_short 9 _ p, decimal_short 9 _ i))
short_line (Crc s) p i = simp (length_fields, length_last) (omega (arith, decimal_short 9 _ p, decimal_short 9 _ i))
short_line Blank p i = simp length_last (omega arith)
short_line Start p i = simp length_last (omega arith)
short_line Length p i = simp length_last (omega arith)
short_line End p i = simp length_last (omega arith)

pub line_fits : (s : List ℕ) → length (cause_line (cause_of s)) ≤ line_size
line_fits s = let l = spot_low _ (cause_of s) (cause_named s) in short_line (cause_of s) (omega arith) (omega arith)
