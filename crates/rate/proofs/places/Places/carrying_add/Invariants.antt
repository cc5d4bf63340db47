use mathlib.Core.Path.{◌≡◌}
use mir.Val.{bool_byte}
use lib.ListN.{length}
use Rattle.rate.proofs.Carry.{ToCarry}
use Rattle.rate.proofs.places.Places.carrying_add.Given as goal

abbrev pub invariant-loop-i : goal.invariant-loop-i
invariant-loop-i l = let p = l.self.numbers in
    let q = l.other.numbers in
    (ToCarry p q 4 (bool_byte l.initial.over) l.initial.numbers ≡ ToCarry p q l.i (bool_byte l.over) l.numbers) × (length l.numbers ≡ 4)
