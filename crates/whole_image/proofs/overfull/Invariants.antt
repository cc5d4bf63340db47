use mathlib.Core.Path.{◌≡◌}
use mathlib.Core.List.{List}
use lib.ListN.{length, drop}
use Rattle.bank.specs.Bank.{Slot}
use Rattle.book.specs.Commit.{any_overfull}
use Rattle.whole_image.specs.Slots.{Slots}
use Rattle.whole_image.proofs.overfull.Given as goal

abbrev pub invariant-loop-entry : goal.invariant-loop-entry
invariant-loop-entry l = (ss : List Slot) → Slots l.entries l.parts ss → any_overfull (drop (length l.yielded) ss) ≡ any_overfull ss
