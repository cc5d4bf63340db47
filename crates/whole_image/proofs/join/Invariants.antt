use Prim.Native.Nat.{◌*◌, ◌≤◌}
use mathlib.Core.Path.{◌≡◌}
use mathlib.Core.Bool.{false}
use mathlib.Core.List.{List}
use lib.ListN.{length}
use Rattle.bank.specs.Bank.{Slot}
use Rattle.book.specs.Commit.{any_overfull}
use Rattle.whole_image.specs.Slots.{Slots}
use Rattle.whole_image.proofs.ImageLaws.{Joined}
use Rattle.whole_image.proofs.join.Given as goal

abbrev pub invariant-loop-entry : goal.invariant-loop-entry
invariant-loop-entry l = record {
  kept : length l.output ≡ length l.initial.output;
  low : l.at ≤ length l.yielded * 65536;
  joined : (ss : List Slot) → Slots l.entries l.parts ss → any_overfull ss ≡ false → Joined ss l.initial.output l.output l.at (length l.yielded);
}
