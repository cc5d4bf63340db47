use mathlib.Core.List.{map}
use Rattle.bank.specs.Read.{read_bank}
use Rattle.opening.proofs.LoadLaws.{Loaded}
use Rattle.opening.proofs.load.Given as goal

abbrev pub invariant-loop-i : goal.invariant-loop-i
invariant-loop-i l = Loaded (map read_bank l.banks) l.initial.work l.i l.work l.entries l.best.generation l.best.active
