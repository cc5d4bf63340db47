-- `usable`: by the six reasons to stop. A blank's 36 bytes end below size, as is required; the bytes 0xFF counted behind them are no more than there
-- are (`count_ff_le`).
use lib.ListN.{take, drop, length-take}
use Rattle.buffers.proofs.Laws.{count_ff_le}
use Rattle.bank.specs.Read.{usable_at}
use native.Mathlib.Omega.{arith}
use mathlib.Core.Path.{refl, ap}
use Rattle.std.proofs.Common.{⊎_elim}
use Prim.Native.Nat.{ℕ, ◌+◌, ◌-◌}
use Rattle.bank.proofs.partition.usable.Goals as goal

pub overflow_add-result : goal.overflow_add-result
overflow_add-result c = let a = c.args in let n = a.size - (a.at + 36) in let l = drop (a.at + 36) a.nvr.now in
    omega (arith, c.lead_ff.ensures, count_ff_le (take n l), length-take n l)

pub returns-in-Blank : goal.returns-in-Blank
unfolding usable_at
returns-in-Blank c = rw c.in-Blank.is (ap (λ (n : ℕ). c.args.at + 36 + n) c.lead_ff.ensures)

pub returns-in-Start : goal.returns-in-Start
unfolding usable_at
returns-in-Start c = ⊎_elim (λ e. rw e refl) (λ e. rw e refl) c.in-Start.is

pub returns-in-End : goal.returns-in-End
unfolding usable_at
returns-in-End c = ⊎_elim (λ e. rw e refl) (⊎_elim (λ e. rw e refl) (λ e. rw e refl)) c.in-End.is
