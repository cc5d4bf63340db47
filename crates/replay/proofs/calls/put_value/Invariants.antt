use Rattle.std.proofs.Common.{◌≤◌, length}
use Rattle.replay.proofs.calls.put_value.Given as goal

abbrev pub invariant-loop : goal.invariant-loop
invariant-loop l = l.at ≤ length l.out
