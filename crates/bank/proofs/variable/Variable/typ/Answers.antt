use mathlib.Core.Path.{◌≡◌}
use mathlib.Core.Bool.{true, false}
use Rattle.buffers.specs.Bytes.{eq_bytes}
use Rattle.bank.specs.Record.{type_of, system_guid}
use Rattle.bank.proofs.variable.Variable.typ.Goals as goal

pub returns-then-same : goal.returns-then-same
unfolding type_of
returns-then-same c = let a : eq_bytes c.args.guid.now system_guid ≡ true = cc in simp a

pub returns-else-same : goal.returns-else-same
unfolding type_of
returns-else-same c = let a : eq_bytes c.args.guid.now system_guid ≡ false = cc in simp a
