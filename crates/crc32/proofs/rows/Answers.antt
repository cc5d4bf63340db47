-- `rows`: TABLE follows the rule by `tables_rule`; the `tt` there is the test of its entries, which antt computes.
use mathlib.Core.Path.{refl}
use Rattle.crc32.specs.Crc32.{poly_if, bit_step, bit_steps}
use Rattle.crc32.proofs.Rule.{tables_rule, both, pairs, count}
use Rattle.crc32.proofs.rows.Goals as goal

pub returns : goal.returns
unfolding both pairs count poly_if bit_step bit_steps
returns c = tables_rule 16 _ tt refl
