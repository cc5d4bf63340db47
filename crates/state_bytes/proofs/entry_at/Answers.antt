use mathlib.Core.Path.{◌∙◌}
use Rattle.state_bytes.proofs.LoopLaws.{entry_some}
use Rattle.state_bytes.proofs.entry_at.Goals as goal

pub returns : goal.returns
returns c = entry_some _ _ _ _ (c.in-Ok.ensures ∙ c.u32_at.ensures) c.u32_at-total.ensures c.u32_at-usable.ensures
