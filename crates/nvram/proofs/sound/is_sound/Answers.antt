use mathlib.Core.Path.{◌∙◌}
use Rattle.nvram.proofs.SoundLaws.{soundness_sound}
use Rattle.nvram.proofs.sound.is_sound.Goals as goal

pub returns : goal.returns
returns c = c.is_ok.ensures.value ∙ soundness_sound _ _ _ c.check_all.ensures
