use mathlib.Core.Path.{sym}
use Rattle.opening.proofs.LoadLaws.{told_valid, told_other}
use Rattle.opening.proofs.is_valid.Goals as goal

pub returns-in-Valid : goal.returns-in-Valid
returns-in-Valid c = sym (told_valid c.read.result _ c.in-Valid.is _ c.read.ensures).0

pub returns-in_default : goal.returns-in_default
returns-in_default c = sym (told_other c.read.result c.in_default.not-Valid _ c.read.ensures)
