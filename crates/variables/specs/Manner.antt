-- An insert's manner (02, N5) as the code gives it.
use Rattle.book.specs.Edit.{Manner, plain, barrel}
use Rattle.variables.specs.declared.edit.Manner as code

abbrev pub manner_of : code.Manner → Manner
manner_of code.TheVariants.Plain = plain
manner_of code.TheVariants.Barrel = barrel
