use mathlib.Core.Path.{◌∙◌}
use Rattle.std.proofs.Common.{rules}
use Rattle.std.proofs.lemmas.Iterator.{YieldsList-from_slice}
use Rattle.std.proofs.lemmas.Iterator.Search.{any_from_yields_List}
use Rattle.bank.specs.Read.{read_bank}
use Rattle.book.specs.Opening.{is_valid}
use Rattle.opening.proofs.OpeningLaws.{any_read}
use Rattle.opening.proofs.any_valid.Goals as goal

pub returns : goal.returns
returns c = any_from_yields_List (λ b. is_valid (read_bank b)) _ _ _ c.any.ensures.ran (YieldsList-from_slice c.args.banks.now cc) (λ x b q k. search rules) ∙ any_read c.args.banks.now
