-- `put_number`: the digits that std writes are `decimal` (`decimal_text`); `join` puts the character behind them.
use mathlib.Core.Path.{◌≡◌, ◌∙◌}
use Rattle.text.specs.Text.{decimal, field}
use Rattle.text.proofs.PutLaws.{of_field, behind_field, join}
use Rattle.text.proofs.TextLaws.{decimal_text}
use Rattle.text.proofs.Writer.put_number.Goals.{After-as_bytes}
use Rattle.text.proofs.Writer.put_number.Goals as goal

written : (c : After-as_bytes) → c.as_bytes.result.now ≡ decimal c.args.n
written c = c.as_bytes.ensures.value ∙ c.format.ensures.text ∙ decimal_text c.args.n c.ranges.n.fits

pub put_all-requires : goal.put_all-requires
put_all-requires c = rw (written (goal.at.put_all-requires c).After-as_bytes) (of_field c.args.end c.requires)

pub put-requires : goal.put-requires
put-requires c = behind_field (rw (written (goal.at.put-requires c).After-as_bytes) at c.put_all.ensures) c.requires

pub returns : goal.returns
unfolding field
returns c = join (rw (written (goal.at.returns c).After-as_bytes) at c.put_all.ensures) c.put.ensures
