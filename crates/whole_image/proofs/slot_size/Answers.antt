-- `slot_size`: 0 unless the entry is Valid; else a header is read, so that the exit for faults is not reached.
use Rattle.whole_image.proofs.ImageLaws.{size_none, size_good, size_bad}
use Rattle.whole_image.proofs.slot_size.Goals as goal

pub returns-in-Ok : goal.returns-in-Ok
returns-in-Ok c = λ k f e p. size_good c.args.entry.now c.args.part.now c.in-Valid.is _ c.parse.ensures k f e p _ c.in-Ok.is

pub returns-in-Err : goal.returns-in-Err
returns-in-Err c = λ k f e p. size_bad c.args.entry.now c.args.part.now c.in-Valid.is _ c.parse.ensures k f e p _ c.in-Err.is

pub returns-in_default : goal.returns-in_default
returns-in_default c = λ k f e p. size_none c.args.entry.now c.args.part.now c.in_default.not-Valid k e
