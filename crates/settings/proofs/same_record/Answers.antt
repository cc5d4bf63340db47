-- `same_record`: the states by equality, the rest by `same_fields`.
use native.Mathlib.Omega.{arith}
use Rattle.settings.proofs.RecordBytes.{state_at_lem, begun_long}
use Rattle.settings.proofs.same_record.Goals as goal

pub bounds-one-2 : goal.bounds-one-2
bounds-one-2 c = let p = c.requires.1 in omega (arith, begun_long _ p.0 p.1)

pub bounds-other-2 : goal.bounds-other-2
bounds-other-2 c = let p = c.requires.1 in omega (arith, begun_long _ p.0 p.1, c.requires.0)

pub returns : goal.returns
returns c = λ r e. rw (state_at_lem _ r e) (c.same_fields.ensures _ r e)
