-- `late_bytes`: `acc`, exclusive-or the shares of the bytes from i on, is the shares of all; `late_more` takes a byte, `late_none` is the end.
use mathlib.Core.Path.{sym, ◌∙◌}
use native.Mathlib.Omega.{arith}
use borrow.Author.Rules.{rules}
use Rattle.crc32.proofs.TableSteps.{late_more, late_none}
use Rattle.crc32.proofs.late_bytes.Goals as goal

pub loop-i-preserved : goal.loop-i-preserved
loop-i-preserved c = let now = c.loop-i in let a = c.args in let s = a.bytes.now in
    rw (c.look-acc.ensures, c.from.ensures)
    (late_more a.t.now now.acc s now.i _ (omega arith) (search rules) (omega arith) ∙ now.invariant)

pub returns : goal.returns
returns c = let now = c.loop-i in let a = c.args in
    sym (late_none a.t.now now.acc a.bytes.now now.i (omega arith)) ∙ now.invariant
