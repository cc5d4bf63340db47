use Rattle.std.proofs.Common.{◌-◌, drop, ap, ◌∙◌, arith, rules, length-drop}
use lib.Seq.{take_all}
use Rattle.buffers.specs.Bytes.{all_ff}
use Rattle.book.specs.Book.{part_size}
use Rattle.nvram.proofs.state.Entry.fits.Goals as goal

pub returns-then-self-header : goal.returns-then-self-header
unfolding part_size
returns-then-self-header c =
    let a = c.args in
    let e = c.all_ff.ensures ∙ ap all_ff (take_all (131072 - a.self.total) (drop a.self.total a.part.now) (omega (arith, length-drop a.self.total a.part.now))) in
    rw e (search rules)

pub returns-else-self-header : goal.returns-else-self-header
unfolding part_size
returns-else-self-header c = search rules
