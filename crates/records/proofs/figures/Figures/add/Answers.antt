-- `Figures::add`: not to be counted, not live (`add_dead`), or added to the section that its GUID names (`add_live`).
use Rattle.records.proofs.FigureLaws.{add_dead, add_live}
use Rattle.records.proofs.figures.Figures.add.Goals as goal

pub returns-then-not-counting : goal.returns-then-not-counting
returns-then-not-counting c = rw (c.if-not-counting.true)

pub returns-then-s-ne-ADDED : goal.returns-then-s-ne-ADDED
returns-then-s-ne-ADDED c = let a = c.args in rw (c.if-not-counting.false) (add_dead a.self a.s.now a.n c.if-s-ne-ADDED.true)

pub returns : goal.returns
returns c = let a = c.args in
    rw (c.if-not-counting.false)
    (add_live a.self a.s.now a.n c.if-s-ne-ADDED.false c.same.result c.same-2.result c.same.ensures c.same-2.ensures c.count_if.result c.count_if-2.result c.count_if.ensures.0 c.count_if-2.ensures.0)
