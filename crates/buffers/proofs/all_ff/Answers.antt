-- `all_ff`: the answer of the blocks and that of the rest make the whole (`all_ff_parts`).
use borrow.Author.Rules.{rules}
use mathlib.Core.Path.{sym, ap, ◌∙◌}
use Rattle.std.proofs.Common.{Bool, ◌&&◌, tests}
use Rattle.std.proofs.lemmas.Iterator.{YieldsList-from_slice}
use Rattle.std.proofs.lemmas.Iterator.Search.{all_from_yields_List}
use Rattle.buffers.specs.Bytes.{all_ff}
use Rattle.buffers.proofs.Chains.{all_ff_parts}
use Rattle.buffers.proofs.all_ff.Goals as goal

pub returns-then-all : goal.returns-then-all
returns-then-all c =
    let p = c.as_chunks in
    c.block_ff.ensures
    ∙ ap (λ (t : Bool). t && all_ff p.result.1.now) (sym c.if-all.true)
    ∙ all_ff_parts _ _ c.args.s.now _ _ _ p.ensures.front p.ensures.back
    (all_from_yields_List all_ff _ _ _ c.all.ensures.ran (YieldsList-from_slice p.result.0.now cc) (λ x b q k. search (rules, tests)))

pub returns-else-all : goal.returns-else-all
returns-else-all c =
    let p = c.as_chunks in
    c.if-all.false
    ∙ ap (λ (t : Bool). t && all_ff p.result.1.now) (sym c.if-all.false)
    ∙ all_ff_parts _ _ c.args.s.now _ _ _ p.ensures.front p.ensures.back
    (all_from_yields_List all_ff _ _ _ c.all.ensures.ran (YieldsList-from_slice p.result.0.now cc) (λ x b q k. search (rules, tests)))
