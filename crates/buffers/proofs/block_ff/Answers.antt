use borrow.Author.Rules.{rules}
use mathlib.Core.Path.{◌∙◌}
use mathlib.Core.Bool.{Bool, true, ◌&&◌}
use Rattle.std.proofs.Common.{ℕ, tests}
use lib.Dec.{eqb}
use Rattle.std.proofs.lemmas.Iterator.{YieldsList-from_slice}
use Rattle.std.proofs.lemmas.Iterator.Consumers.{fold_from_yields_List}
use Rattle.buffers.proofs.Chains.{all_ff_fold}
use Rattle.buffers.proofs.block_ff.Goals as goal

pub returns : goal.returns
returns c =
    let s = c.args.s.now in
    fold_from_yields_List _ (λ (ok : Bool) (x : ℕ). ok && eqb x 255) true _ c.fold.ensures.ran (YieldsList-from_slice s cc) (λ a x b q k. search (rules, tests)) ∙ all_ff_fold true s
