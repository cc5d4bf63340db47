-- `by_blocks`: as `by_words`, of blocks and the words and bytes left over.
use mathlib.Core.Path.{◌∙◌}
use borrow.Author.Rules.{rules}
use Rattle.std.proofs.Common.{tests}
use Rattle.std.proofs.lemmas.Iterator.{YieldsList-from_slice}
use Rattle.std.proofs.lemmas.Iterator.Consumers.{fold_from_yields_List}
use Rattle.crc32.specs.Table.{block, by_words, by_blocks}
use Rattle.crc32.proofs.TableSteps.{runs_fold}
use Rattle.crc32.proofs.by_blocks.Goals as goal

pub returns : goal.returns
unfolding by_blocks
returns c = let a = c.args in let p = c.as_chunks in let f = block a.t.now in
    c.by_words.ensures
    ∙ runs_fold 16 f (by_words a.t.now) a.start _ a.bytes.now _ _ p.ensures.front p.ensures.back
    (fold_from_yields_List _ f a.start _ c.fold-crc.ensures.ran (YieldsList-from_slice p.result.0.now cc) (λ a x b q k. search (rules, tests)))
