-- `by_words`: the register after the words, which `fold` gives, and the bytes left over make `in_runs` (`runs_fold`).
use mathlib.Core.Path.{◌∙◌}
use borrow.Author.Rules.{rules}
use Rattle.std.proofs.Common.{tests}
use Rattle.std.proofs.lemmas.Iterator.{YieldsList-from_slice}
use Rattle.std.proofs.lemmas.Iterator.Consumers.{fold_from_yields_List}
use Rattle.crc32.specs.Table.{shares, by_bytes, by_words}
use Rattle.crc32.proofs.TableSteps.{runs_fold}
use Rattle.crc32.proofs.by_words.Goals as goal

pub returns : goal.returns
unfolding by_words
returns c = let a = c.args in let p = c.as_chunks in let f = shares a.t.now 0 in
    c.by_bytes.ensures
    ∙ runs_fold 4 f (by_bytes a.t.now) a.start _ a.bytes.now _ _ p.ensures.front p.ensures.back
    (fold_from_yields_List _ f a.start _ c.fold-crc.ensures.ran (YieldsList-from_slice p.result.0.now cc) (λ a x b q k. search (rules, tests)))
