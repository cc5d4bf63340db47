-- `by_bytes`: the fold is the recursion of `by_bytes` (`bytes_fold`).
use Prim.Native.Nat.{ℕ, ◌/◌}
use mathlib.Core.Path.{◌∙◌}
use lib.Bits.{bit_xor}
use borrow.Author.Rules.{rules}
use Rattle.std.proofs.Common.{tests}
use Rattle.std.proofs.lemmas.Iterator.{YieldsList-from_slice}
use Rattle.std.proofs.lemmas.Iterator.Consumers.{fold_from_yields_List}
use Rattle.crc32.specs.Table.{table_entry}
use Rattle.crc32.proofs.TableSteps.{bytes_fold}
use Rattle.crc32.proofs.by_bytes.Goals as goal

pub returns : goal.returns
returns c = let a = c.args in let t = a.t.now in let s = a.bytes.now in
    fold_from_yields_List _ (λ (x b : ℕ). bit_xor (table_entry t 0 (bit_xor x b)) (x / 256)) a.start _ c.fold.ensures.ran (YieldsList-from_slice s cc) (λ a x b q k. search (rules, tests))
    ∙ bytes_fold t a.start s
