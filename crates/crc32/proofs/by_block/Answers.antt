-- `by_block`: the first of the words is the first four bytes.
use mathlib.Core.Path.{◌≡◌, ap, ap₂, ◌∙◌}
use native.Mathlib.Omega.{arith}
use mathlib.Core.List.{[]}
use lib.Bits.{bit_xor}
use lib.ListN.{get_or, take}
use Rattle.crc32.specs.Table.{block, shares}
use Rattle.crc32.proofs.TableSteps.{first_run}
use Rattle.crc32.proofs.by_block.Goals as goal

pub returns : goal.returns
unfolding block
returns c = let a = c.args in let p = c.as_chunks in
    let first : get_or p.result.0.now 0 [] ≡ take 4 a.bytes.now = ap (λ l. get_or l 0 []) p.ensures.front ∙ first_run 4 _ a.bytes.now (omega arith) in
    ap₂ bit_xor c.late_bytes.ensures (c.early_bytes.ensures ∙ ap (shares a.t.now 12 a.crc) first)
