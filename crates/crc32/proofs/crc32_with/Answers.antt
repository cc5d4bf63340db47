-- `crc32_with`: of fewer than 16 bytes `by_blocks` is `by_words` (`run_none`); that tables which follow the rule give the CRC-32 is `crc_by`.
use native.Mathlib.Omega.{arith}
use mathlib.Core.Path.{sym, ap, ◌∙◌}
use Prim.Native.Nat.{ℕ}
use lib.Bits.{bit_xor}
use Rattle.crc32.specs.Table.{block, by_words, by_blocks, crc32_by}
use Rattle.crc32.proofs.ByTable.{crc_by}
use Rattle.crc32.proofs.TableSteps.{run_none}
use Rattle.crc32.proofs.crc32_with.Goals as goal

pub returns-then-bytes-lt16 : goal.returns-then-bytes-lt16
unfolding crc32_by by_blocks
returns-then-bytes-lt16 c = let a = c.args in
    let e = ap (λ (x : ℕ). bit_xor x 0xFFFFFFFF)
    (c.by_words.ensures ∙ sym (run_none 16 (block a.t.now) (by_words a.t.now) 0xFFFFFFFF a.bytes.now c.if-bytes-lt16.true)) in
    (e, λ is. e ∙ crc_by is a.bytes.now (λ i. omega (arith, c.type_inv.bytes i)))

pub returns : goal.returns
unfolding crc32_by
returns c = let e = ap (λ (x : ℕ). bit_xor x 0xFFFFFFFF) c.by_blocks.ensures in
    (e, λ is. e ∙ crc_by is c.args.bytes.now (λ i. omega (arith, c.type_inv.bytes i)))
