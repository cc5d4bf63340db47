-- `lead_ff`: `position` passes the blocks that are all 0xFF (`lead_chunks`), and `lead_bytes` counts from there. The sum is in range since no more
-- than all bytes are 0xFF (`count_ff_le`).
use Prim.Native.Nat.{◌/◌, ◌*◌, ◌+◌}
use borrow.Author.Rules.{rules}
use native.Mathlib.Omega.{arith}
use mathlib.Core.Path.{◌≡◌, sym, ap, ◌∙◌}
use mathlib.Core.List.{List}
use mathlib.Core.Bool.{not}
use lib.ListN.{length, drop}
use Rattle.std.proofs.Common.{ℕ, Bool, tests}
use Rattle.std.specs.List.{position_or_len}
use Rattle.std.proofs.lemmas.Iterator.{YieldsList-from_slice}
use Rattle.std.proofs.lemmas.Iterator.Search.{position_from_yields_List}
use Rattle.buffers.specs.Bytes.{all_ff, count_ff}
use Rattle.buffers.proofs.Laws.{count_ff_le}
use Rattle.buffers.proofs.LoopSteps.{tail}
use Rattle.buffers.proofs.Chains.{place, full_blocks, lead_chunks}
use Rattle.buffers.proofs.lead_ff.Goals as goal

counted : (c : goal.After-lead_bytes) → c.unwrap_or-at.result * 128 + c.lead_bytes.result ≡ count_ff c.args.s.now
counted c =
    let s = c.args.s.now in
    let full : List ℕ → Bool = λ (b : List ℕ). not (all_ff b) in
    let blocks = c.as_chunks.result.0.now in
    let k : c.unwrap_or-at.result ≡ full_blocks 128 (length s / 128) s =
    c.unwrap_or-at.ensures
    ∙ place full blocks _ (position_from_yields_List full _ _ _ c.position-full.ensures.ran (YieldsList-from_slice blocks cc) (λ x b q k. search (rules, tests)))
    ∙ ap (position_or_len full) c.as_chunks.ensures.front in
    let r : c.lead_bytes.result ≡ count_ff (drop (c.unwrap_or-at.result * 128) s) = c.lead_bytes.ensures ∙ ap count_ff (tail s _) in
    rw (r, k) (sym (lead_chunks 128 (length s / 128) s (omega arith)))

pub overflow_add-result : goal.overflow_add-result
overflow_add-result c = omega (arith, counted c, count_ff_le c.args.s.now)

pub returns : goal.returns
returns c = counted c
