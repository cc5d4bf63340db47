use borrow.Author.Rules.{rules}
use mathlib.Core.Path.{sym, ◌∙◌}
use mathlib.Core.Bool.{not}
use Rattle.std.proofs.Common.{ℕ, tests}
use lib.Dec.{eqb}
use Rattle.std.proofs.lemmas.Iterator.{YieldsList-from_slice}
use Rattle.std.proofs.lemmas.Iterator.Search.{position_from_yields_List}
use Rattle.buffers.proofs.Chains.{lead_place, place}
use Rattle.buffers.proofs.lead_bytes.Goals as goal

pub returns : goal.returns
returns c =
    let s = c.args.s.now in
    let r = position_from_yields_List (λ (x : ℕ). not (eqb x 255)) _ _ _ c.position.ensures.ran (YieldsList-from_slice s cc) (λ x b q k. search (rules, tests)) in
    c.unwrap_or.ensures ∙ place _ s _ r ∙ sym (lead_place s)
