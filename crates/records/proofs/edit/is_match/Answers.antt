-- `is_match`: its three tests in the order of `matches`, each exit by the law of that test (`match_dead`, `match_other`, `match_type`); `strict` of
-- what is required bounds the indices.
use native.Mathlib.Omega.{arith}
use Prim.Native.Nat.{◌+◌, ◌-◌}
use mathlib.Core.Path.{◌≡◌, sym, ◌∙◌}
use Rattle.bank.specs.Record.{name_at}
use Rattle.bank.proofs.FieldLaws.{name_is}
use Rattle.records.proofs.RecordLaws.{strict, is_long}
use Rattle.records.proofs.RecordSteps.{same_is, match_dead, match_other, match_type}
use Rattle.records.proofs.edit.is_match.Goals.{After-size-closing}
use Rattle.records.proofs.edit.is_match.Goals as goal

pub bounds-s-2 : goal.bounds-s-2
bounds-s-2 c = omega (arith, is_long c.args.s.now c.requires)

pub returns-then-s-ne-ADDED : goal.returns-then-s-ne-ADDED
returns-then-s-ne-ADDED c = sym (match_dead c.args.key.now c.args.typ c.args.s.now c.if-s-ne-ADDED.true)

-- where the key ends and the closing byte stands
closing : (c : After-size-closing) → c.size-closing.result ≡ 36 + name_at c.args.s.now
closing c = let s = c.args.s.now in omega (arith, name_is s (is_long s c.requires) c.parse-header.result c.parse-header.ensures, c.size-closing.ensures)

key_long : (c : After-size-closing) → c.size-closing.result - 1 - 36 ≡ name_at c.args.s.now - 1
key_long c = omega (arith, closing c)

pub slice_bounds-same-count : goal.slice_bounds-same-count
slice_bounds-same-count c = omega (arith, (strict c.args.s.now c.requires).stands.named, closing (goal.at.slice_bounds-same-count c).After-size-closing)

pub slice_bounds-same-start : goal.slice_bounds-same-start
slice_bounds-same-start c = omega (arith, (strict c.args.s.now c.requires).stands.named, closing (goal.at.slice_bounds-same-start c).After-size-closing)

pub slice_bounds-same-end : goal.slice_bounds-same-end
slice_bounds-same-end c = omega (arith, (strict c.args.s.now c.requires).stands.ends, closing (goal.at.slice_bounds-same-end c).After-size-closing)

pub returns-then-not-same : goal.returns-then-not-same
returns-then-not-same c = let a = c.args in
    sym (match_other a.key.now a.typ a.s.now c.if-s-ne-ADDED.false _ (key_long (goal.at.returns-then-not-same c).After-size-closing) (sym c.same.ensures ∙ c.if-not-same.true))

pub slice_bounds-typ-end : goal.slice_bounds-typ-end
slice_bounds-typ-end c = omega (arith, is_long c.args.s.now c.requires)

pub returns : goal.returns
returns c = let a = c.args in
    c.eq.ensures
    ∙ same_is _ _
    ∙ sym (match_type a.key.now a.typ a.s.now c.if-s-ne-ADDED.false _ (key_long (goal.at.returns c).After-size-closing) (sym c.same.ensures ∙ c.if-not-same.false) _ c.typ.ensures)
