-- `same_settings`: a bank of another length is refused (`refused_one`, `refused_other`); two arrays are what was lent (`compared_long`).
use mathlib.Core.Path.{◌≡◌, ap, ap₂, ◌∙◌}
use mathlib.Core.List.{List}
use Prim.Native.Nat.{ℕ}
use Rattle.std.specs.Prelude.{Ok}
use Rattle.std.specs.Option.{ok_or}
use Rattle.std.proofs.lemmas.Option.{MatchOption-at_some, MatchOption-at_none}
use Rattle.std.proofs.lemmas.Result.{err_from_is_err_and}
use Rattle.refusal.specs.declared.Refusal.TheVariants.{BankLength}
use Rattle.bank.specs.Read.{read_bank}
use Rattle.settings.specs.Same.{same_settings}
use Rattle.settings.proofs.SideBySide.{compared_long, refused_one, refused_other}
use Rattle.settings.proofs.same_settings.Goals as goal

pub returns-in_err-one : goal.returns-in_err-one
returns-in_err-one c =
    let p = err_from_is_err_and c.from_residual.result c.from_residual.ensures.1 in
    let none = c.in_err-one.ensures.ok_part in
    let is = c.in_err-one.ensures.value ∙ ap (λ o. ok_or o BankLength) none in
    let e : c.in_err-one.field-0.0 ≡ BankLength = cc in
    rw (p.1, p.2, e) (refused_one _ _ (MatchOption-at_none _ _ none c.as_array.ensures.cases))

pub returns-in_err-other : goal.returns-in_err-other
returns-in_err-other c =
    let p = err_from_is_err_and c.from_residual-in_err-other.result c.from_residual-in_err-other.ensures.1 in
    let none = c.in_err-other.ensures.ok_part in
    let is = c.in_err-other.ensures.value ∙ ap (λ o. ok_or o BankLength) none in
    let e : c.in_err-other.field-0.0 ≡ BankLength = cc in
    rw (p.1, p.2, e) (refused_other _ _ (MatchOption-at_none _ _ none c.as_array-2.ensures.cases))

pub returns : goal.returns
returns c =
    let one = MatchOption-at_some _ _ _ c.in_ok-one.ensures.ok_part c.as_array.ensures.cases in
    let other = MatchOption-at_some _ _ _ c.in_ok-other.ensures.ok_part c.as_array-2.ensures.cases in
    ap Ok (c.same_slots.ensures ∙ ap₂ (λ (a b : List ℕ). same_settings (read_bank a) (read_bank b)) one.same other.same)
    ∙ compared_long _ _ one.long other.long
