-- `value`: by the answer of `get_variable` (`heard`). What is found lies in the work area and is the value (`fetch_at`); else it is `fetch_none`.
use Prim.Native.Nat.{ℕ, ◌+◌, ◌-◌, ◌≤◌}
use lib.ListN.{length, take, drop}
use native.Mathlib.Omega.{arith}
use mathlib.Core.Path.{◌≡◌, ap, ◌∙◌}
use mathlib.Core.List.{List}
use Rattle.std.specs.Prelude.{None, Ok}
use Rattle.book.specs.Call.{fetch, handed}
use Rattle.nvram.specs.Contract.{Does}
use Rattle.variables.proofs.LookupLaws.{found_of, fetch_at, fetch_none}
use Rattle.variables.proofs.lookup.value.Goals.{In-Ok-Some}
use Rattle.variables.proofs.lookup.value.Goals as goal

found : (c : In-Ok-Some) → let f = c.in-Ok-Some.found in let w = c.args.work.now in
    (f.place + f.long ≤ length w) × ((x : List ℕ) → x ≡ take f.long (drop f.place w) → Does (fetch c.args.key.now c.args.typ) c.args.state w handed x c.args.state w)
found c = fetch_at c.args.key.now c.args.typ c.args.state c.args.work.now _ (λ i. omega (arith, c.type_inv.work i)) (c.well_formed.0.1.1.1.1.1.0.1.0.1) c.get_variable.ensures.answer _ (c.in-Ok-Some.is ∙ ap Ok c.in-Ok-Some.field-0-is)

pub overflow_add-result : goal.overflow_add-result
overflow_add-result c = omega (arith, (found (goal.at.overflow_add-result c).In-Ok-Some).0)

pub slice_bounds-result-end : goal.slice_bounds-result-end
slice_bounds-result-end c = (found (goal.at.slice_bounds-result-end c).In-Ok-Some).0

pub returns-in-Ok-Some : goal.returns-in-Ok-Some
returns-in-Ok-Some c =
    let f = c.in-Ok-Some.found in
    let e : f.place + f.long - f.place ≡ f.long = omega arith in
    (found (goal.at.returns-in-Ok-Some c).In-Ok-Some).1 _ (ap (λ (i : ℕ). take i (drop f.place c.args.work.now)) e)

pub returns-in-Ok-None : goal.returns-in-Ok-None
returns-in-Ok-None c =
    let q : c.get_variable.result ≡ Ok None = c.in-Ok-None.is ∙ ap Ok c.in-Ok-None.field-0-is in
    fetch_none c.args.key.now c.args.typ c.args.state c.args.work.now c.get_variable.result (λ i. omega (arith, c.type_inv.work i)) (c.well_formed.0.1.1.1.1.1.0.1.0.1) c.get_variable.ensures.answer (ap found_of q)

pub returns-in-Err : goal.returns-in-Err
returns-in-Err c =
    fetch_none c.args.key.now c.args.typ c.args.state c.args.work.now c.get_variable.result (λ i. omega (arith, c.type_inv.work i)) (c.well_formed.0.1.1.1.1.1.0.1.0.1) c.get_variable.ensures.answer (ap found_of c.in-Err.is)
