use mathlib.Core.Path.{sym}
use native.Mathlib.Omega.{arith}
use lib.IntN.{nat_abs}
use Prim.Native.Nat.{◌<◌}
use Rattle.std.proofs.lemmas.Result.{err_from_is_err_and}
use Rattle.rate.specs.Answer.{order_of}
use Rattle.rate.proofs.Signs.{held}
use Rattle.rate.specs.Rate.{thirds}
use Rattle.rate.proofs.Thirds.{thirds_below}
use Rattle.rate.proofs.Answers.{refuses, takes, first_refused, second_refused, both_taken}
use Rattle.rate.proofs.compare.Goals as goal

pub returns-in_err-a : goal.returns-in_err-a
unfolding order_of
returns-in_err-a c =
    let p = err_from_is_err_and c.from_residual.result c.from_residual.ensures.1 in
    let e = refuses c.args.a _ (sym c.in_err-a.ensures) in
    rw (p.1, p.2, e.1) (first_refused c.args.a c.args.b _ e.0)

pub returns-in_err-b : goal.returns-in_err-b
unfolding order_of
returns-in_err-b c =
    let p = err_from_is_err_and c.from_residual-in_err-b.result c.from_residual-in_err-b.ensures.1 in
    let e = refuses c.args.b _ (sym c.in_err-b.ensures) in
    rw (p.1, p.2, e.1) (second_refused c.args.a c.args.b _ e.0)

pub returns : goal.returns
unfolding order_of
returns c = let e = takes c.args.a _ (sym c.in_ok-a.ensures) in
    let f = takes c.args.b _ (sym c.in_ok-b.ensures) in
    let j : nat_abs (thirds c.args.a) < 9223372036854775808 = omega (arith, thirds_below c.args.a e.0) in
    let k : nat_abs (thirds c.args.b) < 9223372036854775808 = omega (arith, thirds_below c.args.b f.0) in
    rw (c.cmp.ensures, e.1, f.1, held (thirds c.args.a) j, held (thirds c.args.b) k) (both_taken c.args.a c.args.b _ e.0 f.0)
