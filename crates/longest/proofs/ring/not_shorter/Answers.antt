use native.Mathlib.Omega.{arith}
use Prim.Native.Nat.{suc, ◌+◌, ◌-◌}
use mathlib.Core.Path.{◌≡◌, sym, ap, ◌∙◌}
use Rattle.longest.specs.Ring.{held, trimmed}
use Rattle.longest.proofs.RingLaws.{slot, newest_shorter, newest_stays, none_trimmed}
use Rattle.longest.proofs.ring.not_shorter.Goals as goal

pub returns-then-seconds-places : goal.returns-then-seconds-places
unfolding slot
returns-then-seconds-places c =
    let a = c.args in
    let n = c.loop-i.i - 1 in
    let e : n + 1 ≡ suc n = omega arith in
    let f : c.loop-i.i ≡ suc n = omega arith in
    let g = newest_stays a.places.now a.seconds a.head n (omega arith) in
    (rw e (sym (rw f at c.loop-i.invariant ∙ g)), omega arith)

pub loop-i-preserved : goal.loop-i-preserved
unfolding slot
loop-i-preserved c =
    let a = c.args in
    let n = c.loop-i.i - 1 in
    let f : c.loop-i.i ≡ suc n = omega arith in
    c.loop-i.invariant ∙ ap (λ k. trimmed a.seconds (held a.places.now a.head k)) f ∙ newest_shorter a.places.now a.seconds a.head n c.if-seconds-places.false

pub returns : goal.returns
returns c =
    let a = c.args in
    let f : c.loop-i.i ≡ 0 = omega arith in
    (sym (c.loop-i.invariant ∙ ap (λ k. trimmed a.seconds (held a.places.now a.head k)) f ∙ none_trimmed a.places.now a.seconds a.head), omega arith)
