use native.Mathlib.Omega.{arith}
use Prim.Native.Nat.{ℕ, ◌+◌, ◌<◌, ◌-◌, ◌/◌}
use mathlib.Core.Bool.{cond}
use mathlib.Core.List.{List}
use mathlib.Core.Path.{◌≡◌, sym, ap, ◌∙◌}
use mir.Val.{bool_byte}
use lib.Dec.{leb}
use lib.ListN.{get_or, length-set}
use Rattle.rate.specs.Rate.{magnitude, places_of}
use Rattle.rate.proofs.PlaceLaws.{places_range}
use Rattle.rate.proofs.Carry.{limits, begin, turn_once, done, past, below, range_at, limit_most, unit_most, unit_is, over_is}
use Rattle.rate.proofs.places.Places.carrying_add.Goals.{then-over, else-over, After-loop-i}
use Rattle.rate.proofs.places.Places.carrying_add.Goals as goal

pub overflow_add-n : goal.overflow_add-n
overflow_add-n c = let i = c.loop-i.i - 1 in
    let h : i < 4 = omega arith in
    omega (arith, limit_most i h, range_at c.args.self.numbers i c.args.self.in_range h, range_at c.args.other.numbers i c.args.other.in_range h)

pub overflow_add-n-in-loop-i : goal.overflow_add-n-in-loop-i
overflow_add-n-in-loop-i c = let i = c.loop-i.i - 1 in
    let h : i < 4 = omega arith in
    omega (arith, limit_most i h, range_at c.args.self.numbers i c.args.self.in_range h, range_at c.args.other.numbers i c.args.other.in_range h, unit_most c.loop-i.over)

pub loop-i-preserved : goal.loop-i-preserved
loop-i-preserved c = let l = c.loop-i in
    let p = c.args.self.numbers in
    let q = c.args.other.numbers in
    let n = get_or p (l.i - 1) 0 + get_or q (l.i - 1) 0 + c.from.result in
    let most = get_or limits (l.i - 1) 0 in
    let x : c.if-over.numbers ≡ cond (leb most n) (n - most) n = elim c.if-over.branch [
      | then-over w ↦ past n most _ w.if-over.true w.numbers-is
      | else-over w ↦ below n most _ w.if-over.false w.numbers-is
    ] in
    (l.invariant.0 ∙ turn_once p q l.i c.from.result c.if-over.numbers l.over l.numbers c.loop-i-test.true (omega arith) c.args.self.in_range c.args.other.in_range c.from.ensures x, length-set l.numbers _ _ ∙ l.invariant.1)

-- what the loop comes to
walked : (c : After-loop-i)
    → let n = magnitude c.args.self.numbers + magnitude c.args.other.numbers + cond c.args.carry 1 0 in
    ◌≡◌ {A = List ℕ × ℕ} (c.loop-i.numbers, bool_byte c.loop-i.over) (places_of n, n / 60 / 60 / 60 / 24)
walked c = let l = c.loop-i in
    let p = c.args.self in
    let q = c.args.other in
    let e : l.i ≡ 0 = omega arith in
    rw (← unit_is c.args.carry)
    (sym (done p.numbers q.numbers l.i (bool_byte l.over) l.numbers e) ∙ sym l.invariant.0 ∙ begin p.numbers q.numbers (bool_byte c.args.carry))

pub invariant_of-result : goal.invariant_of-result
invariant_of-result c = record { in_range = rw (ap (λ (x : List ℕ × ℕ). x.0) (walked c)) (places_range _) }

pub returns-clause-places : goal.returns-clause-places
returns-clause-places c = ap (λ (x : List ℕ × ℕ). x.0) (walked (goal.at.returns-clause-places c).After-loop-i)

pub returns-clause-over : goal.returns-clause-over
returns-clause-over c = over_is _ _ (ap (λ (x : List ℕ × ℕ). x.1) (walked (goal.at.returns-clause-over c).After-loop-i))
