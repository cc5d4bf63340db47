use native.Mathlib.Omega.{arith}
use Rattle.rate.proofs.PlaceLaws.{range_shows, complement_range, complement_sum}
use Rattle.rate.proofs.places.Places.complement.Goals as goal

pub overflow_sub-result : goal.overflow_sub-result
overflow_sub-result c = omega (arith, (range_shows _ c.args.self.in_range).hours)

pub overflow_sub-result-2 : goal.overflow_sub-result-2
overflow_sub-result-2 c = omega (arith, (range_shows _ c.args.self.in_range).minutes)

pub overflow_sub-result-3 : goal.overflow_sub-result-3
overflow_sub-result-3 c = omega (arith, (range_shows _ c.args.self.in_range).seconds)

pub overflow_sub-result-4 : goal.overflow_sub-result-4
overflow_sub-result-4 c = omega (arith, (range_shows _ c.args.self.in_range).last)

pub invariant_of-result : goal.invariant_of-result
invariant_of-result c = record { in_range = complement_range _ (range_shows _ c.args.self.in_range) }

pub returns : goal.returns
returns c = complement_sum _ (range_shows _ c.args.self.in_range)
