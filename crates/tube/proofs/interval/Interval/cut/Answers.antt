use Rattle.std.proofs.Common.{arith, w32, to_z, of_z, rules}
use Rattle.std.proofs.lemmas.Int.{ints, clamps}
use Rattle.tube.specs.Tubes.{cut}
use Rattle.tube.proofs.Ends.{spanned, spans_from}
use Rattle.tube.proofs.interval.Interval.cut.Goals as goal

pub invariant_of-result : goal.invariant_of-result
invariant_of-result c =
    let s = spanned c.args.self.low c.args.self.high c.args.self.spanned in
    record { spanned = spans_from (to_z w32 (of_z w32 c.max-low.result)) (to_z w32 (of_z w32 c.min-high.result)) (record { floor = omega (arith, ints, clamps); ordered = omega (arith, ints, clamps); roof = omega (arith, ints, clamps) }) }

pub returns-then-low-high : goal.returns-then-low-high
unfolding cut
returns-then-low-high c = search rules

pub returns-else-low-high : goal.returns-else-low-high
unfolding cut
returns-else-low-high c = search rules
