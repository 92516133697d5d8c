use Rattle.std.proofs.Common.{arith, w32, to_z, of_z}
use Rattle.std.proofs.lemmas.Int.{ints, clamps}
use Rattle.tube.proofs.Ends.{spanned, spans_from}
use Rattle.tube.proofs.interval.Interval.hull.Goals as goal

pub invariant_of-result : goal.invariant_of-result
invariant_of-result c =
    let s = spanned c.args.self.low c.args.self.high c.args.self.spanned in
    let o = spanned c.args.other.low c.args.other.high c.args.other.spanned in
    record { spanned = spans_from (to_z w32 (of_z w32 c.hull-low.result.low)) (to_z w32 (of_z w32 c.hull-low.result.high)) (record { floor = grind (arith, ints, clamps); ordered = grind (arith, ints, clamps); roof = grind (arith, ints, clamps) }) }
