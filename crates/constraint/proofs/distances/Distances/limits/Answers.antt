use Rattle.std.proofs.Common.{refl, ap, arith}
use Rattle.std.proofs.lemmas.Int.{ints}
use Rattle.constraint.specs.Constraints.{inner_limit, outer_limit}
use Rattle.constraint.specs.Hulls.{square}
use Rattle.constraint.proofs.Machine.{squares_apart, apart_below}
use Rattle.constraint.specs.Places.{distances}
use Rattle.constraint.specs.Squares.{squared_as}
use Rattle.constraint.proofs.distances.Distances.limits.Goals as goal

pub square_of-requires-2 : goal.square_of-requires-2
square_of-requires-2 c = let d = distances c.args.self.nearest c.args.self.farthest c.args.self.ordered in record { above = omega (arith, ints); below = omega (arith, ints) }

pub overflow_sub-result-2 : goal.overflow_sub-result-2
overflow_sub-result-2 c =
    let k = c.square_of-2.ensures in
    let m = c.least_square.ensures in
    omega (arith, ints, k.above, k.below, m.above, m.below)

pub invariant_of-result : goal.invariant_of-result
invariant_of-result c =
    let d = distances c.args.self.nearest c.args.self.farthest c.args.self.ordered in
    record {
      inner_below = apart_below _ _ _ _ c.square_of.ensures c.greatest_square.ensures;
      outer_below = apart_below _ _ _ _ c.square_of-2.ensures c.least_square.ensures;
    }

pub returns : goal.returns
unfolding inner_limit outer_limit
returns c =
    let d = distances c.args.self.nearest c.args.self.farthest c.args.self.ordered in
    record {
      inner_is = squares_apart _ _ _ _ (squared_as _ _ _ _ (ap square (omega (arith, ints))) refl c.square_of.ensures) c.greatest_square.ensures;
      outer_is = squares_apart _ _ _ _ (squared_as _ _ _ _ (ap square (omega (arith, ints))) refl c.square_of-2.ensures) c.least_square.ensures;
    }
