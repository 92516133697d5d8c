use Rattle.std.proofs.Common.{ap, arith}
use Rattle.std.proofs.lemmas.Int.{ints}
use Rattle.constraint.specs.Hulls.{square}
use Rattle.constraint.specs.Squares.{coordinate, squared_as}
use Rattle.constraint.proofs.axis.Axis.squared_from.Goals as goal

pub square_of-requires : goal.square_of-requires
square_of-requires c =
    let v = coordinate c.args.v c.requires in
    let b = coordinate c.args.self.beacon c.args.self.placed in
    record { above = omega (arith, ints); below = omega (arith, ints) }

pub returns : goal.returns
returns c =
    let v = coordinate c.args.v c.requires in
    let b = coordinate c.args.self.beacon c.args.self.placed in
    squared_as _ _ _ _ (ap square (omega (arith, ints))) (omega (arith, ints)) c.square_of.ensures
