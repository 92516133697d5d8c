use Rattle.std.proofs.Common.{refl}
use Rattle.tube.specs.Tubes.{cut}
use Rattle.constraint.specs.Hulls.{first, hull_of, greatest_square, least_square, ring}
use Rattle.constraint.specs.Constraints.{axis_row}
use Rattle.net.proofs.examples.examples_hold.Goals as goal

pub returns : goal.returns
unfolding cut first hull_of greatest_square least_square ring axis_row
returns c = refl
