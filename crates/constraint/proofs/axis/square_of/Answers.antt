use Rattle.std.proofs.Common.{arith}
use Rattle.std.proofs.lemmas.Int.{ints}
use Rattle.constraint.specs.Squares.{square_fits, squared}
use Rattle.constraint.proofs.axis.square_of.Goals as goal

pub overflow_mul-result : goal.overflow_mul-result
overflow_mul-result c =
    let a = c.requires.above in
    let b = c.requires.below in
    square_fits _ (omega (arith, ints)) (omega (arith, ints))

pub returns : goal.returns
returns c = squared _ c.args.d (omega (arith, ints)) c.requires.above c.requires.below
