use Rattle.std.proofs.Common.{arith}
use Rattle.std.proofs.lemmas.Int.{ints}
use Rattle.constraint.specs.Squares.{root_bound, farthest_from}
use Rattle.constraint.proofs.limits.Limits.far.Goals as goal

pub returns : goal.returns
returns c =
    let b = root_bound c.root.result _ c.root.ensures.below (omega (arith, ints)) in
    farthest_from c.args.self.outer _ _ c.root.result (omega (arith, ints)) (omega (arith, ints)) (omega (arith, ints)) c.root.ensures
