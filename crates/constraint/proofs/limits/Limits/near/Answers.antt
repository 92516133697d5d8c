use Rattle.std.proofs.Common.{arith}
use Rattle.std.proofs.lemmas.Int.{ints}
use Rattle.constraint.specs.Squares.{root_bound, nearest_from}
use Rattle.constraint.proofs.limits.Limits.near.Goals as goal

pub returns-else-self-le0 : goal.returns-else-self-le0
returns-else-self-le0 c =
    let b = root_bound c.root.result _ c.root.ensures.below (omega (arith, ints)) in
    nearest_from c.args.self.inner _ _ c.root.result (omega (arith, ints)) (omega (arith, ints)) (omega (arith, ints)) c.root.ensures
