use Rattle.std.proofs.Common.{refl, ap, ◌-ℤ◌, w32, rules}
use Rattle.constraint.specs.Hulls.{square, greatest_square}
use Rattle.constraint.proofs.Machine.{held, greater}
use Rattle.constraint.specs.Squares.{squared_as}
use Rattle.constraint.proofs.axis.Axis.greatest_square.Goals as goal

pub returns : goal.returns
unfolding greatest_square
returns c =
    let b = c.args.self.beacon in
    greater _ _ _ _
    (squared_as _ _ _ _ (ap (λ z. square (z -ℤ b)) (held w32 _ _ (search rules) refl)) refl c.squared_from.ensures)
    (squared_as _ _ _ _ (ap (λ z. square (z -ℤ b)) (held w32 _ _ (search rules) refl)) refl c.squared_from-2.ensures)
    c.max.result c.max.ensures.value
