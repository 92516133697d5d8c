use Rattle.std.proofs.Common.{sym, refl, ap, ◌∙◌, ◌-ℤ◌, arith, w32, SFits, rules}
use Rattle.std.proofs.lemmas.Int.{ints, to_z-of_z}
use Rattle.std.proofs.lemmas.Bool.{cond-true, cond-false}
use Rattle.tube.specs.Intervals.{row_of}
use Rattle.tube.specs.Tubes.{contains}
use Rattle.constraint.specs.Hulls.{square, least_square}
use Rattle.constraint.proofs.Machine.{held, smaller}
use Rattle.constraint.specs.Squares.{squared_as}
use Rattle.constraint.proofs.axis.Axis.least_square.Goals as goal

pub returns-then-contains : goal.returns-then-contains
unfolding least_square
returns-then-contains c =
    let fits : SFits w32 c.args.self.beacon = search rules in
    let inside = ap (contains (row_of c.args.self.cell)) (sym (to_z-of_z w32 c.args.self.beacon fits)) ∙ sym c.contains.ensures ∙ c.if-contains.true in
    squared_as _ _ _ _ (sym (cond-true _ _ _ inside)) refl (record { is = refl; above = omega (arith, ints); below = omega (arith, ints) })

pub returns-else-contains : goal.returns-else-contains
unfolding least_square
returns-else-contains c =
    let b = c.args.self.beacon in
    let fits : SFits w32 b = search rules in
    let outside = ap (contains (row_of c.args.self.cell)) (sym (to_z-of_z w32 b fits)) ∙ sym c.contains.ensures ∙ c.if-contains.false in
    squared_as _ _ _ _ (sym (cond-false _ _ _ outside)) refl
    (smaller _ _ _ _
    (squared_as _ _ _ _ (ap (λ z. square (z -ℤ b)) (held w32 _ _ (search rules) refl)) refl c.squared_from.ensures)
    (squared_as _ _ _ _ (ap (λ z. square (z -ℤ b)) (held w32 _ _ (search rules) refl)) refl c.squared_from-else-contains.ensures)
    c.min.result c.min.ensures.value)
