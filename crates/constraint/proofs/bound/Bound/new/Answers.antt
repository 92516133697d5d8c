use Rattle.std.proofs.Common.{refl, arith}
use Rattle.std.proofs.lemmas.Int.{to_z-of_z}
use Rattle.std.proofs.lemmas.Bool.Decides.{nat_tests}
use Rattle.tube.proofs.Makings.{made_ok}
use Rattle.constraint.proofs.bound.Bound.new.Goals as goal

pub returns : goal.returns
returns c =
    let low_fits = c.ranges.low in
    let high_fits = c.ranges.high in
    let k = made_ok c.args.low c.args.high c.in_ok-span.span (simp to_z-of_z at c.in_ok-span.ensures) in
    (grind (arith, nat_tests), record { same_number = refl; same_cell = refl; same_low = k.same_low; same_high = k.same_high })
