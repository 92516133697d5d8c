use Rattle.std.proofs.Common.{ap₂, arith}
use Rattle.std.proofs.lemmas.Int.{ints}
use Rattle.tube.specs.Tubes.{row}
use Rattle.tube.proofs.Ends.{spanned}
use Rattle.constraint.proofs.sum.sums.Goals as goal

pub returns : goal.returns
returns c =
    let a = spanned c.args.a.low c.args.a.high c.args.a.spanned in
    let b = spanned c.args.b.low c.args.b.high c.args.b.spanned in
    ap₂ row (omega (arith, ints)) (omega (arith, ints))
