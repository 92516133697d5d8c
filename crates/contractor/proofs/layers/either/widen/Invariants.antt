use Rattle.contractor.specs.Hulls.{Widened}
use Rattle.contractor.proofs.layers.either.widen.Given as goal

abbrev pub invariant-loop-i : goal.invariant-loop-i
invariant-loop-i l = Widened l.other l.initial.table l.table l.i
