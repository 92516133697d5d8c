use Rattle.net.specs.Holding.{Needed}
use Rattle.net.proofs.run.greatest_need.Given as goal

abbrev pub invariant-loop-constraint : goal.invariant-loop-constraint
invariant-loop-constraint l = Needed l.records l.constraint-index l.need
