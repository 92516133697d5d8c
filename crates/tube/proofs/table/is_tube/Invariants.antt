use Rattle.tube.proofs.Tables.{Passed}
use Rattle.tube.proofs.table.is_tube.Given as goal

abbrev pub invariant-loop-row : goal.invariant-loop-row
invariant-loop-row l = Passed l.table l.row-index
