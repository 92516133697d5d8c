use Rattle.std.proofs.Common.{◌<◌}
use Rattle.constraint.proofs.root.root.Given as goal

abbrev pub invariant-loop : goal.invariant-loop
invariant-loop l = 0 < l.guess
