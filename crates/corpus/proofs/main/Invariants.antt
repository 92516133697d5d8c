use Rattle.std.proofs.Common.{length}
use Rattle.corpus.proofs.main.Given as goal

abbrev pub decreases-loop-log : goal.decreases-loop-log
decreases-loop-log l = length l.rest
