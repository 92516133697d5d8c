use Rattle.net.specs.Running.{Running}
use Rattle.net.proofs.run.run.Given as goal

abbrev pub invariant-loop-calls : goal.invariant-loop-calls
invariant-loop-calls l = Running l.records l.allowance l.initial.tube l.calls l.waiting l.tube
