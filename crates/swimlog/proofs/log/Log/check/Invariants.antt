use Rattle.std.proofs.Common.{◌≡◌, None}
use Rattle.swimlog.specs.Logs.{earliest_fault}
use Rattle.swimlog.proofs.log.Log.check.Given as goal

abbrev pub invariant-loop-index : goal.invariant-loop-index
invariant-loop-index l = earliest_fault l.self.bytes.now l.self.sizes.gates l.self.sizes.records l.index ≡ None
