use Rattle.std.proofs.Common.{◌+◌, ◌≤◌, length}
use Rattle.net.specs.Records.{records}
use Rattle.swimlog.specs.Fillings.{to_first, to_second, added, Grown}
use Rattle.swimlog.proofs.filling.add_records.Given as goal

abbrev pub invariant-loop-index : goal.invariant-loop-index
invariant-loop-index l =
    Grown (added to_first l.log.bytes.now l.log.sizes.gates l.log.sizes.records l.index) l.initial.one l.one
    × Grown (added to_second l.log.bytes.now l.log.sizes.gates l.log.sizes.records l.index) l.initial.two l.two
    × (length (records l.one) ≤ length (records l.initial.one) + l.index)
    × (length (records l.two) ≤ length (records l.initial.two) + l.index)
