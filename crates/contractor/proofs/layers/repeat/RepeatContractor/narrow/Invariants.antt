use Rattle.std.proofs.Common.{◌≡◌}
use Rattle.contractor.specs.Repeating.{Going}
use Rattle.contractor.proofs.layers.repeat.RepeatContractor.narrow.Given as goal

abbrev pub invariant-loop : goal.invariant-loop
invariant-loop g l =
    (l.self.rounds.count ≡ l.initial.self.rounds.count) ×
    Going l.initial.self.rounds.count (g.C.Contractor.value l.initial.self.part) (g.C.Contractor.value l.self.part) l.initial.tube l.tube l.counter l.calls
