use Rattle.std.proofs.Common.{arith, length-set}
use Rattle.tube.proofs.Tables.{tube}
use Rattle.contractor.specs.Accepting.{accepted_facts}
use Rattle.own_contractor.specs.AtMosts.{at_most_value}
use Rattle.own_contractor.proofs.at_most.contracting.AtMostContractor.narrow.Goals as goal

pub bounds-tube-self : goal.bounds-tube-self
bounds-tube-self c = let a = accepted_facts (at_most_value c.args.self.now) c.args.tube.now c.requires in omega arith

pub bounds-tube-self-2 : goal.bounds-tube-self-2
bounds-tube-self-2 c = let a = accepted_facts (at_most_value c.args.self.now) c.args.tube.now c.requires in simp length-set (omega arith)

pub offset_bounds-tube-self : goal.offset_bounds-tube-self
offset_bounds-tube-self c =
    let a = accepted_facts (at_most_value c.args.self.now) c.args.tube.now c.requires in
    record { fits = omega (arith, (tube c.args.tube.now a.tube).few) }

pub offset_bounds-tube-self-2 : goal.offset_bounds-tube-self-2
offset_bounds-tube-self-2 c =
    let a = accepted_facts (at_most_value c.args.self.now) c.args.tube.now c.requires in
    record { fits = omega (arith, (tube c.args.tube.now a.tube).few) }
