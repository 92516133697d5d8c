use Rattle.std.proofs.Common.{length, arith}
use Rattle.contractor.specs.Refusals.{most_layers}
use Rattle.contractor.specs.Accepting.{accepted_facts, used_fair}
use Rattle.contractor.specs.Layering.{placed_higher}
use Rattle.contractor.proofs.layers.use_part.Goals as goal

pub returns : goal.returns
returns g c =
    let accepts = accepted_facts _ _ c.requires in
    let fair = used_fair _ _ _ (g.met.C.Contractor.keeps _) c.requires c.narrow.ensures.answer in
    record {
      same = c.narrow.ensures.same;
      answer = c.narrow.ensures.answer;
      left = fair.tube;
      few = omega (arith, fair.calls, accepts.ceiling);
      placed = placed_higher _ most_layers (length c.args.tube.now) _ accepts.height fair.placed;
    }
