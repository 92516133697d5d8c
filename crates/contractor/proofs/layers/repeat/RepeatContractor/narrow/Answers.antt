use Rattle.std.proofs.Common.{◌<◌, arith, rules}
use Rattle.contractor.specs.Repeating.{going_ended, going_more}
use Rattle.contractor.proofs.layers.repeat.RepeatContractor.narrow.Goals as goal

pub returns-in-Some : goal.returns-in-Some
returns-in-Some g c =
    let going = c.loop.invariant.1 in
    let more : c.loop.counter < c.args.self.now.rounds.count = omega arith in
    record { same = search rules; answer = going_ended _ _ _ _ _ _ _ going more _ _ _ c.round.ensures.round _ c.in-Some.is }

pub loop-preserved : goal.loop-preserved
loop-preserved g c =
    let going = c.loop.invariant.1 in
    let more : c.loop.counter < c.args.self.now.rounds.count = omega arith in
    (c.loop.invariant.0, going_more _ _ _ _ _ _ _ going more _ _ _ c.round.ensures.round (g.met.C.Contractor.keeps _) c.in_default.is _ c.round.ensures.same)
