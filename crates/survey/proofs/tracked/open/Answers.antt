use Rattle.std.proofs.Common.{subst}
use Rattle.track.specs.Standings.{Made, Proposing}
use Rattle.survey.specs.Tracks.{survey_allowance}
use Rattle.survey.proofs.Tracking.{makes, proposes, fresh, copied}
use Rattle.survey.proofs.tracked.open.Goals as goal

pub unwrap-rest-requires : goal.unwrap-rest-requires
unwrap-rest-requires c = makes c.args.table.now c.make.result c.requires.tube c.make.ensures

pub unwrap-requires : goal.unwrap-requires
unwrap-requires c =
    let made = subst (Made c.args.table.now survey_allowance) c.unwrap-rest.ensures c.make.ensures in
    proposes c.args.table.now c.unwrap-rest.result made c.args.work.now c.propose.new.work c.propose.result c.requires.sized c.propose.ensures

pub returns : goal.returns
returns c =
    let first = c.args.table.now in
    let made = subst (Made first survey_allowance) c.unwrap-rest.ensures c.make.ensures in
    let opened = subst (Proposing c.unwrap-rest.result first c.args.work.now c.propose.new.work) c.unwrap.ensures c.propose.ensures in
    record {
      fresh = fresh first c.unwrap-rest.result made c.args.work.now c.propose.new.work c.unwrap.result opened;
      copied = copied first c.unwrap-rest.result made c.args.work.now c.propose.new.work c.unwrap.result opened;
    }
