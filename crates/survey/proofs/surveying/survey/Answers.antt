use Rattle.std.proofs.Common.{◌≡◌, None, sym, ◌∙◌, subst}
use Rattle.contractor.specs.Compositions.{both}
use Rattle.contractor.specs.Repetitions.{repeat}
use Rattle.contractor.specs.RoundCounts.{count_of}
use Rattle.net.specs.Records.{net_value}
use Rattle.swimlog.specs.Format.{gates_of}
use Rattle.survey.specs.Surveys.{pile, first_tube}
use Rattle.survey.specs.Tracks.{first_refusal}
use Rattle.survey.proofs.Piles.{pile_said, pile_accepted}
use Rattle.survey.proofs.Worths.{small_log, surveyed_by, worth_by}
use Rattle.survey.proofs.surveying.survey.Goals as goal

pub report_by-requires : goal.report_by-requires
report_by-requires c =
    let bytes = c.args.bytes.now in
    let sizes = c.in-Ok.sizes in
    let filled = c.in-Ok.ensures in
    let v = repeat (count_of c.rounds.result) (both (net_value c.read_log.new.one) (net_value c.read_log.new.two)) in
    let same : v ≡ pile bytes = pile_said bytes (count_of c.rounds.result) c.new.result c.new-2.result c.read_log.new.one c.read_log.new.two sizes c.rounds.ensures (c.new.ensures.rounds ∙ c.rounds-2.ensures) (c.new-2.ensures.rounds ∙ c.rounds-3.ensures) filled in
    subst (λ g. first_refusal v (first_tube g) ≡ None) (sym filled.1.same_gates)
    (subst (λ x. first_refusal x (first_tube (gates_of bytes)) ≡ None) (sym same) (pile_accepted bytes (small_log bytes sizes filled.0 filled.1)))

pub returns-in-Ok : goal.returns-in-Ok
returns-in-Ok c =
    let bytes = c.args.bytes.now in
    let sizes = c.in-Ok.sizes in
    let filled = c.in-Ok.ensures in
    let v = repeat (count_of c.rounds.result) (both (net_value c.read_log.new.one) (net_value c.read_log.new.two)) in
    let same : v ≡ pile bytes = pile_said bytes (count_of c.rounds.result) c.new.result c.new-2.result c.read_log.new.one c.read_log.new.two sizes c.rounds.ensures (c.new.ensures.rounds ∙ c.rounds-2.ensures) (c.new-2.ensures.rounds ∙ c.rounds-3.ensures) filled in
    record {
      report = surveyed_by bytes sizes filled.0 filled.1 v same c.report_by.result c.report_by.ensures.reported;
      worth = worth_by bytes sizes filled.0 filled.1 v same c.report_by.result c.report_by.ensures.reported c.report_by.ensures.fair;
    }
