use Rattle.std.proofs.Common.{◌≡◌, length, None, sym, refl, ap, ◌∙◌, subst}
use Rattle.std.proofs.lemmas.List.{take_at, length-replicate}
use Rattle.contractor.specs.Contractors.{Fair}
use Rattle.swimlog.proofs.Limits.{limited}
use Rattle.swimlog.specs.Limits.{cells_of}
use Rattle.survey.specs.Surveys.{widest, first_tube}
use Rattle.survey.specs.Tracks.{first_refusal, Ended}
use Rattle.survey.proofs.FirstTubes.{first_part}
use Rattle.survey.proofs.surveying.report_by.Goals as goal

pub use_on_track-verdict-requires : goal.use_on_track-verdict-requires
use_on_track-verdict-requires g c =
    let sizes = c.args.sizes in
    let part = first_part sizes.gates sizes.records c.cells.result c.widest_table-tube.result (limited sizes.gates sizes.records sizes.limited) c.cells.ensures c.widest_table-tube.ensures in
    subst (λ t. first_refusal (g.C.Contractor.value c.args.contractor.now) t ≡ None) (sym part) c.requires

pub returns-in-Kept : goal.returns-in-Kept
returns-in-Kept g c =
    let sizes = c.args.sizes in
    let v = g.C.Contractor.value c.args.contractor.now in
    let used = c.use_on_track-verdict in
    let part = first_part sizes.gates sizes.records c.cells.result c.widest_table-tube.result (limited sizes.gates sizes.records sizes.limited) c.cells.ensures c.widest_table-tube.ensures in
    let ended = subst (λ t. Ended v t used.new.table used.result) part used.ensures.ended in
    let told = subst (λ d. Ended v (first_tube sizes.gates) used.new.table (record { verdict = d; calls = used.result.calls })) c.in-Kept.is ended in
    let long : length used.new.table ≡ cells_of sizes.gates = used.auto.table ∙ ap length part ∙ length-replicate (cells_of sizes.gates) widest in
    record {
      reported = (refl, told.0, take_at used.new.table _ (cells_of sizes.gates) long ∙ told.1);
      fair = subst (λ t. Fair v t (v.narrowed t)) part used.ensures.fair;
    }

pub returns-in-Empty : goal.returns-in-Empty
returns-in-Empty g c =
    let sizes = c.args.sizes in
    let v = g.C.Contractor.value c.args.contractor.now in
    let used = c.use_on_track-verdict in
    let part = first_part sizes.gates sizes.records c.cells.result c.widest_table-tube.result (limited sizes.gates sizes.records sizes.limited) c.cells.ensures c.widest_table-tube.ensures in
    let ended = subst (λ t. Ended v t used.new.table used.result) part used.ensures.ended in
    let told = subst (λ d. Ended v (first_tube sizes.gates) used.new.table (record { verdict = d; calls = used.result.calls })) c.in-Empty.is ended in
    record {
      reported = told.0;
      fair = subst (λ t. Fair v t (v.narrowed t)) part used.ensures.fair;
    }
