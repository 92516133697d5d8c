use Rattle.std.proofs.Common.{Ok, sym, refl, ap, ◌∙◌, subst, arith}
use Rattle.contractor.specs.Answers.{kept, emptied}
use Rattle.track.specs.Standings.{Using}
use Rattle.survey.specs.Tracks.{Ended}
use Rattle.survey.proofs.Tracking.{fair, kept_cells, kept_work, kept_answer, emptied_answer}
use Rattle.survey.proofs.tracked.use_on_track.Goals as goal

pub commit-requires : goal.commit-requires
commit-requires g c =
    let v = g.C.Contractor.value c.args.contractor.now in
    let opened = c.open.ensures in
    let used = subst (λ u. Using c.open.result v c.open.new.work c.apply.new.work (Ok u)) c.in-Ok-Kept.field-0-is c.in-Ok-Kept.ensures.result in
    let cells = kept_cells v opened.fresh opened.copied c.apply.new.work c.in-Ok-Kept.proposal c.in-Ok-Kept.mark used in
    record { table = sym cells; work = omega arith }

pub returns-in-Ok-Kept : goal.returns-in-Ok-Kept
returns-in-Ok-Kept g c =
    let v = g.C.Contractor.value c.args.contractor.now in
    let opened = c.open.ensures in
    let used = subst (λ u. Using c.open.result v c.open.new.work c.apply.new.work (Ok u)) c.in-Ok-Kept.field-0-is c.in-Ok-Kept.ensures.result in
    let answer = kept_answer v opened.fresh opened.copied c.apply.new.work c.in-Ok-Kept.proposal c.in-Ok-Kept.mark used in
    let work = kept_work v opened.fresh opened.copied c.apply.new.work c.in-Ok-Kept.proposal c.in-Ok-Kept.mark used in
    record {
      ended = subst (Ended v c.args.table.now c.commit.new.table) (sym c.kept.ensures) (answer ∙ ap (kept c.in-Ok-Kept.mark) (sym c.commit.ensures.charged), c.commit.ensures.copied ∙ work);
      fair = fair v c.args.table.now c.requires (g.met.C.Contractor.keeps c.args.contractor.now);
    }

pub returns-in-Ok-Emptied : goal.returns-in-Ok-Emptied
returns-in-Ok-Emptied g c =
    let v = g.C.Contractor.value c.args.contractor.now in
    let t = c.args.table.now in
    let opened = c.open.ensures in
    let left = c.in-Ok-Emptied.emptied in
    let used = subst (λ u. Using c.open.result v c.open.new.work c.apply.new.work (Ok u)) c.in-Ok-Emptied.field-0-is c.in-Ok-Emptied.ensures.result in
    let charged = c.charged.ensures ∙ ap (λ s. s.charged) (c.close.ensures.1 t t).1 in
    let answer = emptied_answer v opened.fresh opened.copied c.apply.new.work left used in
    record {
      ended = subst (Ended v t t) (sym c.empty.ensures) (answer ∙ ap (λ f. emptied f left.account.charged) (sym c.close.ensures.0) ∙ ap (emptied c.close.result.0) (sym charged), refl);
      fair = fair v t c.requires (g.met.C.Contractor.keeps c.args.contractor.now);
    }
