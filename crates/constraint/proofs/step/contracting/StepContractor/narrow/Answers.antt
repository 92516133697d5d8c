use Rattle.std.proofs.Common.{◌≡◌, true, sym, refl, ap, ◌∙◌, subst}
use Rattle.tube.specs.Intervals.{row_of}
use Rattle.tube.specs.Tubes.{cell}
use Rattle.tube.proofs.Ends.{spanned}
use Rattle.constraint.specs.Constraints.{all_fit, settled, stepped}
use Rattle.constraint.specs.SumsLemmas.{Ordered}
use Rattle.constraint.proofs.Wholes.{step_whole}
use Rattle.constraint.proofs.step.contracting.StepContractor.narrow.Goals as goal

pub returns-then-all_fit : goal.returns-then-all_fit
returns-then-all_fit c =
    let t = c.args.tube.now in
    let k = c.args.self.now in
    let from = c.interval_at-from.result in
    let by = c.interval_at-by.result in
    let to = c.interval_at-to.result in
    let fit : all_fit (row_of from) (row_of by) (row_of to) ≡ true = sym c.if-all_fit.ensures in
    let same : stepped k.number k.from k.by k.to t ≡ settled t =
    step_whole k.number k.from k.by k.to t
    (subst Ordered c.interval_at-from.ensures (spanned from.low from.high from.spanned).ordered)
    (subst Ordered c.interval_at-by.ensures (spanned by.low by.high by.spanned).ordered)
    (subst Ordered c.interval_at-to.ensures (spanned to.low to.high to.spanned).ordered)
    (subst (λ r. all_fit r (cell t k.by) (cell t k.to) ≡ true) c.interval_at-from.ensures (subst (λ r. all_fit (row_of from) r (cell t k.to) ≡ true) c.interval_at-by.ensures (subst (λ r. all_fit (row_of from) (row_of by) r ≡ true) c.interval_at-to.ensures fit))) in
    record { same = refl; answer = ap (λ a. record { answer = a; tube = t }) c.settled.ensures ∙ sym same }
