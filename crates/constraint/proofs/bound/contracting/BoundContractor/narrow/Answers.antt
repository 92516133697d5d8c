use Rattle.std.specs.Prelude.{int_le}
use Rattle.std.proofs.Common.{◌≡◌, true, ◌≤ℤ◌, sym, refl, ap, ◌∙◌, subst, arith}
use Rattle.std.proofs.lemmas.Bool.{and_parts}
use Rattle.tube.specs.Intervals.{row_of}
use Rattle.tube.proofs.Ends.{spanned}
use Rattle.tube.proofs.Orders.{int_le_true}
use Rattle.contractor.specs.Accepting.{accepted_facts}
use Rattle.constraint.specs.Constraints.{bounded, lies_between, settled}
use Rattle.constraint.specs.Kinds.{bound_value}
use Rattle.constraint.specs.SumsLemmas.{Ordered}
use Rattle.constraint.proofs.Wholes.{bound_whole}
use Rattle.constraint.proofs.bound.contracting.BoundContractor.narrow.Goals as goal

pub returns-then-lies_between : goal.returns-then-lies_between
returns-then-lies_between c =
    let t = c.args.tube.now in
    let k = c.args.self.now in
    let held = c.interval_at-held.result in
    let inner = spanned held.low held.high held.spanned in
    let fits : lies_between (row_of held) k.span.low k.span.high ≡ true = sym (ap (λ r. lies_between (row_of held) r.low r.high) c.from.ensures) ∙ sym c.lies_between.ensures ∙ c.if-lies_between.true in
    let ends = and_parts (int_le k.span.low held.low) _ fits in
    let same : bounded k.number k.cell k.span.low k.span.high t ≡ settled t =
    bound_whole k.number k.cell k.span.low k.span.high t
    (subst Ordered c.interval_at-held.ensures inner.ordered)
    (subst (λ r. k.span.low ≤ℤ r.low) c.interval_at-held.ensures (int_le_true _ _ ends.0)) (subst (λ r. r.high ≤ℤ k.span.high) c.interval_at-held.ensures (int_le_true _ _ ends.1)) in
    record { same = refl; answer = ap (λ a. record { answer = a; tube = t }) c.settled.ensures ∙ sym same }

pub bounds-tube-self : goal.bounds-tube-self
bounds-tube-self c = let f = accepted_facts (bound_value c.args.self.now) c.args.tube.now c.requires in omega (arith, f.need)
