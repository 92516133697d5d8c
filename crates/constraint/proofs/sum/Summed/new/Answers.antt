use Rattle.std.proofs.Common.{ap, ◌∙◌}
use Rattle.tube.specs.Intervals.{row_of}
use Rattle.tube.specs.Tubes.{cut}
use Rattle.tube.proofs.Ends.{spanned}
use Rattle.constraint.specs.SumsLemmas.{start_left, added_left}
use Rattle.constraint.proofs.sum.Summed.new.Goals as goal

pub unwrap-requires : goal.unwrap-requires
unwrap-requires c =
    let a = c.args in
    let sum = c.in_ok-to_left.ensures ∙ ap (λ r. cut (row_of a.to) r.low r.high) c.sums.ensures in
    start_left (row_of a.from) (row_of a.by) (row_of a.to) (row_of c.in_ok-to_left.to_left) (spanned _ _ a.from.spanned).ordered (spanned _ _ a.by.spanned).ordered sum _ (c.cut_to-2.ensures ∙ ap (λ r. cut (row_of a.from) r.low r.high) c.differences.ensures)

pub unwrap-requires-2 : goal.unwrap-requires-2
unwrap-requires-2 c =
    let a = c.args in
    let sum = c.in_ok-to_left.ensures ∙ ap (λ r. cut (row_of a.to) r.low r.high) c.sums.ensures in
    added_left (row_of a.from) (row_of a.by) (row_of a.to) (row_of c.in_ok-to_left.to_left) (spanned _ _ a.from.spanned).ordered (spanned _ _ a.by.spanned).ordered sum _ (c.cut_to-3.ensures ∙ ap (λ r. cut (row_of a.by) r.low r.high) c.differences-2.ensures)
