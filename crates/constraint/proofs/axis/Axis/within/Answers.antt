use Rattle.std.proofs.Common.{sym, ◌∙◌, arith}
use Rattle.std.proofs.lemmas.Int.{ints}
use Rattle.tube.specs.Intervals.{row_of}
use Rattle.tube.proofs.Cuts.{same_cut}
use Rattle.tube.proofs.Ends.{spanned}
use Rattle.constraint.specs.Squares.{coordinate}
use Rattle.constraint.proofs.Rings.{ring_arms, no_ring, same_joined, whole_ring}
use Rattle.constraint.proofs.axis.Axis.within.Goals as goal

pub returns-then-limits-lt0 : goal.returns-then-limits-lt0
returns-then-limits-lt0 c = sym (no_ring c.args.limits.inner c.args.limits.outer c.args.self.beacon (row_of c.args.self.cell) (spanned _ _ c.args.self.cell.spanned).ordered (omega (arith, ints)))

pub returns-then-is_whole : goal.returns-then-is_whole
returns-then-is_whole c =
    sym (whole_ring c.args.limits.inner c.args.limits.outer c.args.self.beacon (row_of c.args.self.cell) (spanned _ _ c.args.self.cell.spanned).ordered (sym c.if-is_whole.ensures))

pub overflow_sub-self : goal.overflow_sub-self
overflow_sub-self c = let b = coordinate c.args.self.beacon c.args.self.placed in let f = c.far-far.ensures in omega (arith, ints, f.above, f.below)

pub overflow_sub-self-2 : goal.overflow_sub-self-2
overflow_sub-self-2 c = let b = coordinate c.args.self.beacon c.args.self.placed in let n = c.near-near.ensures in omega (arith, ints, n.above, n.below)

pub overflow_add-self : goal.overflow_add-self
overflow_add-self c = let b = coordinate c.args.self.beacon c.args.self.placed in let n = c.near-near.ensures in omega (arith, ints, n.above, n.below)

pub overflow_add-self-2 : goal.overflow_add-self-2
overflow_add-self-2 c = let b = coordinate c.args.self.beacon c.args.self.placed in let f = c.far-far.ensures in omega (arith, ints, f.above, f.below)

pub returns : goal.returns
returns c =
    let b = coordinate c.args.self.beacon c.args.self.placed in
    let near = c.near-near.result in
    let far = c.far-far.result in
    let n = c.near-near.ensures in
    let f = c.far-far.ensures in
    let na = n.above in
    let nb = n.below in
    let fa = f.above in
    let fb = f.below in
    c.either_side.ensures
    ∙ same_joined _ _ _ _ (c.cut.ensures ∙ same_cut (row_of c.args.self.cell) _ _ _ _ (omega (arith, ints)) (omega (arith, ints))) (c.cut-2.ensures ∙ same_cut (row_of c.args.self.cell) _ _ _ _ (omega (arith, ints)) (omega (arith, ints)))
    ∙ sym (ring_arms c.args.limits.inner c.args.limits.outer c.args.self.beacon near far n f (row_of c.args.self.cell) (spanned _ _ c.args.self.cell.spanned).ordered)
