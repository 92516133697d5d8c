-- A step keeps the meaning. Assumes nothing.
use Rattle.std.specs.Prelude.{◌≡◌, ℕ, ◌<◌, ◌≤◌, max, Bool, true, List, length, ◌+ℤ◌, ◌≤ℤ◌, Some, None, Option, int_le, slice_set}
use Rattle.std.proofs.Common.{arith}
use Rattle.std.proofs.lemmas.Int.{ints}
use Rattle.std.proofs.lemmas.Bool.{and_parts, and_from}
use Rattle.std.proofs.lemmas.Bool.Decides.{nat_tests}
use Rattle.tube.specs.Tubes.{Trajectory, is_tube, In, Lies, single, cell, value_at}
use Rattle.tube.specs.declared.row.Row.{Row}
use Rattle.tube.proofs.Narrower.{narrower_same, narrower_set}
use Rattle.tube.proofs.Orders.{int_le_true, int_le_from}
use Rattle.tube.proofs.Tables.{ordered_at}
use Rattle.tube.proofs.Trajectories.{lies_at, lies_set}
use Rattle.contractor.specs.Contractors.{Fair, Keeps}
use Rattle.constraint.specs.Makings.{last_cell, are_step_cells}
use Rattle.constraint.specs.Constraints.{Sum, settled, empty, equal, step_cause, summed, stepped, step}
use Rattle.constraint.specs.Fairs.{fair_empty, fair_settled, simple_keeps}
use Rattle.constraint.specs.Singles.{only_at}
use Rattle.constraint.specs.SumsLemmas.{Summed, SumOf, summed_is}

module _ (number from by to : ℕ) where
  abbrev adds : Trajectory → Bool
  adds p = equal (value_at p to) (value_at p from +ℤ value_at p by)

  -- a trajectory that obeys, with its three numbers in their rows
  pub record Obeying (t : List Row) (p : Trajectory) : Type 0 where
    pub above : value_at p to ≤ℤ (value_at p from +ℤ value_at p by)
    pub below : (value_at p from +ℤ value_at p by) ≤ℤ value_at p to
    pub start : In (cell t from) (value_at p from)
    pub added : In (cell t by) (value_at p by)
    pub total : In (cell t to) (value_at p to)

  module _ (t : List Row) (h : is_tube t ≡ true) (from_in : from < length t) (by_in : by < length t) (to_in : to < length t) where
    obeying : (p : Trajectory) → Lies t p → adds p ≡ true → Obeying t p
    obeying p l e =
        let h = and_parts (int_le (value_at p to) (value_at p from +ℤ value_at p by)) _ e in
        record {
          above = int_le_true _ _ h.0;
          below = int_le_true _ _ h.1;
          start = lies_at t p from from_in l;
          added = lies_at t p by by_in l;
          total = lies_at t p to to_in l;
        }

    -- where a tube of one trajectory has something left, the trajectory obeys
    obeys : (s : Sum) → Summed (cell t from) (cell t by) (cell t to) s → (p : Trajectory) → t ≡ single p → adds p ≡ true
    obeys s k p e =
        let a = only_at t p from e in
        let d = only_at t p by e in
        let b = only_at t p to e in
        let w = k.total.within in
        let o = k.total.ordered in
        let f = k.total.above in
        let g = k.total.below in
        and_from _ _ (int_le_from (value_at p to) (value_at p from +ℤ value_at p by) (omega (arith, ints))) (int_le_from (value_at p from +ℤ value_at p by) (value_at p to) (omega (arith, ints)))

    holds : (s : Sum) → Summed (cell t from) (cell t by) (cell t to) s → (p : Trajectory) → Lies t p → adds p ≡ true → Lies (slice_set (slice_set (slice_set t to s.to) from s.from) by s.by) p
    holds s k p l e =
        let q = obeying p l e in
        let a = q.start in
        let d = q.added in
        let b = q.total in
        let f = q.above in
        let g = q.below in
        lies_set (slice_set (slice_set t to s.to) from s.from) p by s.by
        (lies_set (slice_set t to s.to) p from s.from
        (lies_set t p to s.to l (k.total.holds (value_at p to) b (omega (arith, ints)) (omega (arith, ints))))
        (k.start.holds (value_at p from) a (omega (arith, ints)) (omega (arith, ints))))
        (k.added.holds (value_at p by) d (omega (arith, ints)) (omega (arith, ints)))

    by_sum : (o : Option Sum) → SumOf (cell t from) (cell t by) (cell t to) o → Fair (step number from by to) t (elim o [ None ↦ empty step_cause number to t | Some s ↦ settled (slice_set (slice_set (slice_set t to s.to) from s.from) by s.by) ])
    by_sum None none =
        fair_empty adds (max to (max from by)) (stepped number from by to) t step_cause number to h to_in (λ p l e.
        let q = obeying p l e in
        let a = q.start in
        let d = q.added in
        let f = q.above in
        let g = q.below in
        none (value_at p to) q.total (omega (arith, ints)) (omega (arith, ints)))
    by_sum (Some s) k =
        fair_settled adds (max to (max from by)) (stepped number from by to) t (slice_set (slice_set (slice_set t to s.to) from s.from) by s.by)
        (narrower_set t h (slice_set (slice_set t to s.to) from s.from) by s.by by_in
        (narrower_set t h (slice_set t to s.to) from s.from from_in
        (narrower_set t h t to s.to to_in (narrower_same t h) k.total.within k.total.ordered) k.start.within k.start.ordered) k.added.within k.added.ordered)
        (holds s k)
        (obeys s k)

    pub step_fair : Fair (step number from by to) t (stepped number from by to t)
    step_fair = by_sum (summed (cell t from) (cell t by) (cell t to)) (summed_is (cell t from) (cell t by) (cell t to) (ordered_at t from h from_in) (ordered_at t by h by_in))

  pub step_keeps : are_step_cells from by to ≡ true → Keeps (step number from by to)
  step_keeps placed =
      let small : max to (max from by) ≤ last_cell = grind (arith, nat_tests) in
      simple_keeps adds (max to (max from by)) (stepped number from by to) small (λ t h l. step_fair t h (omega arith) (omega arith) (omega arith))
