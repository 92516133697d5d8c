-- The contractor keeps the meaning. Assumes nothing.
use Rattle.std.specs.Prelude.{◌≡◌, ℕ, ◌<◌, ◌≤◌, max, Bool, true, List, length, pos, neg_ℤ, ◌≤ℤ◌, Some, None, Option, slice_set}
use Rattle.std.proofs.Common.{arith}
use Rattle.std.proofs.lemmas.Int.{ints}
use Rattle.std.proofs.lemmas.Bool.Decides.{nat_tests}
use Rattle.tube.specs.Spans.{reach}
use Rattle.tube.specs.Tubes.{Trajectory, is_tube, Lies, single, cell, value_at}
use Rattle.tube.specs.declared.row.Row.{Row}
use Rattle.tube.proofs.Cuts.{Cut, CutOf, cut_is}
use Rattle.tube.proofs.Ends.{Spanned, spanned}
use Rattle.tube.proofs.Narrower.{narrower_same, narrower_set}
use Rattle.tube.proofs.Orders.{int_le_true, int_le_from}
use Rattle.tube.proofs.Tables.{tube, interval_at}
use Rattle.tube.proofs.Trajectories.{lies_at, lies_set}
use Rattle.contractor.specs.Contractors.{Fair, Keeps}
use Rattle.constraint.specs.Constraints.{settled, empty}
use Rattle.constraint.specs.Makings.{last_cell}
use Rattle.constraint.specs.Fairs.{fair_empty, fair_settled, simple_keeps}
use Rattle.constraint.specs.Singles.{only_at}
use Rattle.own_contractor.specs.Orders.{are_order_cells, order_cause, behind_row, ahead_row, kept_in_order, ordered, at_most}

module _ (number behind ahead : ℕ) where
  abbrev obeyed : Trajectory → Bool
  obeyed = kept_in_order number behind ahead

  module _ (t : List Row) (h : is_tube t ≡ true) (behind_in : behind < length t) (ahead_in : ahead < length t) where
    ends : (c : ℕ) → c < length t → Spanned (cell t c).low (cell t c).high
    ends c l = spanned (cell t c).low (cell t c).high (interval_at t c l (tube t h).each)

    -- a trajectory that obeys lies in what each cut leaves
    behind_holds : (p : Trajectory) → Lies t p → obeyed p ≡ true → (neg_ℤ (pos reach) ≤ℤ value_at p behind) × (value_at p behind ≤ℤ (cell t ahead).high)
    behind_holds p l e =
        let b = lies_at t p behind behind_in l in
        let a = lies_at t p ahead ahead_in l in
        let o = int_le_true (value_at p behind) (value_at p ahead) e in
        let s = ends behind behind_in in
        (omega (arith, ints), omega (arith, ints))

    ahead_holds : (p : Trajectory) → Lies t p → obeyed p ≡ true → ((cell t behind).low ≤ℤ value_at p ahead) × (value_at p ahead ≤ℤ pos reach)
    ahead_holds p l e =
        let b = lies_at t p behind behind_in l in
        let a = lies_at t p ahead ahead_in l in
        let o = int_le_true (value_at p behind) (value_at p ahead) e in
        let s = ends ahead ahead_in in
        (omega (arith, ints), omega (arith, ints))

    -- where a tube of one trajectory has something left, the trajectory obeys
    obeys : (r : Row) → Cut (cell t behind) (neg_ℤ (pos reach)) (cell t ahead).high r → (p : Trajectory) → t ≡ single p → obeyed p ≡ true
    obeys r k p e =
        let b = only_at t p behind e in
        let a = only_at t p ahead e in
        let w = k.within in
        let o = k.ordered in
        let d = k.below in
        int_le_from (value_at p behind) (value_at p ahead) (omega (arith, ints))

    by_cuts : (o q : Option Row) → CutOf (cell t behind) (neg_ℤ (pos reach)) (cell t ahead).high o → CutOf (cell t ahead) (cell t behind).low (pos reach) q → Fair (at_most number behind ahead) t (elim o [ None ↦ empty order_cause number behind t | Some b ↦ elim q [ None ↦ empty order_cause number ahead t | Some a ↦ settled (slice_set (slice_set t behind b) ahead a) ] ])
    by_cuts None q none k = fair_empty obeyed (max behind ahead) (ordered number behind ahead) t order_cause number behind h behind_in (λ p l e. let x = behind_holds p l e in none (value_at p behind) (lies_at t p behind behind_in l) x.0 x.1)
    by_cuts (Some b) None k none = fair_empty obeyed (max behind ahead) (ordered number behind ahead) t order_cause number ahead h ahead_in (λ p l e. let x = ahead_holds p l e in none (value_at p ahead) (lies_at t p ahead ahead_in l) x.0 x.1)
    by_cuts (Some b) (Some a) k m =
        fair_settled obeyed (max behind ahead) (ordered number behind ahead) t (slice_set (slice_set t behind b) ahead a)
        (narrower_set t h (slice_set t behind b) ahead a ahead_in (narrower_set t h t behind b behind_in (narrower_same t h) k.within k.ordered) m.within m.ordered)
        (λ p l e.
        let x = behind_holds p l e in
        let y = ahead_holds p l e in
        lies_set (slice_set t behind b) p ahead a (lies_set t p behind b l (k.holds (value_at p behind) (lies_at t p behind behind_in l) x.0 x.1)) (m.holds (value_at p ahead) (lies_at t p ahead ahead_in l) y.0 y.1))
        (obeys b k)

    fair : Fair (at_most number behind ahead) t (ordered number behind ahead t)
    fair = by_cuts (behind_row (cell t behind) (cell t ahead)) (ahead_row (cell t behind) (cell t ahead)) (cut_is (cell t behind) _ _) (cut_is (cell t ahead) _ _)

  pub at_most_keeps : are_order_cells behind ahead ≡ true → Keeps (at_most number behind ahead)
  at_most_keeps placed =
      let small : max behind ahead ≤ last_cell = grind (arith, nat_tests) in
      simple_keeps obeyed (max behind ahead) (ordered number behind ahead) small (λ t h l. fair t h (omega arith) (omega arith))
