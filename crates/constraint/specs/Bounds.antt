-- A bound keeps the meaning. Assumes nothing.
use Rattle.std.specs.Prelude.{◌≡◌, ℕ, ◌<◌, Bool, true, ◌&&◌, List, length, ℤ, ◌≤ℤ◌, Some, None, Option, int_le, slice_set}
use Rattle.std.proofs.Common.{arith}
use Rattle.std.proofs.lemmas.Int.{ints}
use Rattle.std.proofs.lemmas.Bool.{and_parts, and_from, leb-true}
use Rattle.tube.specs.Tubes.{Trajectory, is_tube, single, cell, value_at, cut}
use Rattle.tube.specs.declared.row.Row.{Row}
use Rattle.tube.proofs.Cuts.{Cut, CutOf, cut_is}
use Rattle.tube.proofs.Narrower.{narrower_same, narrower_set}
use Rattle.tube.proofs.Orders.{int_le_true, int_le_from}
use Rattle.tube.proofs.Trajectories.{lies_at, lies_set}
use Rattle.contractor.specs.Contractors.{Fair, Keeps}
use Rattle.constraint.specs.Makings.{is_cell}
use Rattle.constraint.specs.Constraints.{settled, empty, bound_cause, bounded, bound}
use Rattle.constraint.specs.Fairs.{fair_empty, fair_settled, simple_keeps}
use Rattle.constraint.specs.Singles.{only_at}

module _ (number c : ℕ) (low high : ℤ) where
  abbrev between : Trajectory → Bool
  between p = int_le low (value_at p c) && int_le (value_at p c) high

  passes : (p : Trajectory) → between p ≡ true → (low ≤ℤ value_at p c) × (value_at p c ≤ℤ high)
  passes p e = let h = and_parts (int_le low (value_at p c)) _ e in (int_le_true _ _ h.0, int_le_true _ _ h.1)

  module _ (t : List Row) (h : is_tube t ≡ true) (within : c < length t) where
    -- where a tube of one trajectory has something left, the trajectory obeys
    obeys : (r : Row) → Cut (cell t c) low high r → (p : Trajectory) → t ≡ single p → between p ≡ true
    obeys r k p e =
        let v = only_at t p c e in
        let w = k.within in
        let o = k.ordered in
        let a = k.above in
        let b = k.below in
        and_from _ _ (int_le_from low (value_at p c) (omega (arith, ints))) (int_le_from (value_at p c) high (omega (arith, ints)))

    by_cut : (o : Option Row) → CutOf (cell t c) low high o → Fair (bound number c low high) t (elim o [ None ↦ empty bound_cause number c t | Some r ↦ settled (slice_set t c r) ])
    by_cut None none = fair_empty between c (bounded number c low high) t bound_cause number c h within (λ p l e. let b = passes p e in none (value_at p c) (lies_at t p c within l) b.0 b.1)
    by_cut (Some r) k =
        fair_settled between c (bounded number c low high) t (slice_set t c r)
        (narrower_set t h t c r within (narrower_same t h) k.within k.ordered)
        (λ p l e. let b = passes p e in lies_set t p c r l (k.holds (value_at p c) (lies_at t p c within l) b.0 b.1))
        (obeys r k)

  pub bound_keeps : is_cell c ≡ true → Keeps (bound number c low high)
  bound_keeps small = simple_keeps between c (bounded number c low high) (leb-true _ _ small) (λ t h within. by_cut t h within (cut (cell t c) low high) (cut_is (cell t c) low high))
