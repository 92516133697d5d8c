-- What an axis is left with, from its cell, the other's and the limits that were worked out from the other's. Assumes nothing.
-- The limits are two numbers here, so that an answer can have them found: one that names the call which gave them fits no other right call.
use Rattle.std.proofs.Common.{◌≡◌, true, Bool, ℕ, List, set, ℤ, Some, None, Option, refl, ap₂, ◌∙◌, sym}
use Rattle.std.proofs.lemmas.Bool.{and_from}
use Rattle.tube.specs.Tubes.{cell}
use Rattle.tube.specs.declared.row.Row.{Row}
use Rattle.contractor.specs.Contractors.{Narrowed}
use Rattle.constraint.specs.Constraints.{settled, empty, range_cause, inner_limit, outer_limit, axis_row, axis_whole, ranged}
use Rattle.constraint.specs.Hulls.{are_ends_in_ring, ring}
use Rattle.constraint.specs.SumsLemmas.{Ordered}
use Rattle.constraint.proofs.Rings.{same_ring, same_ends}
use Rattle.constraint.proofs.Wholes.{range_whole}

module _ (nearest farthest : ℤ) (x y own other : Row) (b c : ℤ) (inner outer : ℤ) (is_own : x ≡ own) (is_other : y ≡ other) (is_inner : inner ≡ inner_limit nearest y c) (is_outer : outer ≡ outer_limit farthest y c) where
  pub axis_left : (o : Option Row) → o ≡ ring inner outer b x → o ≡ axis_row nearest farthest own other b c
  unfolding inner_limit outer_limit axis_row
  axis_left o e = e ∙ same_ring x _ _ _ _ _ _ is_inner is_outer refl ∙ ap₂ (λ r s. axis_row nearest farthest r s b c) is_own is_other

  pub axis_kept : (w : Bool) → w ≡ are_ends_in_ring inner outer b x → w ≡ axis_whole nearest farthest own other b c
  unfolding inner_limit outer_limit axis_whole
  axis_kept w e = e ∙ same_ends x _ _ _ _ _ _ is_inner is_outer refl ∙ ap₂ (λ r s. axis_whole nearest farthest r s b c) is_own is_other

module _ (number x y : ℕ) (bx by nearest farthest : ℤ) (t : List Row) where
  -- what a range leaves, by what is left on either axis
  abbrev left_by : Option Row → Option Row → Narrowed
  left_by o p = elim o [ None ↦ empty range_cause number x t | Some v ↦ elim p [ None ↦ empty range_cause number y t | Some w ↦ settled (set (set t x v) y w) ] ]

  pub ranged_by : (o p : Option Row) → o ≡ axis_row nearest farthest (cell t x) (cell t y) bx by → p ≡ axis_row nearest farthest (cell t y) (cell t x) by bx → left_by o p ≡ ranged number x y bx by nearest farthest t
  ranged_by o p e f = ap₂ left_by e f

  pub ranged_whole : Ordered (cell t x) → Ordered (cell t y) → true ≡ axis_whole nearest farthest (cell t x) (cell t y) bx by → true ≡ axis_whole nearest farthest (cell t y) (cell t x) by bx → settled t ≡ ranged number x y bx by nearest farthest t
  ranged_whole ox oy e f = sym (range_whole number x y bx by nearest farthest t ox oy (and_from _ _ (sym e) (sym f)))
