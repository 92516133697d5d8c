-- Where a constraint's cells lie, and that it changes no other cell. Assumes nothing.
use Rattle.std.proofs.Common.{◌≡◌, ℕ, ◌<◌, ◌≤◌, ◌≢◌, List, set, Some, None, Option, refl, ◌∙◌, arith}
use Rattle.std.specs.List.{AllByRecursion}
use Rattle.std.proofs.lemmas.List.{get_or-set_other}
use Rattle.std.proofs.lemmas.Bool.{leb-true}
use Rattle.std.proofs.lemmas.Bool.Decides.{nat_tests}
use Rattle.tube.specs.Tubes.{nowhere, cell, cut}
use Rattle.tube.specs.declared.row.Row.{Row}
use Rattle.contractor.specs.Contractors.{Narrowed}
use Rattle.constraint.specs.Constraints.{Sum, settled, empty, bound_cause, step_cause, range_cause, summed, x_row, y_row}
use Rattle.constraint.specs.Kinds.{constraint_value}
use Rattle.constraint.specs.Makings.{last_cell}
use Rattle.constraint.specs.Mentions.{constraint_cells}
use Rattle.constraint.specs.declared.constraint.Constraint.{Constraint}
use Rattle.constraint.specs.declared.constraint.Constraint.TheVariants.{Bound as of_bound, Step as of_step, Range as of_range}
use Rattle.constraint.specs.Places.{ranged_from}

-- each is a cell that a tube can have
pub cells_placed : (k : Constraint) → AllByRecursion (λ c. c ≤ last_cell) (constraint_cells k)
cells_placed (of_bound k) = (leb-true _ _ k.placed, tt)
cells_placed (of_step k) = let placed = k.placed in (grind (arith, nat_tests), (grind (arith, nat_tests), (grind (arith, nat_tests), tt)))
cells_placed (of_range k) =
    let r = ranged_from k.x k.y k.beacon.x k.beacon.y k.distances.nearest k.distances.farthest k.placed in
    (leb-true _ _ r.x_cell, (leb-true _ _ r.y_cell, tt))

-- each is a cell of every tube that the constraint can be used on
pub cells_needed : (k : Constraint) → AllByRecursion (λ c. c < (constraint_value k).need) (constraint_cells k)
cells_needed (of_bound k) = (omega arith, tt)
cells_needed (of_step k) = (omega arith, (omega arith, (omega arith, tt)))
cells_needed (of_range k) = (omega arith, (omega arith, tt))

module _ (t : List Row) (d : ℕ) where
  -- a use left the cell as it was
  abbrev Untouched : Narrowed → Type 0
  Untouched u = cell u.tube d ≡ cell t d

  by_cut : (number c : ℕ) (o : Option Row) → d ≢ c → Untouched (elim o [ None ↦ empty bound_cause number c t | Some r ↦ settled (set t c r) ])
  by_cut number c None ne = refl
  by_cut number c (Some r) ne = get_or-set_other t c d r nowhere ne

  by_sum : (number from by to : ℕ) (o : Option Sum) → d ≢ from → d ≢ by → d ≢ to → Untouched (elim o [ None ↦ empty step_cause number to t | Some s ↦ settled (set (set (set t to s.to) from s.from) by s.by) ])
  by_sum number from by to None nf nb nt = refl
  by_sum number from by to (Some s) nf nb nt =
      get_or-set_other (set (set t to s.to) from s.from) by d s.by nowhere nb
      ∙ get_or-set_other (set t to s.to) from d s.from nowhere nf
      ∙ get_or-set_other t to d s.to nowhere nt

  by_axes : (number x y : ℕ) (o p : Option Row) → d ≢ x → d ≢ y → Untouched (elim o [ None ↦ empty range_cause number x t | Some v ↦ elim p [ None ↦ empty range_cause number y t | Some w ↦ settled (set (set t x v) y w) ] ])
  by_axes number x y None p nx ny = refl
  by_axes number x y (Some v) None nx ny = refl
  by_axes number x y (Some v) (Some w) nx ny = get_or-set_other (set t x v) y d w nowhere ny ∙ get_or-set_other t x d v nowhere nx

  pub constraint_confined : (k : Constraint) → AllByRecursion (λ c. d ≢ c) (constraint_cells k) → Untouched ((constraint_value k).narrowed t)
  constraint_confined (of_bound k) ne = by_cut k.number k.cell (cut (cell t k.cell) k.span.low k.span.high) ne.0
  constraint_confined (of_step k) ne = by_sum k.number k.from k.by k.to (summed (cell t k.from) (cell t k.by) (cell t k.to)) ne.0 ne.1.0 ne.1.1.0
  constraint_confined (of_range k) ne =
      by_axes k.number k.x k.y
      (x_row k.number k.x k.y k.beacon.x k.beacon.y k.distances.nearest k.distances.farthest t)
      (y_row k.number k.x k.y k.beacon.x k.beacon.y k.distances.nearest k.distances.farthest t)
      ne.0 ne.1.0
