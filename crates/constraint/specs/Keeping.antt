-- Every constraint keeps the meaning, whatever its kind. Assumes nothing.
use Rattle.contractor.specs.Contractors.{Keeps}
use Rattle.constraint.specs.Kinds.{bound_value, step_value, range_value, constraint_value}
use Rattle.constraint.specs.declared.bound.Bound.{Bound}
use Rattle.constraint.specs.declared.step.Step.{Step}
use Rattle.constraint.specs.declared.range.Range.{Range}
use Rattle.constraint.specs.declared.constraint.Constraint.{Constraint}
use Rattle.constraint.specs.declared.constraint.Constraint.TheVariants.{Bound as of_bound, Step as of_step, Range as of_range}
use Rattle.constraint.specs.Bounds.{bound_keeps}
use Rattle.constraint.specs.Places.{ranged_from}
use Rattle.constraint.specs.Ranges.{range_keeps}
use Rattle.constraint.specs.Steps.{step_keeps}

pub bound_value_keeps : (k : Bound) → Keeps (bound_value k)
bound_value_keeps k = bound_keeps k.number k.cell k.span.low k.span.high k.placed

pub step_value_keeps : (k : Step) → Keeps (step_value k)
step_value_keeps k = step_keeps k.number k.from k.by k.to k.placed

pub range_value_keeps : (k : Range) → Keeps (range_value k)
range_value_keeps k =
    let r = ranged_from k.x k.y k.beacon.x k.beacon.y k.distances.nearest k.distances.farthest k.placed in
    range_keeps k.number k.x k.y k.beacon.x k.beacon.y k.distances.nearest k.distances.farthest r.x_cell r.y_cell

pub constraint_keeps : (k : Constraint) → Keeps (constraint_value k)
constraint_keeps (of_bound k) = bound_value_keeps k
constraint_keeps (of_step k) = step_value_keeps k
constraint_keeps (of_range k) = range_value_keeps k
