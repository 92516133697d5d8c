-- The squares between which a distance lies on one axis, as they are worked out. Assumes nothing.
use Rattle.std.specs.Prelude.{◌≡◌, ℤ}
use Rattle.tube.specs.declared.row.Row.{Row}
use Rattle.constraint.specs.Constraints.{inner_limit, outer_limit}
use Rattle.constraint.specs.declared.limits.Limits.{Limits}

pub record AxisLimits (nearest farthest : ℤ) (other : Row) (other_beacon : ℤ) (r : Limits) : Type 0 where
  pub inner_is : r.inner ≡ inner_limit nearest other other_beacon
  pub outer_is : r.outer ≡ outer_limit farthest other other_beacon
