-- What a use of a record did. Assumes nothing.
use Rattle.std.specs.Prelude.{◌≡◌, List, map}
use Rattle.tube.specs.declared.row.Row.{Row}
use Rattle.constraint.specs.Kinds.{constraint_value}
use Rattle.constraint.specs.Mentions.{cell_slots}
use Rattle.constraint.specs.declared.constraint.Constraint.{Constraint}
use Rattle.net.specs.Nets.{if_narrower}
use Rattle.net.specs.declared.run.Use.{Use}

-- a use of a constraint on the tube t left the tube u
pub record UseOf (k : Constraint) (t u : List Row) (r : Use) : Type 0 where
  pub verdict : r.verdict ≡ ((constraint_value k).narrowed t).answer.verdict
  pub left : u ≡ ((constraint_value k).narrowed t).tube
  pub narrower : r.narrower ≡ map (if_narrower t u) (cell_slots k)
