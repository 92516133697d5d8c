-- What is left of three intervals, as rows. Assumes nothing.
use Rattle.std.specs.Prelude.{Some, None, Option}
use Rattle.tube.specs.Intervals.{row_of}
use Rattle.constraint.specs.Constraints.{Sum}
use Rattle.constraint.specs.declared.sum.Summed.{Summed}

abbrev pub rows_if_any : Option Summed → Option Sum
rows_if_any None = None
rows_if_any (Some s) = Some (record { from = row_of s.from; by = row_of s.by; to = row_of s.to })
