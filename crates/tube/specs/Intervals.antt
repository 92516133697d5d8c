-- What making an interval and cutting one answer. Assumes nothing.
use Rattle.std.specs.Prelude.{cond, ℤ, Some, None, Ok, Err, Option, Result}
use Rattle.tube.specs.Spans.{spans}
use Rattle.tube.specs.Tubes.{row}
use Rattle.tube.specs.declared.fault.MakingFault.{MakingFault}
use Rattle.tube.specs.declared.fault.MakingFault.TheVariants.{BadValue}
use Rattle.tube.specs.declared.interval.Interval.{Interval}
use Rattle.tube.specs.declared.row.Row.{Row}

-- an interval as a row of a table
abbrev pub row_of : Interval → Row
row_of i = row i.low i.high

abbrev pub row_if_any : Option Interval → Option Row
row_if_any (Some i) = Some (row_of i)
row_if_any None = None

abbrev pub row_if_made : Result Interval MakingFault → Result Row MakingFault
row_if_made (Ok i) = Ok (row_of i)
row_if_made (Err e) = Err e

-- making an interval: its row, or the refusal of a value
abbrev pub made : ℤ → ℤ → Result Row MakingFault
made low high = cond (spans low high) (Ok (row low high)) (Err BadValue)
