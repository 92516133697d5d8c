-- Why an interval or a constraint could not be made: the number of each reason, and its words. Assumes nothing.
use Rattle.std.specs.Prelude.{ℕ, List, codes}
use Rattle.tube.specs.declared.fault.MakingFault.{MakingFault}
use Rattle.tube.specs.declared.fault.MakingFault.TheVariants.{CellBeyondTube, EqualCells, BadValue}

abbrev pub number_of : MakingFault → ℕ
number_of CellBeyondTube = 1
number_of EqualCells = 2
number_of BadValue = 3

abbrev pub words : MakingFault → List ℕ
words CellBeyondTube = codes "a cell above 511"
words EqualCells = codes "two equal cells"
words BadValue = codes "a value beyond its limits, or ends out of order"
