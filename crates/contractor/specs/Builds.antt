-- Why a contractor could not be built, the number of each reason, and its words. Assumes nothing.
use Rattle.std.specs.Prelude.{ℕ, List, codes}
use Rattle.contractor.specs.declared.build.BuildRefusal.{BuildRefusal}
use Rattle.contractor.specs.declared.build.BuildRefusal.TheVariants.{RoundsOutOfRange, NetFull}

abbrev pub number_of : BuildRefusal → ℕ
number_of RoundsOutOfRange = 4
number_of NetFull = 5

abbrev pub words : BuildRefusal → List ℕ
words RoundsOutOfRange = codes "not from 1 to 1,000 rounds"
words NetFull = codes "no room in the net"
