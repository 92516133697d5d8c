-- Why a use is refused, the number of each reason, and its words. Assumes nothing.
use Rattle.std.specs.Prelude.{ℕ, List, codes}
use Rattle.contractor.specs.declared.refusal.UseRefusal.{UseRefusal}
use Rattle.contractor.specs.declared.refusal.UseRefusal.TheVariants.{NotATube, TooHigh, TooCostly}

abbrev pub number_of : UseRefusal → ℕ
number_of NotATube = 7
number_of TooHigh = 8
number_of TooCostly = 9

abbrev pub words : UseRefusal → List ℕ
words NotATube = codes "no tube, or fewer cells than the contractor needs"
words TooHigh = codes "more than 16 layers"
words TooCostly = codes "more than 1,000,000,000 calls"

-- the most layers, and the most calls, with which a contractor is used
abbrev pub most_layers : ℕ
most_layers = 16

abbrev pub most_calls : ℕ
most_calls = 1000000000
