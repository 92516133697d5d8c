-- The two nets that a swim log fills: the first gets the steps of all slices and then the bounds, the second the ranges. Assumes nothing.
use Rattle.std.specs.Prelude.{◌≡◌, ℕ, zero, suc, ◌-◌, List, [], ◌∷◌, ◌++◌, map, Some, None, Ok, Err, Result}
use Rattle.constraint.specs.declared.constraint.Constraint.{Constraint}
use Rattle.constraint.specs.declared.constraint.Constraint.TheVariants.{Bound as of_bound, Step as of_step, Range as of_range}
use Rattle.net.specs.Records.{records, rounds_of}
use Rattle.net.specs.declared.net.Net.{Net}
use Rattle.swimlog.specs.Format.{gates_of, records_of}
use Rattle.swimlog.specs.Logs.{record_of, log_fault, Sized}
use Rattle.swimlog.specs.Records.{Said, bounds, steps, ranges, slice_step}
use Rattle.swimlog.specs.declared.fault.LogFault.{LogFault}
use Rattle.swimlog.specs.declared.fault.RecordFault.{RecordFault}
use Rattle.swimlog.specs.declared.kind.Axis.{Axis}
use Rattle.swimlog.specs.declared.kind.Axis.TheVariants.{X, Y}
use Rattle.swimlog.specs.declared.sizes.Sizes.{Sizes}

-- a constraint in plain numbers
abbrev pub said_of : Constraint → Said
said_of (of_bound k) = bounds k.number k.cell k.span.low k.span.high
said_of (of_step k) = steps k.number k.from k.by k.to
said_of (of_range k) = ranges k.number k.x k.y k.beacon.x k.beacon.y k.distances.nearest k.distances.farthest

-- what the records of a net say, in order
abbrev pub sayings : Net → List Said
sayings n = map said_of (records n)

-- the steps of the first `count` slices on an axis
abbrev pub axis_steps : (gates : ℕ) → Axis → (count : ℕ) → List Said
axis_steps gates axis zero = []
axis_steps gates axis (suc count) = axis_steps gates axis count ++ slice_step gates axis count ∷ []

-- what a record adds to the first net, and to the second: a bound goes to one, a range to the other
abbrev pub to_first : Result Said RecordFault → List Said
to_first (Ok (bounds number cell low high)) = bounds number cell low high ∷ []
to_first (Ok (steps number from by to)) = steps number from by to ∷ []
to_first (Ok (ranges number x y beacon_x beacon_y nearest farthest)) = []
to_first (Err e) = []

abbrev pub to_second : Result Said RecordFault → List Said
to_second (Ok (bounds number cell low high)) = []
to_second (Ok (steps number from by to)) = []
to_second (Ok (ranges number x y beacon_x beacon_y nearest farthest)) = ranges number x y beacon_x beacon_y nearest farthest ∷ []
to_second (Err e) = []

-- what the first `count` records of a log add, in log order, where `add` is one of those two
abbrev pub added : (Result Said RecordFault → List Said) → List ℕ → (gates records count : ℕ) → List Said
added add bytes gates records zero = []
added add bytes gates records (suc count) = added add bytes gates records count ++ add (record_of bytes gates records count)

abbrev pub all_steps : (gates : ℕ) → List Said
all_steps gates = axis_steps gates X (gates - 1) ++ axis_steps gates Y (gates - 1)

unfoldable pub first_net : List ℕ → List Said
first_net bytes = all_steps (gates_of bytes) ++ added to_first bytes (gates_of bytes) (records_of bytes) (records_of bytes)

unfoldable pub second_net : List ℕ → List Said
second_net bytes = added to_second bytes (gates_of bytes) (records_of bytes) (records_of bytes)

-- a net to which some were added at the end
pub record Grown (more : List Said) (before after : Net) : Type 0 where
  pub says : sayings after ≡ sayings before ++ more
  pub rounds : rounds_of after ≡ rounds_of before

-- a net whose records were replaced, and whose rounds were not
pub record Refilled (saids : List Said) (before after : Net) : Type 0 where
  pub says : sayings after ≡ saids
  pub rounds : rounds_of after ≡ rounds_of before

-- what reading a log into two nets answers and leaves: both refilled, or the reason why not, and both as they were
abbrev pub Filled : List ℕ → (one two one' two' : Net) → Result Sizes LogFault → Type 0
Filled bytes one two one' two' (Ok sizes) =
    (log_fault bytes ≡ None) × Sized bytes sizes × Refilled (first_net bytes) one one' × Refilled (second_net bytes) two two'
Filled bytes one two one' two' (Err e) = (log_fault bytes ≡ Some e) × (one' ≡ one) × (two' ≡ two)
