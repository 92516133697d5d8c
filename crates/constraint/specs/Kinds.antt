-- The kinds of constraint: what making one answers, and each one's value. Assumes nothing.
use Rattle.std.specs.Prelude.{◌≡◌, ℕ, ℤ, Some, None, Ok, Err, Result}
use Rattle.tube.specs.declared.fault.MakingFault.{MakingFault}
use Rattle.contractor.specs.Contractors.{Value}
use Rattle.constraint.specs.Makings.{bound_fault, step_fault, range_fault}
use Rattle.constraint.specs.Constraints.{bound, step, range}
use Rattle.constraint.specs.declared.bound.Bound.{Bound}
use Rattle.constraint.specs.declared.step.Step.{Step}
use Rattle.constraint.specs.declared.range.Range.{Range}
use Rattle.constraint.specs.declared.constraint.Constraint.{Constraint}
use Rattle.constraint.specs.declared.constraint.Constraint.TheVariants.{Bound as of_bound, Step as of_step, Range as of_range}

abbrev pub bound_value : Bound → Value
bound_value k = bound k.number k.cell k.span.low k.span.high

-- what was made is what was asked for
pub record IsBound (k : Bound) (number cell : ℕ) (low high : ℤ) : Type 0 where
  pub same_number : k.number ≡ number
  pub same_cell : k.cell ≡ cell
  pub same_low : k.span.low ≡ low
  pub same_high : k.span.high ≡ high

abbrev pub MadeBound : (number cell : ℕ) (low high : ℤ) → Result Bound MakingFault → Type 0
MadeBound number cell low high (Ok k) = (bound_fault cell low high ≡ None) × IsBound k number cell low high
MadeBound number cell low high (Err e) = bound_fault cell low high ≡ Some e

abbrev pub step_value : Step → Value
step_value k = step k.number k.from k.by k.to

pub record IsStep (k : Step) (number from by to : ℕ) : Type 0 where
  pub same_number : k.number ≡ number
  pub same_from : k.from ≡ from
  pub same_by : k.by ≡ by
  pub same_to : k.to ≡ to

abbrev pub MadeStep : (number from by to : ℕ) → Result Step MakingFault → Type 0
MadeStep number from by to (Ok k) = (step_fault from by to ≡ None) × IsStep k number from by to
MadeStep number from by to (Err e) = step_fault from by to ≡ Some e

abbrev pub range_value : Range → Value
range_value k = range k.number k.x k.y k.beacon.x k.beacon.y k.distances.nearest k.distances.farthest

pub record IsRange (k : Range) (number x y : ℕ) (beacon_x beacon_y nearest farthest : ℤ) : Type 0 where
  pub same_number : k.number ≡ number
  pub same_x : k.x ≡ x
  pub same_y : k.y ≡ y
  pub same_beacon_x : k.beacon.x ≡ beacon_x
  pub same_beacon_y : k.beacon.y ≡ beacon_y
  pub same_nearest : k.distances.nearest ≡ nearest
  pub same_farthest : k.distances.farthest ≡ farthest

abbrev pub MadeRange : (number x y : ℕ) (beacon_x beacon_y nearest farthest : ℤ) → Result Range MakingFault → Type 0
MadeRange number x y beacon_x beacon_y nearest farthest (Ok k) = (range_fault x y beacon_x beacon_y nearest farthest ≡ None) × IsRange k number x y beacon_x beacon_y nearest farthest
MadeRange number x y beacon_x beacon_y nearest farthest (Err e) = range_fault x y beacon_x beacon_y nearest farthest ≡ Some e

-- ---- a constraint of any kind

abbrev pub constraint_value : Constraint → Value
constraint_value (of_bound k) = bound_value k
constraint_value (of_step k) = step_value k
constraint_value (of_range k) = range_value k
