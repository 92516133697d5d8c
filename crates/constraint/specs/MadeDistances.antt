-- What making two distances answers. Assumes nothing.
use Rattle.std.specs.Prelude.{◌≡◌, true, false, ℤ, Ok, Err, Result}
use Rattle.tube.specs.declared.fault.MakingFault.{MakingFault}
use Rattle.tube.specs.declared.fault.MakingFault.TheVariants.{BadValue}
use Rattle.constraint.specs.Makings.{are_distances}
use Rattle.constraint.specs.declared.distances.Distances.{Distances}

abbrev pub MadeDistances : (nearest farthest : ℤ) → Result Distances MakingFault → Type 0
MadeDistances nearest farthest (Ok d) = (are_distances nearest farthest ≡ true) × ((d.nearest ≡ nearest) × (d.farthest ≡ farthest))
MadeDistances nearest farthest (Err e) = (are_distances nearest farthest ≡ false) × (e ≡ BadValue)
