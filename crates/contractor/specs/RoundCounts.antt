-- What making a count of rounds answers. Assumes nothing.
use Rattle.std.specs.Prelude.{ℕ, cond, Ok, Err, Result}
use Rattle.contractor.specs.Counts.{is_count}
use Rattle.contractor.specs.declared.build.BuildRefusal.{BuildRefusal}
use Rattle.contractor.specs.declared.build.BuildRefusal.TheVariants.{RoundsOutOfRange}
use Rattle.contractor.specs.declared.layers.rounds.Rounds.{Rounds}

abbrev pub count_of : Rounds → ℕ
count_of r = r.count

abbrev pub count_if_made : Result Rounds BuildRefusal → Result ℕ BuildRefusal
count_if_made (Ok r) = Ok (count_of r)
count_if_made (Err e) = Err e

abbrev pub made : ℕ → Result ℕ BuildRefusal
made n = cond (is_count n) (Ok n) (Err RoundsOutOfRange)
