-- What holds of every step and of every record of a log holds of all that its two nets say. Assumes nothing.
use Rattle.std.proofs.Common.{◌≡◌, ℕ, zero, suc, ◌+◌, ◌-◌, ◌*◌, ◌<◌, ◌≤◌, List, [], ◌∷◌, ◌++◌, length, Ok, Err, Result, refl, arith}
use Rattle.std.proofs.ByRecursion.{All-append}
use Rattle.std.proofs.lemmas.List.{length-append}
use Rattle.std.specs.List.{AllByRecursion}
use Rattle.swimlog.proofs.Fillings.{axis_steps_count, to_first_few, to_second_few}
use Rattle.swimlog.specs.Fillings.{axis_steps, all_steps, to_first, to_second, added, first_net, second_net}
use Rattle.swimlog.specs.Format.{gates_of, records_of}
use Rattle.swimlog.specs.Logs.{record_of}
use Rattle.swimlog.specs.Records.{Said, bounds, steps, ranges, slice_step}
use Rattle.swimlog.specs.declared.fault.RecordFault.{RecordFault}
use Rattle.swimlog.specs.declared.kind.Axis.{Axis}
use Rattle.swimlog.specs.declared.kind.Axis.TheVariants.{X, Y}

-- what a net takes of a record is at most what the record says
pub record Takes (add : Result Said RecordFault → List Said) : Type 1 where
  pub few : (o : Result Said RecordFault) → length (add o) ≤ 1
  pub only : (P : Said → Type 0) (o : Result Said RecordFault) → ((s : Said) → o ≡ Ok s → P s) → AllByRecursion P (add o)

only_first : (P : Said → Type 0) (o : Result Said RecordFault) → ((s : Said) → o ≡ Ok s → P s) → AllByRecursion P (to_first o)
only_first P (Ok (bounds number cell low high)) h = (h (bounds number cell low high) refl, tt)
only_first P (Ok (steps number from by to)) h = (h (steps number from by to) refl, tt)
only_first P (Ok (ranges number x y beacon_x beacon_y nearest farthest)) h = tt
only_first P (Err e) h = tt

only_second : (P : Said → Type 0) (o : Result Said RecordFault) → ((s : Said) → o ≡ Ok s → P s) → AllByRecursion P (to_second o)
only_second P (Ok (bounds number cell low high)) h = tt
only_second P (Ok (steps number from by to)) h = tt
only_second P (Ok (ranges number x y beacon_x beacon_y nearest farthest)) h = (h (ranges number x y beacon_x beacon_y nearest farthest) refl, tt)
only_second P (Err e) h = tt

takes_first : Takes to_first
takes_first = record { few = to_first_few; only = only_first }

takes_second : Takes to_second
takes_second = record { few = to_second_few; only = only_second }

module _ (add : Result Said RecordFault → List Said) (takes : Takes add) (bytes : List ℕ) (gates records : ℕ) where
  added_few : (count : ℕ) → length (added add bytes gates records count) ≤ count
  added_few zero = omega arith
  added_few (suc count) = omega (arith, length-append (added add bytes gates records count) (add (record_of bytes gates records count)), added_few count, takes.few (record_of bytes gates records count))

  all_added : (P : Said → Type 0) → ((j : ℕ) → j < records → (s : Said) → record_of bytes gates records j ≡ Ok s → P s) → (count : ℕ) → count ≤ records → AllByRecursion P (added add bytes gates records count)
  all_added P each zero h = tt
  all_added P each (suc count) h =
      All-append P (added add bytes gates records count) (add (record_of bytes gates records count)) (all_added P each count (omega arith))
      (takes.only P (record_of bytes gates records count) (each count (omega arith)))

all_axis : (P : Said → Type 0) (gates : ℕ) (axis : Axis) → ((slice : ℕ) → slice + 1 < gates → P (slice_step gates axis slice)) → (count : ℕ) → count + 1 ≤ gates → AllByRecursion P (axis_steps gates axis count)
all_axis P gates axis each zero h = tt
all_axis P gates axis each (suc count) h =
    All-append P (axis_steps gates axis count) (slice_step gates axis count ∷ []) (all_axis P gates axis each count (omega arith)) (each count (omega arith), tt)

module _ (bytes : List ℕ) (some : 1 ≤ gates_of bytes) where
  module _ (P : Said → Type 0) (of_step : (axis : Axis) (slice : ℕ) → slice + 1 < gates_of bytes → P (slice_step (gates_of bytes) axis slice)) (of_record : (j : ℕ) → j < records_of bytes → (s : Said) → record_of bytes (gates_of bytes) (records_of bytes) j ≡ Ok s → P s) where
    pub all_first : AllByRecursion P (first_net bytes)
    unfolding first_net
    all_first =
        All-append P (all_steps (gates_of bytes)) (added to_first bytes (gates_of bytes) (records_of bytes) (records_of bytes))
        (All-append P (axis_steps (gates_of bytes) X (gates_of bytes - 1)) (axis_steps (gates_of bytes) Y (gates_of bytes - 1))
        (all_axis P (gates_of bytes) X (of_step X) (gates_of bytes - 1) (omega arith)) (all_axis P (gates_of bytes) Y (of_step Y) (gates_of bytes - 1) (omega arith)))
        (all_added to_first takes_first bytes (gates_of bytes) (records_of bytes) P of_record (records_of bytes) (omega arith))

    pub all_second : AllByRecursion P (second_net bytes)
    unfolding second_net
    all_second = all_added to_second takes_second bytes (gates_of bytes) (records_of bytes) P of_record (records_of bytes) (omega arith)

  pub few_in_first : length (first_net bytes) ≤ 2 * (gates_of bytes - 1) + records_of bytes
  unfolding first_net
  few_in_first =
      let x = axis_steps (gates_of bytes) X (gates_of bytes - 1) in
      let y = axis_steps (gates_of bytes) Y (gates_of bytes - 1) in
      omega (
        arith,
        length-append (x ++ y) (added to_first bytes (gates_of bytes) (records_of bytes) (records_of bytes)),
        length-append x y,
        axis_steps_count (gates_of bytes) X (gates_of bytes - 1),
        axis_steps_count (gates_of bytes) Y (gates_of bytes - 1),
        added_few to_first takes_first bytes (gates_of bytes) (records_of bytes) (records_of bytes),
      )

  pub few_in_second : length (second_net bytes) ≤ records_of bytes
  unfolding second_net
  few_in_second = added_few to_second takes_second bytes (gates_of bytes) (records_of bytes) (records_of bytes)
