-- What a swim log says, and why one is refused. Assumes nothing.
use Rattle.std.specs.Prelude.{◌≡◌, ℕ, zero, suc, ◌+◌, ◌<◌, Bool, true, false, cond, not, ◌&&◌, List, length, Some, None, Ok, Err, Option, Result, ◌==◌, nat_le}
use Rattle.std.specs.Option.{option_or}
use Rattle.swimlog.specs.Format.{sizes_length, body_length, log_length, body_start, gates_of, records_of, head_of, body_of}
use Rattle.swimlog.specs.Limits.{are_sizes}
use Rattle.swimlog.specs.Records.{Said, record_constraint, record_says}
use Rattle.tube.specs.Faults.{number_of as making_number}
use Rattle.constraint.specs.declared.constraint.Constraint.{Constraint}
use Rattle.swimlog.specs.declared.fault.BadRecord.{BadRecord}
use Rattle.swimlog.specs.declared.fault.LogFault.{LogFault}
use Rattle.swimlog.specs.declared.fault.LogFault.TheVariants.{BadSizes, BadLength, InRecord}
use Rattle.swimlog.specs.declared.fault.RecordFault.{RecordFault}
use Rattle.swimlog.specs.declared.fault.RecordFault.TheVariants.{CutOff, UnknownKind, BadPlace, BadValue}
use Rattle.swimlog.specs.declared.sizes.Sizes.{Sizes}

abbrev pub in_record : (index : ℕ) → Result Said RecordFault → Option LogFault
in_record index (Ok said) = None
in_record index (Err e) = Some (InRecord (record { index = index; fault = e }))

module _ (bytes : List ℕ) (gates records : ℕ) where
  -- what a record says that stands in the bytes whole
  abbrev pub record_of : (index : ℕ) → Result Said RecordFault
  record_of index = record_says gates (record_constraint gates index) (head_of bytes index) (body_of bytes records index)

  -- the same where the bytes may end before the record does
  abbrev pub record_in : (index : ℕ) → Result Said RecordFault
  record_in index = cond (nat_le (body_start records index + body_length) (length bytes)) (record_of index) (Err CutOff)

  abbrev pub record_fault : (index : ℕ) → Option LogFault
  record_fault index = in_record index (record_of index)

  -- the fault of the earliest of the first `count` records that has one
  abbrev pub earliest_fault : (count : ℕ) → Option LogFault
  earliest_fault zero = None
  earliest_fault (suc count) = option_or (earliest_fault count) (record_fault count)

abbrev pub has_sizes : List ℕ → Bool
has_sizes bytes = nat_le sizes_length (length bytes) && are_sizes (gates_of bytes) (records_of bytes)

-- why a log is refused: its sizes, then its length, then its earliest bad record
unfoldable pub log_fault : List ℕ → Option LogFault
log_fault bytes =
    cond (not (has_sizes bytes)) (Some BadSizes)
    (cond (not (length bytes == log_length (records_of bytes))) (Some BadLength)
    (earliest_fault bytes (gates_of bytes) (records_of bytes) (records_of bytes)))

-- ---- what reading answers

-- a record's fault is handed up with the record's place in the log
abbrev pub numbered : (index : ℕ) → Result Constraint RecordFault → Result Constraint BadRecord
numbered index (Ok k) = Ok k
numbered index (Err e) = Err (record { index = index; fault = e })

-- the sizes are those that the bytes tell
pub record Sized (bytes : List ℕ) (sizes : Sizes) : Type 0 where
  pub same_gates : sizes.gates ≡ gates_of bytes
  pub same_records : sizes.records ≡ records_of bytes

abbrev pub ReadSizes : List ℕ → Result Sizes LogFault → Type 0
ReadSizes bytes (Ok sizes) = (has_sizes bytes ≡ true) × Sized bytes sizes
ReadSizes bytes (Err e) = (has_sizes bytes ≡ false) × (e ≡ BadSizes)

-- a log that is not refused, with its sizes, or the reason why it is
abbrev pub Checked : List ℕ → Result Sizes LogFault → Type 0
Checked bytes (Ok sizes) = (log_fault bytes ≡ None) × Sized bytes sizes
Checked bytes (Err e) = log_fault bytes ≡ Some e

-- ---- what a fault of a whole log can be

-- no record is cut off, and no constraint is refused but for its values
abbrev pub Plain : RecordFault → Type 0
Plain CutOff = ⊥
Plain UnknownKind = Unit {0}
Plain BadPlace = Unit {0}
Plain (BadValue e) = making_number e ≡ 3

-- the record that is to blame is one of the log's
abbrev pub Blames : List ℕ → LogFault → Type 0
Blames bytes BadSizes = Unit {0}
Blames bytes BadLength = Unit {0}
Blames bytes (InRecord b) = (b.index < records_of bytes) × Plain b.fault
