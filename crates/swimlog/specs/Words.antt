-- Why a swim log is refused, in words. Assumes nothing.
use Rattle.std.specs.Prelude.{ℕ, List, ◌++◌, codes, decimal}
use Rattle.tube.specs.Faults.{words}
use Rattle.swimlog.specs.declared.fault.BadRecord.{BadRecord}
use Rattle.swimlog.specs.declared.fault.FieldFault.{FieldFault}
use Rattle.swimlog.specs.declared.fault.FieldFault.TheVariants.{CutOff as field_cut_off}
use Rattle.swimlog.specs.declared.fault.LogFault.{LogFault}
use Rattle.swimlog.specs.declared.fault.LogFault.TheVariants.{BadSizes, BadLength, InRecord}
use Rattle.swimlog.specs.declared.fault.RecordFault.{RecordFault}
use Rattle.swimlog.specs.declared.fault.RecordFault.TheVariants.{CutOff, UnknownKind, BadPlace, BadValue}

abbrev pub field_words : FieldFault → List ℕ
field_words field_cut_off = codes "the bytes end before the field does"

-- a value that no constraint can have is told in the words of its own fault
abbrev pub record_words : RecordFault → List ℕ
record_words CutOff = codes "the bytes end before the record does"
record_words UnknownKind = codes "no such kind, or an axis that its kind lacks"
record_words BadPlace = codes "a gate or a slice too large, or an unused field that is not 0"
record_words (BadValue e) = words e

-- with the record's number, counted from 0
abbrev pub bad_record_words : BadRecord → List ℕ
bad_record_words b = codes "record " ++ (decimal b.index ++ (codes ": " ++ record_words b.fault))

abbrev pub log_words : LogFault → List ℕ
log_words BadSizes = codes "fewer than four bytes, or a size outside its limits"
log_words BadLength = codes "another length than the number of records asks for"
log_words (InRecord b) = bad_record_words b
