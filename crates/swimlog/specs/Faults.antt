-- Why a swim log is refused: the number of each reason, the record that is to blame, and the number inside. Assumes nothing.
use Rattle.std.specs.Prelude.{ℕ}
use Rattle.tube.specs.Faults.{number_of as making_number}
use Rattle.swimlog.specs.declared.fault.LogFault.{LogFault}
use Rattle.swimlog.specs.declared.fault.LogFault.TheVariants.{BadSizes, BadLength, InRecord}
use Rattle.swimlog.specs.declared.fault.RecordFault.{RecordFault}
use Rattle.swimlog.specs.declared.fault.RecordFault.TheVariants.{CutOff, UnknownKind, BadPlace, BadValue}

-- a record is cut off only where the log's length is wrong, and so has the number of that
abbrev pub record_number : RecordFault → ℕ
record_number CutOff = 14
record_number UnknownKind = 15
record_number BadPlace = 16
record_number (BadValue e) = 17

-- the number of the fault that a record's fault holds, 0 where it holds none
abbrev pub record_inner : RecordFault → ℕ
record_inner CutOff = 0
record_inner UnknownKind = 0
record_inner BadPlace = 0
record_inner (BadValue e) = making_number e

abbrev pub log_number : LogFault → ℕ
log_number BadSizes = 13
log_number BadLength = 14
log_number (InRecord b) = record_number b.fault

-- the record to blame, counted from 0; 0 where it is the whole log
abbrev pub log_record : LogFault → ℕ
log_record BadSizes = 0
log_record BadLength = 0
log_record (InRecord b) = b.index

abbrev pub log_inner : LogFault → ℕ
log_inner BadSizes = 0
log_inner BadLength = 0
log_inner (InRecord b) = record_inner b.fault
