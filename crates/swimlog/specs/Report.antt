-- What is printed for a swim log, byte by byte. Assumes nothing.
use Rattle.std.specs.Prelude.{◌≡◌, ℕ, zero, suc, List, [], ◌∷◌, ◌++◌, Ok, Err, codes, decimal, Result}
use Rattle.std.specs.Fmt.{signed_decimal}
use Rattle.std.specs.declared.alloc.AllocError.{AllocError}
use Rattle.tube.specs.Tubes.{cell}
use Rattle.tube.specs.declared.row.Row.{Row}
use Rattle.contractor.specs.declared.answer.Fault.{Fault}
use Rattle.contractor.specs.declared.answer.Mark.{Mark}
use Rattle.contractor.specs.declared.answer.Mark.TheVariants.{Settled, Stopped}
use Rattle.swimlog.specs.Faults.{log_number, log_record, log_inner}
use Rattle.swimlog.specs.Records.{gate_cell}
use Rattle.swimlog.specs.declared.fault.LogFault.{LogFault}
use Rattle.swimlog.specs.declared.kind.Axis.TheVariants.{X, Y}
use Rattle.swimlog.specs.declared.report.Report.{Report}
use Rattle.swimlog.specs.declared.report.Report.TheVariants.{Kept, Empty, Refused}

-- ---- lines of fields

abbrev pub space : ℕ
space = 32

abbrev pub line_end : ℕ
line_end = 10

-- each field after a space
abbrev pub spaced : List (List ℕ) → List ℕ
spaced [] = []
spaced (field ∷ fields) = space ∷ (field ++ spaced fields)

-- fields parted by one space
abbrev pub line : (first : List ℕ) → List (List ℕ) → List ℕ
line first fields = first ++ (spaced fields ++ (line_end ∷ []))

-- ---- the forms of a report

abbrev pub mark_word : Mark → List ℕ
mark_word Settled = codes "settled"
mark_word Stopped = codes "stopped"

-- the two ends of a gate's x, and of its y
abbrev pub place_fields : (x y : Row) → List (List ℕ)
place_fields x y = signed_decimal x.low ∷ signed_decimal x.high ∷ signed_decimal y.low ∷ signed_decimal y.high ∷ []

abbrev pub gate_line : (gates : ℕ) → List Row → (gate : ℕ) → List ℕ
gate_line gates tube gate = line (decimal gate) (place_fields (cell tube (gate_cell gates X gate)) (cell tube (gate_cell gates Y gate)))

-- the first `count` gates, in their order
abbrev pub gate_lines : (gates : ℕ) → List Row → (count : ℕ) → List ℕ
gate_lines gates tube zero = []
gate_lines gates tube (suc count) = gate_lines gates tube count ++ gate_line gates tube count

abbrev pub kept_bytes : (calls : ℕ) → Mark → (gates : ℕ) → List Row → List ℕ
kept_bytes calls mark gates tube = line (codes "kept") (decimal calls ∷ mark_word mark ∷ []) ++ gate_lines gates tube gates

abbrev pub empty_bytes : Fault → (calls : ℕ) → List ℕ
empty_bytes fault calls = line (codes "empty") (decimal fault.number ∷ decimal fault.cause ∷ decimal fault.cell ∷ decimal fault.path ∷ decimal calls ∷ [])

abbrev pub refused_bytes : LogFault → List ℕ
refused_bytes fault = line (codes "refused") (decimal (log_number fault) ∷ decimal (log_record fault) ∷ decimal (log_inner fault) ∷ [])

abbrev pub report_bytes : Report → List ℕ
report_bytes (Kept calls mark sizes tube) = kept_bytes calls mark sizes.gates tube
report_bytes (Empty fault calls) = empty_bytes fault calls
report_bytes (Refused fault) = refused_bytes fault

-- ---- what writing answers

-- bytes were added to a buffer, or there was no memory and the buffer is as it was
abbrev pub Written : (before more : List ℕ) → Result (Unit {0}) AllocError → (after : List ℕ) → Type 0
Written before more (Ok u) after = after ≡ before ++ more
Written before more (Err e) after = after ≡ before
