-- Which report follows from the bytes of a log. Assumes nothing.
use Rattle.std.specs.Prelude.{◌≡◌, ℕ, List, [], ◌∷◌, map, take, replicate, pos, neg_ℤ, Some, None, Option}
use Rattle.tube.specs.Spans.{reach}
use Rattle.tube.specs.Tubes.{row}
use Rattle.tube.specs.declared.row.Row.{Row}
use Rattle.contractor.specs.Answers.{kept, emptied}
use Rattle.contractor.specs.Compositions.{both}
use Rattle.contractor.specs.Contractors.{Narrowed, Value}
use Rattle.contractor.specs.Repetitions.{repeat}
use Rattle.contractor.specs.declared.answer.Verdict.{Verdict}
use Rattle.contractor.specs.declared.answer.Verdict.TheVariants.{Kept as is_kept, Empty as is_empty}
use Rattle.net.specs.Nets.{Part, net}
use Rattle.swimlog.specs.Fillings.{first_net, second_net}
use Rattle.swimlog.specs.Format.{gates_of}
use Rattle.swimlog.specs.Limits.{cells_of}
use Rattle.swimlog.specs.Logs.{log_fault, Sized}
use Rattle.swimlog.specs.Records.{Said, bounds, steps, ranges, said_value}
use Rattle.swimlog.specs.declared.fault.LogFault.{LogFault}
use Rattle.swimlog.specs.declared.sizes.Sizes.{Sizes}
use Rattle.swimlog.specs.Report.{kept_bytes, empty_bytes, refused_bytes}
use Rattle.swimlog.specs.declared.report.Report.{Report}
use Rattle.swimlog.specs.declared.report.Report.TheVariants.{Kept, Empty, Refused}

-- ---- the pile

-- how many rounds each of the nets may take, and the pile over both
abbrev pub net_rounds : ℕ
net_rounds = 32

abbrev pub pile_rounds : ℕ
pile_rounds = 8

-- the cells that a constraint in plain numbers mentions
abbrev pub said_cells : Said → List ℕ
said_cells (bounds number cell low high) = cell ∷ []
said_cells (steps number from by to) = from ∷ by ∷ to ∷ []
said_cells (ranges number x y beacon_x beacon_y nearest farthest) = x ∷ y ∷ []

abbrev pub said_part : Said → Part
said_part s = record { value = said_value s; cells = said_cells s }

abbrev pub said_net : List Said → Value
said_net saids = net (map said_part saids) net_rounds

-- rounds over the composition of the two nets that a log fills
unfoldable pub pile : List ℕ → Value
pile bytes = repeat pile_rounds (both (said_net (first_net bytes)) (said_net (second_net bytes)))

-- ---- the first tube: nothing is known of any cell but that it is within reach

abbrev pub widest : Row
widest = row (neg_ℤ (pos reach)) (pos reach)

abbrev pub first_tube : (gates : ℕ) → List Row
first_tube gates = replicate (cells_of gates) widest

-- ---- the report

-- what the pile answers on the first tube, and leaves of it
unfoldable pub surveyed : List ℕ → Narrowed
unfolding pile
surveyed bytes = (pile bytes).narrowed (first_tube (gates_of bytes))

-- what a contractor makes of the first tube, as a report
abbrev pub Reported : Value → Sizes → Report → Type 0
Reported v sizes (Kept calls mark same tube) =
    (same ≡ sizes) × ((v.narrowed (first_tube sizes.gates)).answer ≡ kept mark calls) × (take (cells_of sizes.gates) tube ≡ (v.narrowed (first_tube sizes.gates)).tube)
Reported v sizes (Empty fault calls) = (v.narrowed (first_tube sizes.gates)).answer ≡ emptied fault calls
Reported v sizes (Refused e) = ⊥

-- which report follows from a log: that of its pile, or the reason to refuse it
abbrev pub Surveyed : List ℕ → Report → Type 0
Surveyed bytes (Kept calls mark sizes tube) =
    (log_fault bytes ≡ None) × Sized bytes sizes × ((surveyed bytes).answer ≡ kept mark calls) × (take (cells_of sizes.gates) tube ≡ (surveyed bytes).tube)
Surveyed bytes (Empty fault calls) = (log_fault bytes ≡ None) × ((surveyed bytes).answer ≡ emptied fault calls)
Surveyed bytes (Refused e) = log_fault bytes ≡ Some e

-- ---- the same as bytes: what is printed for a log

abbrev pub told : Verdict → (calls gates : ℕ) → List Row → List ℕ
told (is_kept mark) calls gates tube = kept_bytes calls mark gates tube
told (is_empty fault) calls gates tube = empty_bytes fault calls

abbrev pub told_unless : Option LogFault → (gates : ℕ) → Narrowed → List ℕ
told_unless (Some e) gates u = refused_bytes e
told_unless None gates u = told u.answer.verdict u.answer.calls gates u.tube

unfoldable pub printed : List ℕ → List ℕ
printed bytes = told_unless (log_fault bytes) (gates_of bytes) (surveyed bytes)
