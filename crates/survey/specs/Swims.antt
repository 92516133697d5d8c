-- Swims, when one obeys a log, and what a report is worth: no swim that obeys the log is missing from it. Assumes nothing.
use Rattle.std.specs.Prelude.{◌≡◌, ℕ, ◌+◌, ◌<◌, List, ℤ, ◌+ℤ◌, ◌-ℤ◌, Some}
use Rattle.tube.specs.Tubes.{In, row, cell}
use Rattle.constraint.specs.Hulls.{square}
use Rattle.swimlog.specs.Format.{gates_of, records_of, head_of, body_of}
use Rattle.swimlog.specs.Logs.{log_fault}
use Rattle.swimlog.specs.Records.{kind_of, gate_cell}
use Rattle.swimlog.specs.declared.field.Head.{Head}
use Rattle.swimlog.specs.declared.field.Body.{Body}
use Rattle.swimlog.specs.declared.kind.Axis.{Axis}
use Rattle.swimlog.specs.declared.kind.Axis.TheVariants.{X, Y}
use Rattle.swimlog.specs.declared.kind.Kind.{Kind}
use Rattle.swimlog.specs.declared.kind.Kind.TheVariants.{Position, Step, Distance}
use Rattle.survey.specs.Surveys.{widest}
use Rattle.swimlog.specs.declared.report.Report.{Report}
use Rattle.swimlog.specs.declared.report.Report.TheVariants.{Kept, Empty, Refused}

-- where a robot is at each gate, and how far it goes on each slice, in millimetres
pub record Swim : Type 0 where
  pub position : Axis → (gate : ℕ) → ℤ
  pub step : Axis → (slice : ℕ) → ℤ

-- the square of the distance from a gate to a beacon
abbrev pub distance_squared : Swim → (gate : ℕ) (beacon_x beacon_y : ℤ) → ℤ
distance_squared s gate beacon_x beacon_y = square (s.position X gate -ℤ beacon_x) +ℤ square (s.position Y gate -ℤ beacon_y)

-- a swim agrees with a record
abbrev pub Agrees : Swim → Kind → Head → Body → Type 0
Agrees s (Position axis) h b = In (row b.b0 b.b1) (s.position axis h.p)
Agrees s (Step axis) h b = In (row b.b0 b.b1) (s.step axis h.p)
Agrees s Distance h b = In (row (square b.b2) (square b.b3)) (distance_squared s h.p b.b0 b.b1)

-- a swim obeys a log: each position is the one before plus the step between them, every record agrees, and no number is out of reach
pub record Obeys (bytes : List ℕ) (s : Swim) : Type 0 where
  pub joined : (axis : Axis) (slice : ℕ) → slice + 1 < gates_of bytes → s.position axis (slice + 1) ≡ s.position axis slice +ℤ s.step axis slice
  pub recorded : (j : ℕ) → j < records_of bytes → (kind : Kind) → kind_of (head_of bytes j).kind (head_of bytes j).axis ≡ Some kind → Agrees s kind (head_of bytes j) (body_of bytes (records_of bytes) j)
  pub near : (axis : Axis) (gate : ℕ) → gate < gates_of bytes → In widest (s.position axis gate)
  pub near_steps : (axis : Axis) (slice : ℕ) → slice + 1 < gates_of bytes → In widest (s.step axis slice)

-- kept: the row that is printed for a gate and an axis holds the position of every swim that obeys the log; empty: there is none; refused: why
abbrev pub Worth : List ℕ → Report → Type 0
Worth bytes (Kept calls mark sizes tube) =
    (s : Swim) → Obeys bytes s → (axis : Axis) (gate : ℕ) → gate < gates_of bytes → In (cell tube (gate_cell (gates_of bytes) axis gate)) (s.position axis gate)
Worth bytes (Empty fault calls) = (s : Swim) → Obeys bytes s → ⊥
Worth bytes (Refused e) = log_fault bytes ≡ Some e
