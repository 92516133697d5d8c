-- What the records of a swim log say, and why one is refused. Assumes nothing.
use Rattle.std.specs.Prelude.{◌≡◌, ℕ, ◌+◌, ◌-◌, ◌*◌, Bool, true, cond, ◌&&◌, List, [], ◌∷◌, ℤ, pos, Some, None, Ok, Err, Option, Result, ◌==◌, nat_lt}
use Rattle.std.specs.Option.{option_map}
use Rattle.tube.specs.declared.fault.MakingFault.{MakingFault}
use Rattle.contractor.specs.Contractors.{Value}
use Rattle.constraint.specs.Constraints.{equal, bound, step, range}
use Rattle.constraint.specs.Kinds.{IsBound, IsStep, IsRange}
use Rattle.constraint.specs.Makings.{bound_fault, step_fault, range_fault}
use Rattle.constraint.specs.declared.constraint.Constraint.{Constraint}
use Rattle.constraint.specs.declared.constraint.Constraint.TheVariants.{Bound as of_bound, Step as of_step, Range as of_range}
use Rattle.swimlog.specs.declared.fault.RecordFault.{RecordFault}
use Rattle.swimlog.specs.declared.fault.RecordFault.TheVariants.{UnknownKind, BadPlace, BadValue}
use Rattle.swimlog.specs.declared.field.Head.{Head}
use Rattle.swimlog.specs.declared.field.Body.{Body}
use Rattle.swimlog.specs.declared.kind.Axis.{Axis}
use Rattle.swimlog.specs.declared.kind.Axis.TheVariants.{X, Y}
use Rattle.swimlog.specs.declared.kind.Kind.{Kind}
use Rattle.swimlog.specs.declared.kind.Kind.TheVariants.{Position, Step, Distance}

-- ---- kinds

abbrev pub axis_of : ℕ → Option Axis
axis_of axis = cond (axis == 0) (Some X) (cond (axis == 1) (Some Y) None)

-- the letters B, S and R; a distance has no axis of its own, and stands with axis 0
abbrev pub kind_of : (kind axis : ℕ) → Option Kind
kind_of kind axis =
    cond (kind == 66) (option_map Position (axis_of axis))
    (cond (kind == 83) (option_map Step (axis_of axis))
    (cond (kind == 82 && axis == 0) (Some Distance) None))

-- ---- places

-- a position or a distance is at a gate, a step on a slice, of which there is one fewer
abbrev pub places : (gates : ℕ) → Kind → ℕ
places gates (Position axis) = gates
places gates (Step axis) = gates - 1
places gates Distance = gates

-- what the kind has no use for in a body
abbrev pub unused : Kind → Body → List ℤ
unused (Position axis) b = b.b2 ∷ b.b3 ∷ b.b4 ∷ b.b5 ∷ []
unused (Step axis) b = b.b2 ∷ b.b3 ∷ b.b4 ∷ b.b5 ∷ []
unused Distance b = b.b4 ∷ b.b5 ∷ []

abbrev pub all_zero : List ℤ → Bool
all_zero [] = true
all_zero (z ∷ zs) = equal z (pos 0) && all_zero zs

-- no kind has a use for q
abbrev pub is_placed : (gates : ℕ) → Kind → Head → Body → Bool
is_placed gates kind h b = nat_lt h.p (places gates kind) && (h.q == 0 && all_zero (unused kind b))

-- ---- cells: all x, then all y, then the x steps, then the y steps

abbrev pub gate_cell : (gates : ℕ) → Axis → (gate : ℕ) → ℕ
gate_cell gates X gate = gate
gate_cell gates Y gate = gates + gate

abbrev pub step_cell : (gates : ℕ) → Axis → (slice : ℕ) → ℕ
step_cell gates X slice = 2 * gates + slice
step_cell gates Y slice = 3 * gates - 1 + slice

-- ---- what is said of a swim: a constraint in plain numbers

pub data Said : Type 0 where
  bounds : (number cell : ℕ) (low high : ℤ) → Said
  steps : (number from by to : ℕ) → Said
  ranges : (number x y : ℕ) (beacon_x beacon_y nearest farthest : ℤ) → Said

-- as a contractor
abbrev pub said_value : Said → Value
said_value (bounds number cell low high) = bound number cell low high
said_value (steps number from by to) = step number from by to
said_value (ranges number x y beacon_x beacon_y nearest farthest) = range number x y beacon_x beacon_y nearest farthest

-- why it cannot be made
abbrev pub said_fault : Said → Option MakingFault
said_fault (bounds number cell low high) = bound_fault cell low high
said_fault (steps number from by to) = step_fault from by to
said_fault (ranges number x y beacon_x beacon_y nearest farthest) = range_fault x y beacon_x beacon_y nearest farthest

-- a constraint is what was said
abbrev pub Is : Said → Constraint → Type 0
Is (bounds number cell low high) (of_bound k) = IsBound k number cell low high
Is (bounds number cell low high) (of_step k) = ⊥
Is (bounds number cell low high) (of_range k) = ⊥
Is (steps number from by to) (of_bound k) = ⊥
Is (steps number from by to) (of_step k) = IsStep k number from by to
Is (steps number from by to) (of_range k) = ⊥
Is (ranges number x y beacon_x beacon_y nearest farthest) (of_bound k) = ⊥
Is (ranges number x y beacon_x beacon_y nearest farthest) (of_step k) = ⊥
Is (ranges number x y beacon_x beacon_y nearest farthest) (of_range k) = IsRange k number x y beacon_x beacon_y nearest farthest

-- ---- the steps: slice k leads from gate k to the next; the x steps are numbered first, then the y steps

abbrev pub step_number : (gates : ℕ) → Axis → (slice : ℕ) → ℕ
step_number gates X slice = slice
step_number gates Y slice = gates - 1 + slice

abbrev pub slice_step : (gates : ℕ) → Axis → (slice : ℕ) → Said
slice_step gates axis slice = steps (step_number gates axis slice) (gate_cell gates axis slice) (step_cell gates axis slice) (gate_cell gates axis (slice + 1))

-- ---- a record, numbered after the steps

abbrev pub record_constraint : (gates index : ℕ) → ℕ
record_constraint gates index = 2 * (gates - 1) + index

abbrev pub says : (gates number : ℕ) → Kind → Head → Body → Said
says gates number (Position axis) h b = bounds number (gate_cell gates axis h.p) b.b0 b.b1
says gates number (Step axis) h b = bounds number (step_cell gates axis h.p) b.b0 b.b1
says gates number Distance h b = ranges number (gate_cell gates X h.p) (gate_cell gates Y h.p) b.b0 b.b1 b.b2 b.b3

abbrev pub if_makeable : Said → Option MakingFault → Result Said RecordFault
if_makeable said (Some e) = Err (BadValue e)
if_makeable said None = Ok said

abbrev pub made : Said → Result Said RecordFault
made said = if_makeable said (said_fault said)

abbrev pub if_placed : (gates number : ℕ) → Kind → Head → Body → Result Said RecordFault
if_placed gates number kind h b = cond (is_placed gates kind h b) (made (says gates number kind h b)) (Err BadPlace)

abbrev pub if_known : (gates number : ℕ) → Option Kind → Head → Body → Result Said RecordFault
if_known gates number (Some kind) h b = if_placed gates number kind h b
if_known gates number None h b = Err UnknownKind

-- what a head and a body say, or the first reason to refuse them: the kind, then the place and the unused fields, then the values
abbrev pub record_says : (gates number : ℕ) → Head → Body → Result Said RecordFault
record_says gates number h b = if_known gates number (kind_of h.kind h.axis) h b

-- the constraint that was said, or the reason why there is none
abbrev pub Reads : Result Said RecordFault → Result Constraint RecordFault → Type 0
Reads (Ok said) (Ok k) = Is said k
Reads (Ok said) (Err e) = ⊥
Reads (Err e) (Ok k) = ⊥
Reads (Err e) (Err f) = f ≡ e
