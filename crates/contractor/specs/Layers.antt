-- What the layers share: figures worked out from the parts', the fault that a layer passes up, and the mark of two uses. Assumes nothing.
use Rattle.std.specs.Prelude.{ℕ, ◌+◌, ◌*◌, min, max, Bool, List}
use Rattle.tube.specs.Tubes.{Trajectory}
use Rattle.tube.specs.declared.row.Row.{Row}
use Rattle.contractor.specs.Contractors.{Value, Narrowed}
use Rattle.contractor.specs.Refusals.{most_layers, most_calls}
use Rattle.contractor.specs.declared.answer.Answer.{Answer}
use Rattle.contractor.specs.declared.answer.Fault.{Fault}
use Rattle.contractor.specs.declared.answer.Mark.{Mark}
use Rattle.contractor.specs.declared.answer.Mark.TheVariants.{Settled, Stopped}

-- the height of a layer over parts of some height: one more, and past the limit always the same
abbrev pub above : ℕ → ℕ
above height = min (most_layers + 1) (height + 1)

-- a ceiling as it is told: past the limit always the same
abbrev pub capped : ℕ → ℕ
capped calls = min (most_calls + 1) calls

-- a fault as a layer passes it up: one digit more at the end of its path
abbrev pub passed_up : ℕ → Fault → Fault
passed_up digit fault = record { cause = fault.cause; number = fault.number; cell = fault.cell; path = fault.path * 8 + digit }

-- the mark of two uses that are both kept
abbrev pub either_stopped : Mark → Mark → Mark
either_stopped Settled mark = mark
either_stopped Stopped mark = Stopped

-- an answer, and the tube that is left with it
abbrev pub leaving : Answer → List Row → Narrowed
leaving answer tube = record { answer = answer; tube = tube }

-- A layer over two parts, whatever its relation and what it does: its figures come from theirs.
abbrev pub over_two : Value → Value → (Trajectory → Bool) → (List Row → Narrowed) → Value
over_two v w relation narrowed = record {
  relation = relation;
  need = max v.need w.need;
  height = above (max v.height w.height);
  ceiling = capped (v.ceiling + w.ceiling);
  narrowed = narrowed;
}
