-- Worked examples of constraints and layers, one table. Assumes nothing.
use Rattle.std.specs.Prelude.{◌≡◌, ℕ, List, [], ◌∷◌, map, ℤ, pos, neg_ℤ}
use Rattle.tube.specs.Tubes.{row}
use Rattle.tube.specs.declared.row.Row.{Row}
use Rattle.contractor.specs.Answers.{kept}
use Rattle.contractor.specs.Compositions.{both}
use Rattle.contractor.specs.Contractors.{Narrowed, Value}
use Rattle.contractor.specs.Layers.{leaving}
use Rattle.contractor.specs.Repetitions.{repeat}
use Rattle.contractor.specs.Unions.{either}
use Rattle.contractor.specs.declared.answer.Mark.TheVariants.{Settled}
use Rattle.constraint.specs.Constraints.{bound, step, range, settled, empty, bound_cause, step_cause, range_cause}

-- what is asked of a contractor: a use on a tube, or its height and ceiling
pub data Question : Type 0 where
  used_on : List Row → Question
  figures : Question

pub data Reply : Type 0 where
  answered : Narrowed → Reply
  figured : (height ceiling : ℕ) → Reply

pub record Example : Type 0 where
  pub contractor : Value
  pub asked : Question
  pub expected : Reply

abbrev pub reply : Value → Question → Reply
reply v (used_on t) = answered (v.narrowed t)
reply v figures = figured v.height v.ceiling

-- cell 2 is cell 0 plus cell 1
abbrev pub sum : Value
sum = step 7 0 1 2

-- the point in cells 0 and 1 is 5 millimetres from a beacon
abbrev pub five_from : ℤ → Value
five_from x = range 8 0 1 x (pos 0) (pos 5) (pos 5)

abbrev pub examples : List Example
examples =
    -- a bound cuts a cell
    record { contractor = bound 6 0 (pos 0) (pos 9); asked = used_on (row (neg_ℤ (pos 5)) (pos 5) ∷ []); expected = answered (settled (row (pos 0) (pos 5) ∷ [])) }
    -- or leaves nothing of it
    ∷ record { contractor = bound 6 0 (pos 6) (pos 9); asked = used_on (row (neg_ℤ (pos 5)) (pos 5) ∷ []); expected = answered (empty bound_cause 6 0 (row (neg_ℤ (pos 5)) (pos 5) ∷ [])) }
    -- a step narrows two cells
    ∷ record { contractor = sum; asked = used_on (row (pos 0) (pos 2) ∷ row (pos 3) (pos 4) ∷ row (pos 5) (pos 10) ∷ []); expected = answered (settled (row (pos 1) (pos 2) ∷ row (pos 3) (pos 4) ∷ row (pos 5) (pos 6) ∷ [])) }
    -- or is empty at the sum
    ∷ record { contractor = sum; asked = used_on (row (pos 0) (pos 2) ∷ row (pos 3) (pos 4) ∷ row (pos 7) (pos 9) ∷ []); expected = answered (empty step_cause 7 2 (row (pos 0) (pos 2) ∷ row (pos 3) (pos 4) ∷ row (pos 7) (pos 9) ∷ [])) }
    -- a range on one side of the beacon
    ∷ record { contractor = five_from (pos 0); asked = used_on (row (pos 0) (pos 10) ∷ row (pos 3) (pos 3) ∷ []); expected = answered (settled (row (pos 4) (pos 4) ∷ row (pos 3) (pos 3) ∷ [])) }
    -- on both sides: the hull keeps what lies between
    ∷ record { contractor = five_from (pos 0); asked = used_on (row (neg_ℤ (pos 10)) (pos 10) ∷ row (pos 3) (pos 3) ∷ []); expected = answered (settled (row (neg_ℤ (pos 4)) (pos 4) ∷ row (pos 3) (pos 3) ∷ [])) }
    -- or empty at x
    ∷ record { contractor = five_from (pos 0); asked = used_on (row (pos 0) (pos 0) ∷ row (neg_ℤ (pos 4)) (pos 4) ∷ []); expected = answered (empty range_cause 8 0 (row (pos 0) (pos 0) ∷ row (neg_ℤ (pos 4)) (pos 4) ∷ [])) }
    -- a union keeps both beacons' sides and what lies between, and counts both calls
    ∷ record { contractor = either (five_from (pos 0)) (five_from (pos 20)); asked = used_on (row (pos 0) (pos 20) ∷ row (pos 0) (pos 0) ∷ []); expected = answered (leaving (kept Settled 2) (row (pos 5) (pos 15) ∷ row (pos 0) (pos 0) ∷ [])) }
    -- three rounds over a step and that union
    ∷ record { contractor = repeat 3 (both sum (either (five_from (pos 0)) (five_from (pos 20)))); asked = figures; expected = figured 3 9 }
    ∷ []

-- the whole table by one equation
abbrev pub ExamplesHold : Type 0
ExamplesHold = map (λ e. reply e.contractor e.asked) examples ≡ map (λ e. e.expected) examples
