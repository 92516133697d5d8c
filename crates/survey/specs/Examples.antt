-- Two small logs, what is printed for each, and a swim that obeys the first. Assumes nothing.
use Rattle.std.specs.Prelude.{◌≡◌, ℕ, zero, suc, List, [], ◌∷◌, ◌++◌, ℤ, pos}
use Rattle.tube.specs.Tubes.{row}
use Rattle.tube.specs.declared.row.Row.{Row}
use Rattle.contractor.specs.declared.answer.Mark.TheVariants.{Settled}
use Rattle.swimlog.specs.declared.kind.Axis.{Axis}
use Rattle.swimlog.specs.declared.kind.Axis.TheVariants.{X, Y}
use Rattle.swimlog.specs.Report.{kept_bytes, empty_bytes}
use Rattle.survey.specs.Surveys.{printed}
use Rattle.survey.specs.Swims.{Swim, Obeys}

-- ---- bytes of a log whose numbers are all small

abbrev pub head : (kind axis p : ℕ) → List ℕ
head kind axis p = kind ∷ axis ∷ p ∷ 0 ∷ 0 ∷ 0 ∷ []

abbrev pub four : ℕ → List ℕ
four n = n ∷ 0 ∷ 0 ∷ 0 ∷ []

abbrev pub body : (b0 b1 b2 b3 : ℕ) → List ℕ
body b0 b1 b2 b3 = four b0 ++ (four b1 ++ (four b2 ++ (four b3 ++ (four 0 ++ four 0))))

-- Two gates. At the first x and y are 0, the x step lies in 3..5, the y step is 0, and the second gate is so far from a beacon at (10, 0).
abbrev pub small_log : (distance : ℕ) → List ℕ
small_log distance =
    (2 ∷ 0 ∷ 5 ∷ 0 ∷ [])
    ++ (head 66 0 0 ++ (head 66 1 0 ++ (head 83 0 0 ++ (head 83 1 0 ++ (head 82 0 1
    ++ (body 0 0 0 0 ++ (body 0 0 0 0 ++ (body 3 5 0 0 ++ (body 0 0 0 0 ++ body 10 0 distance distance)))))))))

-- from (0, 0) to (4, 0)
abbrev pub small_position : Axis → ℕ → ℤ
small_position X zero = pos 0
small_position X (suc gate) = pos 4
small_position Y gate = pos 0

abbrev pub small_step : Axis → ℕ → ℤ
small_step X slice = pos 4
small_step Y slice = pos 0

abbrev pub small_swim : Swim
small_swim = record { position = small_position; step = small_step }

abbrev pub only : ℕ → Row
only n = row (pos n) (pos n)

-- 6 from the beacon: kept, with one swim left; 20 from it: empty, since a step leads at most to 5
pub record SmallLogsHold : Type 0 where
  pub near : printed (small_log 6) ≡ kept_bytes 31 Settled 2 (only 0 ∷ only 4 ∷ only 0 ∷ only 0 ∷ only 4 ∷ only 0 ∷ [])
  pub far : printed (small_log 20) ≡ empty_bytes (record { cause = 3; number = 6; cell = 1; path = 340 }) 15
  pub obeyed : Obeys (small_log 6) small_swim
