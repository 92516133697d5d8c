-- What a contractor is, and what it must keep. Assumes nothing.
use Rattle.std.specs.Prelude.{◌≡◌, ℕ, ◌+◌, ◌≤◌, Bool, true, false, cond, not, ◌&&◌, List, length, Some, None, Ok, Err, Option, Result, nat_le}
use Rattle.tube.specs.Tubes.{Trajectory, is_tube, most_cells, Lies, Inside, single}
use Rattle.tube.specs.declared.row.Row.{Row}
use Rattle.contractor.specs.Answers.{IsKept, IsEmpty, Placed}
use Rattle.contractor.specs.Refusals.{most_layers, most_calls}
use Rattle.contractor.specs.declared.answer.Answer.{Answer}
use Rattle.contractor.specs.declared.refusal.UseRefusal.{UseRefusal}
use Rattle.contractor.specs.declared.refusal.UseRefusal.TheVariants.{NotATube, TooHigh, TooCostly}

-- what a use that is not refused answers, and the tube that it leaves
pub record Narrowed : Type 0 where
  pub answer : Answer
  pub tube : List Row

-- A contractor as a value. Its relation is a test: which trajectories it is about.
pub record Value : Type 0 where
  pub relation : Trajectory → Bool
  pub need : ℕ
  pub height : ℕ
  pub ceiling : ℕ
  pub narrowed : List Row → Narrowed

-- why a use is refused, the smallest number first
abbrev pub refusal : Value → List Row → Option UseRefusal
refusal v t =
    cond (not (is_tube t && nat_le v.need (length t))) (Some NotATube)
    (cond (not (nat_le v.height most_layers)) (Some TooHigh)
    (cond (not (nat_le v.ceiling most_calls)) (Some TooCostly) None))

pub record Accepted (v : Value) (t : List Row) : Type 0 where
  pub free : refusal v t ≡ None

-- the map: the refusal, or the answer, and the table after
pub record Outcome : Type 0 where
  pub result : Result Answer UseRefusal
  pub table : List Row

abbrev pub outcome_by : Option UseRefusal → Narrowed → List Row → Outcome
outcome_by None u t = record { result = Ok u.answer; table = u.tube }
outcome_by (Some e) u t = record { result = Err e; table = t }

abbrev pub outcome : Value → List Row → Outcome
outcome v t = outcome_by (refusal v t) (v.narrowed t) t

-- what is owed of one use
pub record Fair (v : Value) (t : List Row) (u : Narrowed) : Type 0 where
  pub tube : is_tube u.tube ≡ true
  pub inside : Inside u.tube t
  pub loses_none : (p : Trajectory) → Lies t p → v.relation p ≡ true → Lies u.tube p × IsKept u.answer.verdict
  pub decides : (p : Trajectory) → t ≡ single p → v.relation p ≡ false → IsEmpty u.answer.verdict
  pub calls : u.answer.calls ≤ v.ceiling
  pub placed : Placed v.height (length t) u.answer.verdict

-- The contractor keeps the meaning. That it is refused exactly by `refusal`, and otherwise answers by the tube alone, is how `outcome` is defined.
pub record Keeps (v : Value) : Type 0 where
  pub fair : (t : List Row) → Accepted v t → Fair v t (v.narrowed t)
  pub need : v.need ≤ most_cells + 1
  pub height : v.height ≤ most_layers + 1
  pub ceiling : v.ceiling ≤ most_calls + 1
