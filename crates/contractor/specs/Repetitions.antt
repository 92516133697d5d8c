-- The repetition of a contractor: it is used in rounds until a round changes no cell, empties, or was the last. Assumes nothing.
use Rattle.std.specs.Prelude.{◌≡◌, ℕ, zero, suc, ◌+◌, ◌*◌, Bool, true, false, ◌&&◌, List, [], ◌∷◌, ℤ, Some, None, Option, int_le}
use Rattle.tube.specs.declared.row.Row.{Row}
use Rattle.contractor.specs.Answers.{kept, emptied}
use Rattle.contractor.specs.Contractors.{Value, Narrowed}
use Rattle.contractor.specs.Layers.{above, capped, passed_up, leaving}
use Rattle.contractor.specs.declared.answer.Answer.{Answer}
use Rattle.contractor.specs.declared.answer.Mark.TheVariants.{Stopped}
use Rattle.contractor.specs.declared.answer.Verdict.{Verdict}
use Rattle.contractor.specs.declared.answer.Verdict.TheVariants.{Kept, Empty}

abbrev pub repeat_digit : ℕ
repeat_digit = 4

abbrev pub equal : ℤ → ℤ → Bool
equal a b = int_le a b && int_le b a

abbrev pub same_row : Row → Row → Bool
same_row r s = equal r.low s.low && equal r.high s.high

abbrev pub same_rows : List Row → List Row → Bool
same_rows [] [] = true
same_rows [] (s ∷ ss) = false
same_rows (r ∷ rs) [] = false
same_rows (r ∷ rs) (s ∷ ss) = same_row r s && same_rows rs ss

-- How a round ends a repetition, by its verdict, the calls so far, and whether every cell is as it was before; or that it does not.
abbrev pub round_end : Verdict → ℕ → Bool → Option Answer
round_end (Kept mark) calls true = Some (kept mark calls)
round_end (Kept mark) calls false = None
round_end (Empty fault) calls same = Some (emptied (passed_up repeat_digit fault) calls)

-- what a round of a part does to the tube t after some calls: the tube left, the calls then, and how it ends
pub record Round (v : Value) (t : List Row) (calls : ℕ) (left : List Row) (spent : ℕ) (end : Option Answer) : Type 0 where
  pub narrowed : left ≡ (v.narrowed t).tube
  pub counted : spent ≡ calls + (v.narrowed t).answer.calls
  pub ended : end ≡ round_end (v.narrowed t).answer.verdict spent (same_rows t left)

-- that end, with the tube as the round left it, or what the rounds left over make of it
abbrev pub ended_or : Option Answer → List Row → Narrowed → Narrowed
ended_or (Some answer) t rest = leaving answer t
ended_or None t rest = rest

-- At most so many rounds, after the calls so far. None is left over only where the last of them changed a cell.
abbrev pub rounds : Value → (left : ℕ) → ℕ → List Row → Narrowed
rounds v zero calls t = leaving (kept Stopped calls) t
rounds v (suc left) calls t =
    let u : Narrowed = v.narrowed t in
    let spent : ℕ = calls + u.answer.calls in
    ended_or (round_end u.answer.verdict spent (same_rows t u.tube)) u.tube (rounds v left spent u.tube)

abbrev pub repeat : ℕ → Value → Value
repeat r v = record {
  relation = v.relation;
  need = v.need;
  height = above v.height;
  ceiling = capped (r * v.ceiling);
  narrowed = λ t. rounds v r 0 t;
}
