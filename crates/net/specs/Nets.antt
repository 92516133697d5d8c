-- A net: records that wait in a queue to be used again. Assumes nothing.
use Rattle.std.specs.Prelude.{◌≡◌, ℕ, zero, suc, ◌+◌, ◌*◌, ◌≤◌, max, Bool, true, false, cond, not, ◌&&◌, ◌||◌, List, [], ◌∷◌, ◌++◌, map, length, Option, ◌==◌}
use Rattle.std.specs.Bool.{then_some}
use Rattle.std.specs.List.{AllByRecursion}
use Rattle.tube.specs.Tubes.{Trajectory, cell}
use Rattle.tube.specs.declared.row.Row.{Row}
use Rattle.contractor.specs.Answers.{kept, emptied}
use Rattle.contractor.specs.Contractors.{Narrowed, Value, Keeps}
use Rattle.contractor.specs.Counts.{most_rounds}
use Rattle.contractor.specs.Layers.{passed_up, leaving}
use Rattle.contractor.specs.Repetitions.{same_row}
use Rattle.contractor.specs.declared.answer.Fault.{Fault}
use Rattle.contractor.specs.declared.answer.Mark.{Mark}
use Rattle.contractor.specs.declared.answer.Mark.TheVariants.{Settled, Stopped}
use Rattle.contractor.specs.declared.answer.Verdict.TheVariants.{Kept, Empty}

-- what a net knows of a record: its value as a contractor, and the cells that it mentions
pub record Part : Type 0 where
  pub value : Value
  pub cells : List ℕ

-- what each record mentions, in list order
abbrev pub mentions : List Part → List (List ℕ)
mentions = map (λ k. k.cells)

-- the relation of a net: what all its records share
abbrev pub all_obeyed : List Part → Trajectory → Bool
all_obeyed [] p = true
all_obeyed (k ∷ ks) p = k.value.relation p && all_obeyed ks p

abbrev pub greatest_need : List Part → ℕ
greatest_need [] = 0
greatest_need (k ∷ ks) = max k.value.need (greatest_need ks)

-- a cell is not as it was
abbrev pub narrower : List Row → List Row → ℕ → Bool
narrower t u c = not (same_row (cell t c) (cell u c))

-- a cell, if its rows before and after are not the same
abbrev pub if_other : ℕ → Row → Row → Option ℕ
if_other c before after = then_some (not (same_row before after)) c

-- which is to say, if it is not as it was
abbrev pub if_narrower : List Row → List Row → ℕ → Option ℕ
if_narrower t u c = if_other c (cell t c) (cell u c)

-- one of the cells passes a test
abbrev pub some_cell : (ℕ → Bool) → List ℕ → Bool
some_cell test [] = false
some_cell test (c ∷ cs) = test c || some_cell test cs

-- a number is one of a list
abbrev pub among : ℕ → List ℕ → Bool
among n [] = false
among n (m ∷ ms) = n == m || among n ms

-- the record at position i waits in the queue q
abbrev pub waits : ℕ → List ℕ → Bool
waits i q = among i q

-- Who joins the end of the queue q, in list order from position i on: those that mention a cell that passes the test, and do not wait.
abbrev pub joining : List (List ℕ) → ℕ → List ℕ → (ℕ → Bool) → List ℕ
joining [] i q test = []
joining (cs ∷ css) i q test =
    let later = joining css (i + 1) q test in
    cond (some_cell test cs && not (waits i q)) (i ∷ later) later

-- so many positions in order, from one on
abbrev pub positions : (from count : ℕ) → List ℕ
positions from zero = []
positions from (suc count) = from ∷ positions (from + 1) count

-- settled where none waits
abbrev pub rest_mark : List ℕ → Mark
rest_mark [] = Settled
rest_mark (i ∷ q) = Stopped

abbrev pub kept_as : Mark → ℕ → List Row → Narrowed
kept_as mark calls t = leaving (kept mark calls) t

-- the digit that a net appends to the path of a fault
abbrev pub net_digit : ℕ
net_digit = 5

abbrev pub empty_at : ℕ → Fault → ℕ → List Row → Narrowed
empty_at d f calls t = leaving (emptied (passed_up d f) calls) t

-- the use of the record at a position; there is always one, and the last line is never used
abbrev pub at_position : List Part → ℕ → List Row → Narrowed
at_position (k ∷ ks) zero t = k.value.narrowed t
at_position (k ∷ ks) (suc i) t = at_position ks i t
at_position [] i t = kept_as Settled 0 t

-- At most `left` uses more, of those that wait. The first is taken off and used, and then those join that have to be used again, the used one among them.
abbrev pub spun : List Part → (left : ℕ) → List ℕ → List Row → ℕ → Narrowed
spun ks zero q t calls = kept_as (rest_mark q) calls t
spun ks (suc left) [] t calls = kept_as Settled calls t
spun ks (suc left) (i ∷ q) t calls =
    let u = at_position ks i t in
    elim u.answer.verdict [
      | Kept m ↦ spun ks left (q ++ joining (mentions ks) 0 q (narrower t u.tube)) u.tube (calls + 1)
      | Empty f ↦ empty_at net_digit f (calls + 1) u.tube
    ]

-- A net of records, each used at most `rounds` times on the average.
abbrev pub net : List Part → (rounds : ℕ) → Value
net ks rounds = record {
  relation = all_obeyed ks;
  need = greatest_need ks;
  height = 1;
  ceiling = length ks * rounds;
  narrowed = λ t. spun ks (length ks * rounds) (positions 0 (length ks)) t 0;
}

-- the most records that a net holds
abbrev pub most_records : ℕ
most_records = 512

-- What is asked of a record: it keeps the meaning of a contractor, has no layers, and a use of it is one call.
pub record Recorded (k : Part) : Type 0 where
  pub keeps : Keeps k.value
  pub height : k.value.height ≡ 0
  pub calls : k.value.ceiling ≡ 1

-- A net of any such records keeps the meaning of a contractor.
abbrev pub NetsKeep : Type 0
NetsKeep = (ks : List Part) (rounds : ℕ) → AllByRecursion Recorded ks → length ks ≤ most_records → 1 ≤ rounds → rounds ≤ most_rounds → Keeps (net ks rounds)
