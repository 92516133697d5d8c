-- The union of two contractors: each is used on the tube as it came in, and each cell becomes the hull of what is kept. Assumes nothing.
use Rattle.std.specs.Prelude.{ℕ, ◌+◌, ◌||◌, List, [], ◌∷◌}
use Rattle.tube.specs.Tubes.{hull}
use Rattle.tube.specs.declared.row.Row.{Row}
use Rattle.contractor.specs.Answers.{kept, emptied}
use Rattle.contractor.specs.Contractors.{Value, Narrowed}
use Rattle.contractor.specs.Layers.{passed_up, either_stopped, leaving, over_two}
use Rattle.contractor.specs.declared.answer.Fault.{Fault}
use Rattle.contractor.specs.declared.answer.Verdict.{Verdict}
use Rattle.contractor.specs.declared.answer.Verdict.TheVariants.{Kept, Empty}

abbrev pub either_digit : ℕ
either_digit = 3

-- which side's fault is passed up where both sides are empty
abbrev pub named_fault : Fault → Fault → Fault
named_fault first second = first

abbrev pub hulls : List Row → List Row → List Row
hulls [] ss = []
hulls (r ∷ rs) [] = []
hulls (r ∷ rs) (s ∷ ss) = hull r s ∷ hulls rs ss

-- what comes of the two verdicts after the calls of both, from the tube as it came in and the tubes that the sides left
abbrev pub united_by : Verdict → Verdict → ℕ → (before first second : List Row) → Narrowed
united_by (Kept mark) (Kept other) calls before first second = leaving (kept (either_stopped mark other) calls) (hulls first second)
united_by (Kept mark) (Empty fault) calls before first second = leaving (kept mark calls) first
united_by (Empty fault) (Kept mark) calls before first second = leaving (kept mark calls) second
united_by (Empty fault) (Empty other) calls before first second = leaving (emptied (passed_up either_digit (named_fault fault other)) calls) before

abbrev pub united : List Row → Narrowed → Narrowed → Narrowed
united t u w = united_by u.answer.verdict w.answer.verdict (u.answer.calls + w.answer.calls) t u.tube w.tube

abbrev pub either : Value → Value → Value
either v w = over_two v w (λ p. v.relation p || w.relation p) (λ t. united t (v.narrowed t) (w.narrowed t))
