-- The cells that a constraint mentions. Assumes nothing.
use Rattle.std.specs.Prelude.{ℕ, List, [], ◌∷◌}
use Rattle.constraint.specs.declared.bound.Bound.{Bound}
use Rattle.constraint.specs.declared.step.Step.{Step}
use Rattle.constraint.specs.declared.range.Range.{Range}
use Rattle.constraint.specs.declared.constraint.Constraint.{Constraint}
use Rattle.constraint.specs.declared.constraint.Constraint.TheVariants.{Bound as of_bound, Step as of_step, Range as of_range}

abbrev pub bound_cells : Bound → List ℕ
bound_cells k = k.cell ∷ []

abbrev pub step_cells : Step → List ℕ
step_cells k = k.from ∷ k.by ∷ k.to ∷ []

abbrev pub range_cells : Range → List ℕ
range_cells k = k.x ∷ k.y ∷ []

abbrev pub constraint_cells : Constraint → List ℕ
constraint_cells (of_bound k) = bound_cells k
constraint_cells (of_step k) = step_cells k
constraint_cells (of_range k) = range_cells k

-- one, two or three cells in three slots: the last stands again in each slot that is left
abbrev pub in_slots : List ℕ → List ℕ
in_slots [] = []
in_slots (a ∷ []) = a ∷ a ∷ a ∷ []
in_slots (a ∷ b ∷ []) = a ∷ b ∷ b ∷ []
in_slots (a ∷ b ∷ c ∷ cs) = a ∷ b ∷ c ∷ []

abbrev pub cell_slots : Constraint → List ℕ
cell_slots k = in_slots (constraint_cells k)
