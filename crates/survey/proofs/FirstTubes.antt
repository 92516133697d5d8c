-- The first tube of a survey, of which nothing is known: it is a tube, and holds whatever is within reach. Assumes nothing.
use Rattle.std.proofs.Common.{◌≡◌, ℕ, zero, suc, ◌-◌, ◌≤◌, true, List, [], ◌∷◌, length, take, replicate, refl, ap, ◌∙◌, arith}
use native.Mathlib.Nat.{sub-zero}
use Rattle.std.proofs.lemmas.List.{take-replicate, length-replicate}
use Rattle.std.specs.List.{AllByRecursion}
use Rattle.tube.proofs.Tables.{tube_from}
use Rattle.tube.specs.Tubes.{Trajectory, most_cells, all_intervals, is_tube, In, Lies}
use Rattle.tube.specs.declared.row.Row.{Row}
use Rattle.swimlog.proofs.Limits.{Limited}
use Rattle.swimlog.specs.Limits.{cells_of}
use Rattle.survey.specs.Surveys.{widest, first_tube}

module _ (gates records : ℕ) (small : Limited gates records) where
  pub few_cells : cells_of gates ≤ most_cells
  few_cells = omega arith

  pub some_cells : 1 ≤ cells_of gates
  some_cells = omega arith

-- the part of a table that is such a tube
pub first_part : (gates records n : ℕ) (table : List Row) → Limited gates records → n ≡ cells_of gates → table ≡ replicate most_cells widest → take (n - 0) table ≡ first_tube gates
first_part gates records n table small sized all =
    ap (λ t. take (n - 0) t) all ∙ ap (λ k. take k (replicate most_cells widest)) (sub-zero n ∙ sized) ∙ take-replicate (cells_of gates) most_cells widest (few_cells gates records small)

all_widest : (n : ℕ) → all_intervals (replicate n widest) ≡ true
all_widest zero = refl
all_widest (suc n) = all_widest n

pub first_is_tube : (gates records : ℕ) → Limited gates records → is_tube (first_tube gates) ≡ true
first_is_tube gates records small =
    let long = length-replicate (cells_of gates) widest in
    tube_from (first_tube gates) (omega (arith, some_cells gates records small)) (omega (arith, few_cells gates records small)) (all_widest (cells_of gates))

pub all_near : (p : Trajectory) → AllByRecursion (In widest) p → Lies (replicate (length p) widest) p
all_near [] h = tt
all_near (v ∷ vs) h = (h.0, all_near vs h.1)
