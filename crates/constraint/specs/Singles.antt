-- The cells of a tube that holds one trajectory. Assumes nothing.
use Rattle.std.specs.Prelude.{◌≡◌, ℕ, List, ℤ}
use Rattle.std.proofs.Common.{ap, ◌∙◌}
use Rattle.tube.specs.Tubes.{Trajectory, single, cell, value_at}
use Rattle.tube.specs.declared.row.Row.{Row}
use Rattle.tube.proofs.Trajectories.{single_at}

-- a row that holds one number
pub record Only (r : Row) (v : ℤ) : Type 0 where
  pub low : r.low ≡ v
  pub high : r.high ≡ v

pub only_at : (t : List Row) (p : Trajectory) (c : ℕ) → t ≡ single p → Only (cell t c) (value_at p c)
only_at t p c e =
    let here = ap (λ u. cell u c) e ∙ single_at p c in
    record { low = ap (λ r. r.low) here; high = ap (λ r. r.high) here }
