-- Trajectories, and the tubes that hold them. Assumes nothing.
use Rattle.std.specs.Prelude.{ℕ, Bool, true, cond, ◌&&◌, List, [], ◌∷◌, map, length, ℤ, pos, ◌≤ℤ◌, Some, None, Option, int_le, nat_le, slice_index_or}
use Rattle.std.specs.Int.{int_min, int_max}
use Rattle.std.specs.List.{AllZip}
use Rattle.tube.specs.Spans.{spans}
use Rattle.tube.specs.declared.row.Row.{Row}

-- a list of whole numbers, one for each cell
abbrev pub Trajectory : Type 0
Trajectory = List ℤ

abbrev pub row : ℤ → ℤ → Row
row low high = record { low = low; high = high }

abbrev pub is_interval : Row → Bool
is_interval r = spans r.low r.high

abbrev pub all_intervals : List Row → Bool
all_intervals [] = true
all_intervals (r ∷ rs) = is_interval r && all_intervals rs

-- the most cells that a tube has
abbrev pub most_cells : ℕ
most_cells = 512

-- a table that is a tube: 1 to 512 rows, each an interval
abbrev pub is_tube : List Row → Bool
is_tube t = nat_le 1 (length t) && (nat_le (length t) most_cells && all_intervals t)

-- a number lies in a row
pub record In (r : Row) (v : ℤ) : Type 0 where
  pub above : r.low ≤ℤ v
  pub below : v ≤ℤ r.high

-- the same as a test
abbrev pub contains : Row → ℤ → Bool
contains r v = int_le r.low v && int_le v r.high

-- a trajectory lies in a tube: as many numbers as cells, each in its cell
abbrev pub Lies : List Row → Trajectory → Type 0
Lies [] [] = Unit {0}
Lies [] (v ∷ vs) = ⊥
Lies (r ∷ rs) [] = ⊥
Lies (r ∷ rs) (v ∷ vs) = In r v × Lies rs vs

pub record Within (inner outer : Row) : Type 0 where
  pub low : outer.low ≤ℤ inner.low
  pub high : inner.high ≤ℤ outer.high

-- each cell of the first tube lies inside the same cell of the second
abbrev pub Inside : List Row → List Row → Type 0
Inside = AllZip Within

-- the tube that holds one trajectory
abbrev pub single : Trajectory → List Row
single = map (λ v. row v v)

-- a cell of a table, and a number of a trajectory, with a default that is never read inside
abbrev pub nowhere : Row
nowhere = row (pos 0) (pos 0)

abbrev pub cell : List Row → ℕ → Row
cell t c = slice_index_or t c nowhere

abbrev pub value_at : Trajectory → ℕ → ℤ
value_at p c = slice_index_or p c (pos 0)

-- the row from one number to another, where that is not empty
abbrev pub from_to : ℤ → ℤ → Option Row
from_to low high = cond (int_le low high) (Some (row low high)) None

-- what a row shares with the numbers from low to high
unfoldable pub cut : Row → ℤ → ℤ → Option Row
cut r low high = from_to (int_max r.low low) (int_min r.high high)

-- the least row that holds two
abbrev pub hull : Row → Row → Row
hull r s = row (int_min r.low s.low) (int_max r.high s.high)
