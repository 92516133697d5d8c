-- When a constraint can be made, and why not. Assumes nothing.
use Rattle.std.specs.Prelude.{ℕ, ◌*◌, Bool, cond, not, ◌&&◌, ℤ, pos, neg_ℤ, Some, None, Option, ◌==◌, int_le, nat_le}
use Rattle.tube.specs.Spans.{reach, spans}
use Rattle.tube.specs.declared.fault.MakingFault.{MakingFault}
use Rattle.tube.specs.declared.fault.MakingFault.TheVariants.{CellBeyondTube, EqualCells, BadValue}

-- the last cell that a tube can have
abbrev pub last_cell : ℕ
last_cell = 511

abbrev pub is_cell : ℕ → Bool
is_cell c = nat_le c last_cell

abbrev pub bound_fault : (cell : ℕ) (low high : ℤ) → Option MakingFault
bound_fault cell low high = cond (not (is_cell cell)) (Some CellBeyondTube) (cond (not (spans low high)) (Some BadValue) None)

abbrev pub are_cells : (from by to : ℕ) → Bool
are_cells from by to = is_cell from && (is_cell by && is_cell to)

abbrev pub are_apart : (from by to : ℕ) → Bool
are_apart from by to = not (from == by) && (not (from == to) && not (by == to))

abbrev pub are_step_cells : (from by to : ℕ) → Bool
are_step_cells from by to = are_cells from by to && are_apart from by to

abbrev pub step_fault : (from by to : ℕ) → Option MakingFault
step_fault from by to = cond (not (are_cells from by to)) (Some CellBeyondTube) (cond (not (are_apart from by to)) (Some EqualCells) None)

-- a coordinate of a beacon
abbrev pub is_coordinate : ℤ → Bool
is_coordinate b = int_le (neg_ℤ (pos reach)) b && int_le b (pos reach)

-- the ends of a measured distance: from 0 to twice the farthest coordinate, in order
abbrev pub are_distances : ℤ → ℤ → Bool
are_distances nearest farthest = int_le (pos 0) nearest && (int_le nearest farthest && int_le farthest (pos (2 * reach)))

abbrev pub are_range_values : (beacon_x beacon_y nearest farthest : ℤ) → Bool
are_range_values beacon_x beacon_y nearest farthest = is_coordinate beacon_x && (is_coordinate beacon_y && are_distances nearest farthest)

abbrev pub is_range : (x y : ℕ) (beacon_x beacon_y nearest farthest : ℤ) → Bool
is_range x y beacon_x beacon_y nearest farthest = (is_cell x && is_cell y) && (not (x == y) && are_range_values beacon_x beacon_y nearest farthest)

abbrev pub range_fault : (x y : ℕ) (beacon_x beacon_y nearest farthest : ℤ) → Option MakingFault
range_fault x y beacon_x beacon_y nearest farthest =
    cond (not (is_cell x && is_cell y)) (Some CellBeyondTube)
    (cond (x == y) (Some EqualCells)
    (cond (not (are_range_values beacon_x beacon_y nearest farthest)) (Some BadValue) None))
