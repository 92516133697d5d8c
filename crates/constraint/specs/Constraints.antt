-- What each constraint is about, and to what it narrows. Assumes nothing.
use Rattle.std.specs.Prelude.{ℕ, ◌+◌, max, Bool, ◌&&◌, List, ℤ, ◌+ℤ◌, ◌-ℤ◌, Some, None, Option, int_le, slice_set}
use Rattle.std.specs.Option.{unwrap_or}
use Rattle.tube.specs.Tubes.{cell, value_at, cut}
use Rattle.tube.specs.declared.row.Row.{Row}
use Rattle.contractor.specs.Answers.{kept, emptied}
use Rattle.contractor.specs.Contractors.{Narrowed, Value}
use Rattle.contractor.specs.declared.answer.Mark.TheVariants.{Settled}
use Rattle.constraint.specs.Hulls.{square, greatest_square, least_square, are_ends_in_ring, ring}

-- the cause by which a fault tells the kind of its constraint
abbrev pub bound_cause : ℕ
bound_cause = 1

abbrev pub step_cause : ℕ
step_cause = 2

abbrev pub range_cause : ℕ
range_cause = 3

-- a constraint answers one call, and is settled, or empty with an empty path and the tube untouched
abbrev pub settled : List Row → Narrowed
settled t = record { answer = kept Settled 1; tube = t }

abbrev pub empty : (cause number c : ℕ) → List Row → Narrowed
empty cause number c t = record { answer = emptied (record { cause = cause; number = number; cell = c; path = 0 }) 1; tube = t }

-- a constraint as a value
abbrev pub simple : (List ℤ → Bool) → ℕ → (List Row → Narrowed) → Value
simple relation greatest_cell narrowed = record { relation = relation; need = greatest_cell + 1; height = 0; ceiling = 1; narrowed = narrowed }

abbrev pub equal : ℤ → ℤ → Bool
equal a b = int_le a b && int_le b a

-- a cell lies between two numbers
module _ (number c : ℕ) (low high : ℤ) where
  abbrev pub bounded : List Row → Narrowed
  bounded t = elim (cut (cell t c) low high) [ None ↦ empty bound_cause number c t | Some r ↦ settled (slice_set t c r) ]

  abbrev pub bound : Value
  bound = simple (λ p. int_le low (value_at p c) && int_le (value_at p c) high) c bounded

-- the rows of a step: one is the sum of the other two
pub record Sum : Type 0 where
  pub from : Row
  pub by : Row
  pub to : Row

-- a row cut with the sums, or with the differences, of the numbers of two others
abbrev pub cut_sum : (own a b : Row) → Option Row
cut_sum own a b = cut own (a.low +ℤ b.low) (a.high +ℤ b.high)

abbrev pub cut_difference : (own a b : Row) → Option Row
cut_difference own a b = cut own (a.low -ℤ b.high) (a.high -ℤ b.low)

-- a row lies between two numbers, so that they cut nothing off it
abbrev pub lies_between : Row → ℤ → ℤ → Bool
lies_between own low high = int_le low own.low && int_le own.high high

abbrev pub fits_sums : (own a b : Row) → Bool
fits_sums own a b = lies_between own (a.low +ℤ b.low) (a.high +ℤ b.high)

abbrev pub fits_differences : (own a b : Row) → Bool
fits_differences own a b = lies_between own (a.low -ℤ b.high) (a.high -ℤ b.low)

-- the sums and differences of three rows cut nothing off any of them
abbrev pub all_fit : (from by to : Row) → Bool
all_fit from by to = fits_sums to from by && (fits_differences from to by && fits_differences by to from)

-- each row is cut as the others came in; where the sum has a number left, so have the other two
abbrev pub summed : (from by to : Row) → Option Sum
summed from by to =
    elim (cut_sum to from by) [
      | None ↦ None
      | Some left ↦ Some (record { from = unwrap_or (cut_difference from to by) from; by = unwrap_or (cut_difference by to from) by; to = left })
    ]

-- cell `to` is cell `from` plus cell `by`
module _ (number from by to : ℕ) where
  abbrev pub stepped : List Row → Narrowed
  stepped t =
      elim (summed (cell t from) (cell t by) (cell t to)) [
        | None ↦ empty step_cause number to t
        | Some left ↦ settled (slice_set (slice_set (slice_set t to left.to) from left.from) by left.by)
      ]

  abbrev pub step : Value
  step = simple (λ p. equal (value_at p to) (value_at p from +ℤ value_at p by)) (max to (max from by)) stepped

-- one axis of a range is narrowed by what the other can add to the square of the distance
unfoldable pub axis_row : (nearest farthest : ℤ) (own other : Row) (own_beacon other_beacon : ℤ) → Option Row
axis_row nearest farthest own other own_beacon other_beacon = ring (square nearest -ℤ greatest_square other other_beacon) (square farthest -ℤ least_square other other_beacon) own_beacon own

-- the squares between which it is narrowed
unfoldable pub inner_limit : (nearest : ℤ) (other : Row) (other_beacon : ℤ) → ℤ
inner_limit nearest other other_beacon = square nearest -ℤ greatest_square other other_beacon

unfoldable pub outer_limit : (farthest : ℤ) (other : Row) (other_beacon : ℤ) → ℤ
outer_limit farthest other other_beacon = square farthest -ℤ least_square other other_beacon

-- both ends of the row lie between them, so that it is left whole
unfoldable pub axis_whole : (nearest farthest : ℤ) (own other : Row) (own_beacon other_beacon : ℤ) → Bool
unfolding inner_limit outer_limit
axis_whole nearest farthest own other own_beacon other_beacon = are_ends_in_ring (inner_limit nearest other other_beacon) (outer_limit farthest other other_beacon) own_beacon own

abbrev pub both_whole : (nearest farthest : ℤ) (x y : Row) (beacon_x beacon_y : ℤ) → Bool
both_whole nearest farthest x y beacon_x beacon_y = axis_whole nearest farthest x y beacon_x beacon_y && axis_whole nearest farthest y x beacon_y beacon_x

-- the distance of the point (x, y) from a beacon lies between two numbers
module _ (number x y : ℕ) (beacon_x beacon_y nearest farthest : ℤ) where
  abbrev pub x_row : List Row → Option Row
  x_row t = axis_row nearest farthest (cell t x) (cell t y) beacon_x beacon_y

  abbrev pub y_row : List Row → Option Row
  y_row t = axis_row nearest farthest (cell t y) (cell t x) beacon_y beacon_x

  abbrev pub ranged : List Row → Narrowed
  ranged t =
      elim (x_row t) [
        | None ↦ empty range_cause number x t
        | Some v ↦ elim (y_row t) [
          | None ↦ empty range_cause number y t
          | Some w ↦ settled (slice_set (slice_set t x v) y w)
        ]
      ]

  abbrev pub at_distance : List ℤ → Bool
  at_distance p = let d = square (value_at p x -ℤ beacon_x) +ℤ square (value_at p y -ℤ beacon_y) in int_le (square nearest) d && int_le d (square farthest)

  abbrev pub range : Value
  range = simple at_distance (max x y) ranged
