-- When one cell can be held at most another, and what that narrows. Assumes nothing.
use Rattle.std.specs.Prelude.{ℕ, max, Bool, cond, not, ◌&&◌, List, ℤ, pos, neg_ℤ, Some, None, Option, ◌==◌, int_le, slice_set}
use Rattle.tube.specs.Spans.{reach}
use Rattle.tube.specs.Tubes.{cell, value_at, cut}
use Rattle.tube.specs.declared.fault.MakingFault.{MakingFault}
use Rattle.tube.specs.declared.fault.MakingFault.TheVariants.{CellBeyondTube, EqualCells}
use Rattle.tube.specs.declared.row.Row.{Row}
use Rattle.contractor.specs.Contractors.{Narrowed, Value}
use Rattle.constraint.specs.Constraints.{simple, settled, empty}
use Rattle.constraint.specs.Makings.{is_cell}

abbrev pub are_order_cells : (behind ahead : ℕ) → Bool
are_order_cells behind ahead = (is_cell behind && is_cell ahead) && not (behind == ahead)

abbrev pub order_fault : (behind ahead : ℕ) → Option MakingFault
order_fault behind ahead = cond (not (is_cell behind && is_cell ahead)) (Some CellBeyondTube) (cond (behind == ahead) (Some EqualCells) None)

-- a cause that no constraint of the library has
abbrev pub order_cause : ℕ
order_cause = 200

-- what is left behind, and what is left ahead, each worked out from the cells as they came in
abbrev pub behind_row : (behind ahead : Row) → Option Row
behind_row behind ahead = cut behind (neg_ℤ (pos reach)) ahead.high

abbrev pub ahead_row : (behind ahead : Row) → Option Row
ahead_row behind ahead = cut ahead behind.low (pos reach)

module _ (number behind ahead : ℕ) where
  abbrev pub kept_in_order : List ℤ → Bool
  kept_in_order p = int_le (value_at p behind) (value_at p ahead)

  abbrev pub ordered : List Row → Narrowed
  ordered t =
      elim (behind_row (cell t behind) (cell t ahead)) [
        | None ↦ empty order_cause number behind t
        | Some b ↦ elim (ahead_row (cell t behind) (cell t ahead)) [
          | None ↦ empty order_cause number ahead t
          | Some a ↦ settled (slice_set (slice_set t behind b) ahead a)
        ]
      ]

  abbrev pub at_most : Value
  at_most = simple kept_in_order (max behind ahead) ordered
