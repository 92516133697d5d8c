-- What the type of a range says of its numbers. Assumes nothing.
use Rattle.std.specs.Prelude.{◌≡◌, ℕ, ◌*◌, true, ℤ, pos, ◌≤ℤ◌, int_le}
use Rattle.std.proofs.lemmas.Bool.{and_parts}
use Rattle.tube.specs.Spans.{reach}
use Rattle.tube.proofs.Orders.{int_le_true}
use Rattle.constraint.specs.Makings.{is_cell, is_coordinate, are_distances, is_range}

pub record Distances (nearest farthest : ℤ) : Type 0 where
  pub above : pos 0 ≤ℤ nearest
  pub ordered : nearest ≤ℤ farthest
  pub below : farthest ≤ℤ pos (2 * reach)

pub distances : (nearest farthest : ℤ) → are_distances nearest farthest ≡ true → Distances nearest farthest
distances nearest farthest e =
    let n = and_parts (int_le (pos 0) nearest) _ e in
    let f = and_parts (int_le nearest farthest) _ n.1 in
    record { above = int_le_true _ _ n.0; ordered = int_le_true _ _ f.0; below = int_le_true _ _ f.1 }

pub record Ranged (x y : ℕ) (bx by nearest farthest : ℤ) : Type 0 where
  pub x_cell : is_cell x ≡ true
  pub y_cell : is_cell y ≡ true
  pub beacon_x : is_coordinate bx ≡ true
  pub beacon_y : is_coordinate by ≡ true
  pub far : are_distances nearest farthest ≡ true

pub ranged_from : (x y : ℕ) (bx by nearest farthest : ℤ) → is_range x y bx by nearest farthest ≡ true → Ranged x y bx by nearest farthest
ranged_from x y bx by nearest farthest e =
    let h = and_parts _ _ e in
    let cells = and_parts (is_cell x) _ h.0 in
    let rest = and_parts _ _ h.1 in
    let b = and_parts (is_coordinate bx) _ rest.1 in
    let c = and_parts (is_coordinate by) _ b.1 in
    record { x_cell = cells.0; y_cell = cells.1; beacon_x = b.0; beacon_y = c.0; far = c.1 }
