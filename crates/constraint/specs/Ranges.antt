-- A range keeps the meaning. Assumes nothing.
use Rattle.std.specs.Prelude.{◌≡◌, ℕ, ◌<◌, ◌≤◌, max, Bool, true, false, cond, ◌&&◌, List, length, ℤ, pos, ◌+ℤ◌, ◌-ℤ◌, ◌≤ℤ◌, Some, None, Option, int_le, slice_set}
use Rattle.std.proofs.Math.Path.{refl, ap}
use Rattle.std.proofs.Common.{sym, subst, ◌∙◌, ⊎_elim, arith}
use Rattle.std.specs.Int.{int_min}
use Rattle.std.proofs.lemmas.Int.{ints, clamps, by_lt_z}
use Rattle.std.proofs.lemmas.Bool.{and_parts, and_from, and_cases, both_ways, cond_both}
use Rattle.std.proofs.lemmas.Bool.Decides.{nat_tests}
use Rattle.tube.specs.Tubes.{Trajectory, row, is_tube, In, Within, Lies, single, cell, value_at}
use Rattle.tube.specs.declared.row.Row.{Row}
use Rattle.tube.proofs.Narrower.{narrower_same, narrower_set}
use Rattle.tube.proofs.Orders.{int_le_true, int_le_false, int_le_from}
use Rattle.tube.proofs.Tables.{ordered_at}
use Rattle.tube.proofs.Trajectories.{lies_at, lies_set}
use Rattle.contractor.specs.Contractors.{Fair, Keeps}
use Rattle.constraint.specs.Makings.{last_cell, is_cell}
use Rattle.constraint.specs.Hulls.{square, greatest_square, least_square, in_ring, ring}
use Rattle.constraint.specs.Constraints.{settled, empty, range_cause, inner_limit, outer_limit, axis_row, x_row, y_row, ranged, at_distance, range}
use Rattle.constraint.specs.Fairs.{fair_empty, fair_settled, simple_keeps}
use Rattle.constraint.specs.HullsLemmas.{Hull, HullOf, hull_of_is}
use Rattle.constraint.specs.Singles.{Only, only_at}
use Rattle.constraint.specs.Squares.{square_above, square_up, square_down}

-- ---- the greatest and the least square over a row

pub greatest_is : (r : Row) (b v : ℤ) → In r v → square (v -ℤ b) ≤ℤ greatest_square r b
unfolding greatest_square
greatest_is r b v i =
    let a = i.above in
    let c = i.below in
    by_lt_z v b
    (λ l. let s = square_down (v -ℤ b) (r.low -ℤ b) (omega (arith, ints)) (omega (arith, ints)) in omega (arith, ints, clamps))
    (λ l. let s = square_up (v -ℤ b) (r.high -ℤ b) (omega (arith, ints)) (omega (arith, ints)) in omega (arith, ints, clamps))

pub least_is : (r : Row) (b v : ℤ) → In r v → least_square r b ≤ℤ square (v -ℤ b)
unfolding least_square
least_is r b v i =
    let a = i.above in
    let c = i.below in
    cond_both (int_le r.low b && int_le b r.high) (pos 0) (int_min (square (r.low -ℤ b)) (square (r.high -ℤ b))) (λ z. z ≤ℤ square (v -ℤ b))
    (λ e. square_above (v -ℤ b))
    (λ e. ⊎_elim
    (λ over. let far = int_le_false r.low b over in let s = square_up (r.low -ℤ b) (v -ℤ b) (omega (arith, ints, far)) (omega (arith, ints)) in omega (arith, ints, clamps))
    (λ under. let far = int_le_false b r.high under in let s = square_down (r.high -ℤ b) (v -ℤ b) (omega (arith, ints, far)) (omega (arith, ints)) in omega (arith, ints, clamps))
    (and_cases (int_le r.low b) (int_le b r.high) e))

module _ (r : Row) (b v : ℤ) (o : Only r v) where
  is_row : r ≡ row v v
  is_row = ap (λ l. row l r.high) o.low ∙ ap (row v) o.high

  pub greatest_one : greatest_square r b ≡ square (v -ℤ b)
  unfolding greatest_square
  greatest_one = ap (λ q. greatest_square q b) is_row ∙ omega (arith, ints, clamps)

  least_at : (e : Bool) → (int_le v b && int_le b v) ≡ e → cond e (pos 0) (int_min (square (v -ℤ b)) (square (v -ℤ b))) ≡ square (v -ℤ b)
  least_at true e =
      let h = and_parts (int_le v b) (int_le b v) e in
      let k = int_le_true v b h.0 in
      let l = int_le_true b v h.1 in
      let z : v -ℤ b ≡ pos 0 = omega (arith, ints) in
      sym (ap square z)
  least_at false e = omega (arith, ints, clamps)

  pub least_one : least_square r b ≡ square (v -ℤ b)
  unfolding least_square
  least_one = ap (λ q. least_square q b) is_row ∙ least_at (int_le v b && int_le b v) refl

-- ---- one axis

-- the sum of two squares lies between those of the two distances
pub record Distant (nearest farthest s : ℤ) : Type 0 where
  pub above : square nearest ≤ℤ s
  pub below : s ≤ℤ square farthest

module _ (nearest farthest b c : ℤ) (other : Row) where
  abbrev pub Passes : ℤ → Bool
  Passes = in_ring (square nearest -ℤ greatest_square other c) (square farthest -ℤ least_square other c) b

  -- a number passes where some number of the other axis makes the distance right
  pub axis_passes : (v w : ℤ) → In other w → Distant nearest farthest (square (v -ℤ b) +ℤ square (w -ℤ c)) → Passes v ≡ true
  axis_passes v w i d =
      let g = greatest_is other c w i in
      let l = least_is other c w i in
      let a = d.above in
      let e = d.below in
      and_from _ _
      (int_le_from (square nearest -ℤ greatest_square other c) (square (v -ℤ b)) (omega (arith, ints)))
      (int_le_from (square (v -ℤ b)) (square farthest -ℤ least_square other c) (omega (arith, ints)))

  -- and only there, where the other axis has one number
  pub axis_only : (v w : ℤ) → Only other w → Passes v ≡ true → Distant nearest farthest (square (v -ℤ b) +ℤ square (w -ℤ c))
  axis_only v w o e =
      let h = and_parts (int_le (square nearest -ℤ greatest_square other c) (square (v -ℤ b))) _ e in
      let a = int_le_true (square nearest -ℤ greatest_square other c) (square (v -ℤ b)) h.0 in
      let d = int_le_true (square (v -ℤ b)) (square farthest -ℤ least_square other c) h.1 in
      let g = greatest_one other c w o in
      let l = least_one other c w o in
      record { above = omega (arith, ints); below = omega (arith, ints) }

  pub axis_hull : (own : Row) → own.low ≤ℤ own.high → HullOf Passes own (axis_row nearest farthest own other b c)
  unfolding ring inner_limit outer_limit axis_row
  axis_hull own o = hull_of_is Passes own o

-- a hull lies in its row, with its ends in order
module _ (P : ℤ → Bool) (r s : Row) (h : Hull P r s) where
  pub hull_within : Within s r
  hull_within = record { low = h.low_in.above; high = h.high_in.below }

  pub hull_ordered : s.low ≤ℤ s.high
  hull_ordered = (h.holds s.low h.low_in h.low_passes).below

  -- and where the row has one number, that number passes
  pub hull_one : (v : ℤ) → Only r v → P v ≡ true
  hull_one v o =
      let i = h.low_in in
      let same : s.low ≡ v = omega (arith, ints, i.above, i.below) in
      subst (λ w. P w ≡ true) same h.low_passes

-- ---- the range

module _ (number x y : ℕ) (bx by nearest farthest : ℤ) where
  abbrev right_distance : Trajectory → Bool
  right_distance = at_distance number x y bx by nearest farthest

  abbrev sum_of : Trajectory → ℤ
  sum_of p = square (value_at p x -ℤ bx) +ℤ square (value_at p y -ℤ by)

  distant : (p : Trajectory) → right_distance p ≡ true → Distant nearest farthest (sum_of p)
  distant p e = let h = and_parts (int_le (square nearest) (sum_of p)) _ e in record { above = int_le_true _ _ h.0; below = int_le_true _ _ h.1 }

  module _ (t : List Row) (h : is_tube t ≡ true) (x_in : x < length t) (y_in : y < length t) where
    abbrev X : ℤ → Bool
    X = Passes nearest farthest bx by (cell t y)

    abbrev Y : ℤ → Bool
    Y = Passes nearest farthest by bx (cell t x)

    x_passes : (p : Trajectory) → Lies t p → right_distance p ≡ true → X (value_at p x) ≡ true
    x_passes p l e = axis_passes nearest farthest bx by (cell t y) (value_at p x) (value_at p y) (lies_at t p y y_in l) (distant p e)

    y_passes : (p : Trajectory) → Lies t p → right_distance p ≡ true → Y (value_at p y) ≡ true
    y_passes p l e =
        let d = distant p e in
        let a = d.above in
        let b = d.below in
        axis_passes nearest farthest by bx (cell t x) (value_at p y) (value_at p x) (lies_at t p x x_in l) (record { above = omega (arith, ints); below = omega (arith, ints) })

    obeys : (s : Row) → Hull X (cell t x) s → (p : Trajectory) → t ≡ single p → right_distance p ≡ true
    obeys s k p e =
        let d = axis_only nearest farthest bx by (cell t y) (value_at p x) (value_at p y) (only_at t p y e) (hull_one X (cell t x) s k (value_at p x) (only_at t p x e)) in
        and_from _ _ (int_le_from (square nearest) (sum_of p) d.above) (int_le_from (sum_of p) (square farthest) d.below)

    by_hulls : (o q : Option Row) → HullOf X (cell t x) o → HullOf Y (cell t y) q → Fair (range number x y bx by nearest farthest) t (elim o [ None ↦ empty range_cause number x t | Some v ↦ elim q [ None ↦ empty range_cause number y t | Some w ↦ settled (slice_set (slice_set t x v) y w) ] ])
    by_hulls None q k m = fair_empty right_distance (max x y) (ranged number x y bx by nearest farthest) t range_cause number x h x_in (λ p l e. both_ways _ (k (value_at p x) (lies_at t p x x_in l)) (x_passes p l e))
    by_hulls (Some v) None k m = fair_empty right_distance (max x y) (ranged number x y bx by nearest farthest) t range_cause number y h y_in (λ p l e. both_ways _ (m (value_at p y) (lies_at t p y y_in l)) (y_passes p l e))
    by_hulls (Some v) (Some w) k m =
        fair_settled right_distance (max x y) (ranged number x y bx by nearest farthest) t (slice_set (slice_set t x v) y w)
        (narrower_set t h (slice_set t x v) y w y_in
        (narrower_set t h t x v x_in (narrower_same t h) (hull_within X (cell t x) v k) (hull_ordered X (cell t x) v k)) (hull_within Y (cell t y) w m) (hull_ordered Y (cell t y) w m))
        (λ p l e. lies_set (slice_set t x v) p y w (lies_set t p x v l (k.holds (value_at p x) (lies_at t p x x_in l) (x_passes p l e))) (m.holds (value_at p y) (lies_at t p y y_in l) (y_passes p l e)))
        (obeys v k)

    pub range_fair : Fair (range number x y bx by nearest farthest) t (ranged number x y bx by nearest farthest t)
    range_fair =
        by_hulls (x_row number x y bx by nearest farthest t) (y_row number x y bx by nearest farthest t)
        (axis_hull nearest farthest bx by (cell t y) (cell t x) (ordered_at t x h x_in))
        (axis_hull nearest farthest by bx (cell t x) (cell t y) (ordered_at t y h y_in))

  pub range_keeps : is_cell x ≡ true → is_cell y ≡ true → Keeps (range number x y bx by nearest farthest)
  range_keeps small_x small_y =
      let small : max x y ≤ last_cell = grind (arith, nat_tests) in
      simple_keeps right_distance (max x y) (ranged number x y bx by nearest farthest) small (λ t h l. range_fair t h (omega arith) (omega arith))
