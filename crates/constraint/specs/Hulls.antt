-- Hulls of whole numbers, and squares of distances. Assumes nothing.
use Rattle.std.specs.Prelude.{◌≡◌, ℕ, zero, suc, ◌+◌, ◌-◌, ◌*◌, ◌<◌, ◌≤◌, Bool, cond, ◌&&◌, ℤ, pos, ◌+ℤ◌, ◌-ℤ◌, ◌*ℤ◌, ◌≤ℤ◌, Some, None, Decides, Option, int_le, nat_le, unsigned_abs}
use Rattle.std.specs.Int.{int_min, int_max}
use Rattle.tube.specs.Spans.{reach}
use Rattle.tube.specs.Tubes.{row, contains, hull}
use Rattle.tube.specs.declared.row.Row.{Row}

-- the first of n numbers of a sequence, from number k on, that passes the test
unfoldable pub first : (ℤ → Bool) → (ℕ → ℤ) → (k n : ℕ) → Option ℤ
first P at k zero = None
first P at k (suc n) = cond (P (at k)) (Some (at k)) (first P at (k + 1) n)

-- the numbers of a row, from its low end up and from its high end down
abbrev pub up_from : Row → ℕ → ℤ
up_from r k = r.low +ℤ pos k

abbrev pub down_from : Row → ℕ → ℤ
down_from r k = r.high -ℤ pos k

-- how many numbers a row has
abbrev pub count : Row → ℕ
count r = unsigned_abs (r.high -ℤ r.low) + 1

abbrev pub between : Option ℤ → Option ℤ → Option Row
between None b = None
between (Some l) None = None
between (Some l) (Some h) = Some (row l h)

-- The least interval that holds the numbers of a row that pass the test, found by looking through them. It is never run:
-- a row may have 2 to the power 30 numbers.
unfoldable pub hull_of : (ℤ → Bool) → Row → Option Row
unfolding first
hull_of P r = between (first P (up_from r) 0 (count r)) (first P (down_from r) 0 (count r))

abbrev pub square : ℤ → ℤ
square z = z *ℤ z

-- the greatest and the least square of a distance from b, over the numbers of a row
unfoldable pub greatest_square : Row → ℤ → ℤ
greatest_square r b = int_max (square (r.low -ℤ b)) (square (r.high -ℤ b))

unfoldable pub least_square : Row → ℤ → ℤ
least_square r b = cond (contains r b) (pos 0) (int_min (square (r.low -ℤ b)) (square (r.high -ℤ b)))

-- a distance from b whose square lies between two numbers
abbrev pub in_ring : (inner outer b : ℤ) → ℤ → Bool
in_ring inner outer b v = int_le inner (square (v -ℤ b)) && int_le (square (v -ℤ b)) outer

-- both ends of a row are at such a distance
abbrev pub are_ends_in_ring : (inner outer b : ℤ) → Row → Bool
are_ends_in_ring inner outer b r = in_ring inner outer b r.low && in_ring inner outer b r.high

-- the least interval that holds the numbers of a row at such a distance
unfoldable pub ring : (inner outer b : ℤ) → Row → Option Row
unfolding hull_of
ring inner outer b r = hull_of (in_ring inner outer b) r

-- the greatest distance whose square is at most `outer`, which is not negative
pub record Farthest (outer r : ℤ) : Type 0 where
  pub above : pos 0 ≤ℤ r
  pub below : r ≤ℤ pos (2 * reach)
  pub decides : (d : ℤ) → Decides (int_le (square d) outer) (pos (unsigned_abs d) ≤ℤ r)

-- the least distance whose square is at least `inner`
pub record Nearest (inner r : ℤ) : Type 0 where
  pub above : pos 0 ≤ℤ r
  pub below : r ≤ℤ pos (2 * reach)
  pub decides : (d : ℤ) → Decides (int_le inner (square d)) (r ≤ℤ pos (unsigned_abs d))

-- the whole root of n, rounded down
pub record Root (n r : ℕ) : Type 0 where
  pub below : r * r ≤ n
  pub above : n < (r + 1) * (r + 1)

-- the same as a test: what the square of r leaves of n is at most twice r
abbrev pub is_root : (n r : ℕ) → Bool
is_root n r = nat_le (r * r) n && nat_le (n - r * r) (2 * r)

-- the least row that holds what is left of either, if anything is
abbrev pub joined : Option Row → Option Row → Option Row
joined None o = o
joined (Some r) None = Some r
joined (Some r) (Some s) = Some (hull r s)

-- the greatest square of a difference of two coordinates, and of a distance
abbrev pub greatest : ℕ
greatest = 1152921504606846976

-- such a square, and what it is
pub record Squared (is_what r : ℤ) : Type 0 where
  pub is : r ≡ is_what
  pub above : pos 0 ≤ℤ r
  pub below : r ≤ℤ pos greatest
