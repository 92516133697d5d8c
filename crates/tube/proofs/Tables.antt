-- The test of a table, row by row. Assumes nothing.
use Rattle.std.proofs.Common.{◌≡◌, ℕ, zero, suc, ◌+◌, ◌<◌, ◌≤◌, true, false, ◌&&◌, List, [], ◌∷◌, length, drop, set, ◌≤ℤ◌, sym, refl, ◌∙◌, le_of_suc-le-suc, not-suc-le-zero, arith}
use Rattle.std.proofs.lemmas.List.{at_drop_more, at_drop_all, length-set}
use Rattle.std.proofs.lemmas.Int.{ints}
use Rattle.std.proofs.lemmas.Bool.{and_parts, and_from}
use Rattle.std.proofs.lemmas.Bool.Decides.{nat_tests}
use Rattle.tube.specs.Tubes.{is_interval, all_intervals, most_cells, is_tube, Within, cell}
use Rattle.tube.specs.declared.row.Row.{Row}
use Rattle.tube.proofs.Ends.{spanned, spans_from}

-- the test as far as row i, which is the loop's invariant
abbrev pub Passed : List Row → ℕ → Type 0
Passed t i = all_intervals (drop i t) ≡ all_intervals t

module _ (t : List Row) (i : ℕ) (within : i < length t) (passed : Passed t i) where
  next : all_intervals (drop i t) ≡ (is_interval (cell t i) && all_intervals (drop (i + 1) t))
  next = at_drop_more all_intervals t i _ within

  pub passed_more : is_interval (cell t i) ≡ true → Passed t (i + 1)
  passed_more good = grind (arith, nat_tests, next)

  pub bad_row : is_interval (cell t i) ≡ false → is_tube t ≡ false
  bad_row bad = let all : all_intervals t ≡ false = grind (arith, nat_tests, next) in grind (arith, nat_tests)

pub passed_all : (t : List Row) (i : ℕ) → length t ≤ i → Passed t i → all_intervals t ≡ true
passed_all t i past passed = sym passed ∙ at_drop_all all_intervals t i past

pub tube_from : (t : List Row) → 1 ≤ length t → length t ≤ most_cells → all_intervals t ≡ true → is_tube t ≡ true
tube_from t some few all = grind (arith, nat_tests)

-- what a tube has
pub record Tube (t : List Row) : Type 0 where
  pub some : 1 ≤ length t
  pub few : length t ≤ most_cells
  pub each : all_intervals t ≡ true

pub tube : (t : List Row) → is_tube t ≡ true → Tube t
tube t h = record { some = grind (arith, nat_tests); few = grind (arith, nat_tests); each = grind (arith, nat_tests) }

pub interval_at : (t : List Row) (c : ℕ) → c < length t → all_intervals t ≡ true → is_interval (cell t c) ≡ true
interval_at [] c l h = absurd (not-suc-le-zero l)
interval_at (r ∷ rs) zero l h = (and_parts _ _ h).0
interval_at (r ∷ rs) (suc c) l h = interval_at rs c (le_of_suc-le-suc l) (and_parts (is_interval r) _ h).1

pub intervals_set : (t : List Row) (c : ℕ) (r : Row) → all_intervals t ≡ true → is_interval r ≡ true → all_intervals (set t c r) ≡ true
intervals_set [] c r h i = refl
intervals_set (x ∷ xs) zero r h i = and_from _ _ i (and_parts (is_interval x) _ h).1
intervals_set (x ∷ xs) (suc c) r h i = let k = and_parts (is_interval x) _ h in and_from _ _ k.0 (intervals_set xs c r k.1 i)

pub tube_set : (t : List Row) (c : ℕ) (r : Row) → is_tube t ≡ true → is_interval r ≡ true → is_tube (set t c r) ≡ true
tube_set t c r h i =
    let f = tube t h in
    let l = length-set t c r in
    tube_from (set t c r) (omega arith) (omega arith) (intervals_set t c r f.each i)

-- a row inside an interval, with its ends in order, is an interval
pub interval_within : (a b : Row) → Within a b → a.low ≤ℤ a.high → is_interval b ≡ true → is_interval a ≡ true
interval_within a b w o i =
    let s = spanned b.low b.high i in
    spans_from a.low a.high (record { floor = omega (arith, ints); ordered = o; roof = omega (arith, ints) })

pub ordered_at : (t : List Row) (c : ℕ) → is_tube t ≡ true → c < length t → (cell t c).low ≤ℤ (cell t c).high
ordered_at t c h l = (spanned (cell t c).low (cell t c).high (interval_at t c l (tube t h).each)).ordered
