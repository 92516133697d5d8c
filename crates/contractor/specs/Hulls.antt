-- The hull of two tubes, cell by cell. Assumes nothing.
use Rattle.std.specs.Prelude.{◌≡◌, ℕ, ◌+◌, ◌<◌, ◌≤◌, true, List, [], ◌∷◌, ◌++◌, length, take, drop, slice_set, refl}
use Rattle.std.proofs.Common.{arith}
use Rattle.std.proofs.lemmas.List.{append_assoc, append-nil, length-set, take_all, take_more_set, drop_all, drop_more, drop-set-lt}
use Rattle.std.proofs.lemmas.Int.{ints, clamps}
use Rattle.std.proofs.lemmas.Bool.{and_parts, and_from}
use Rattle.tube.specs.Tubes.{nowhere, cell, is_interval, all_intervals, is_tube, Within, Inside, hull}
use Rattle.tube.specs.declared.row.Row.{Row}
use Rattle.tube.proofs.Ends.{spanned, spans_from}
use Rattle.tube.proofs.Insides.{inside_length}
use Rattle.tube.proofs.Tables.{tube, tube_from}
use Rattle.contractor.specs.Unions.{hulls}

within_hull : (r s outer : Row) → Within r outer → Within s outer → Within (hull r s) outer
within_hull r s outer h k = record { low = omega (arith, ints, clamps, h.low, k.low); high = omega (arith, ints, clamps, h.high, k.high) }

pub inside_hulls : (a b t : List Row) → Inside a t → Inside b t → Inside (hulls a b) t
inside_hulls [] b [] h k = tt
inside_hulls [] b (z ∷ zs) h k = absurd h
inside_hulls (x ∷ xs) b [] h k = absurd h
inside_hulls (x ∷ xs) [] (z ∷ zs) h k = absurd k
inside_hulls (x ∷ xs) (y ∷ ys) (z ∷ zs) h k = (within_hull x y z h.0 k.0, inside_hulls xs ys zs h.1 k.1)

hull_first : (r s : Row) → Within r (hull r s)
hull_first r s = record { low = omega (arith, ints, clamps); high = omega (arith, ints, clamps) }

hull_second : (r s : Row) → Within s (hull r s)
hull_second r s = record { low = omega (arith, ints, clamps); high = omega (arith, ints, clamps) }

-- each side lies inside the hulls
pub first_inside : (a b : List Row) → length a ≡ length b → Inside a (hulls a b)
first_inside [] b h = tt
first_inside (x ∷ xs) [] h = absurd (omega arith)
first_inside (x ∷ xs) (y ∷ ys) h = (hull_first x y, first_inside xs ys (omega arith))

pub second_inside : (a b : List Row) → length a ≡ length b → Inside b (hulls a b)
second_inside [] [] h = tt
second_inside [] (y ∷ ys) h = absurd (omega arith)
second_inside (x ∷ xs) [] h = absurd (omega arith)
second_inside (x ∷ xs) (y ∷ ys) h = (hull_second x y, second_inside xs ys (omega arith))

hull_interval : (r s : Row) → is_interval r ≡ true → is_interval s ≡ true → is_interval (hull r s) ≡ true
hull_interval r s h k =
    let a = spanned r.low r.high h in
    let b = spanned s.low s.high k in
    spans_from (hull r s).low (hull r s).high (record { floor = omega (arith, ints, clamps); ordered = omega (arith, ints, clamps); roof = omega (arith, ints, clamps) })

hulls_intervals : (a b : List Row) → all_intervals a ≡ true → all_intervals b ≡ true → all_intervals (hulls a b) ≡ true
hulls_intervals [] b h k = refl
hulls_intervals (x ∷ xs) [] h k = refl
hulls_intervals (x ∷ xs) (y ∷ ys) h k =
    let a = and_parts (is_interval x) _ h in
    let b = and_parts (is_interval y) _ k in
    and_from _ _ (hull_interval x y a.0 b.0) (hulls_intervals xs ys a.1 b.1)

pub hulls_tube : (a b : List Row) → length a ≡ length b → is_tube a ≡ true → is_tube b ≡ true → is_tube (hulls a b) ≡ true
hulls_tube a b same h k =
    let f = tube a h in
    let l = inside_length a (hulls a b) (first_inside a b same) in
    tube_from (hulls a b) (omega arith) (omega arith) (hulls_intervals a b f.each (tube b k).each)

-- The rows below i are hulls already, and those from i on are as they were: the invariant of the loop that takes the hulls.
pub record Widened (other before table : List Row) (i : ℕ) : Type 0 where
  pub long : length other ≡ length table
  pub so_far : take i table ++ hulls (drop i other) (drop i table) ≡ hulls other before

pub widened_none : (other before : List Row) → length other ≡ length before → Widened other before before 0
widened_none other before same = record { long = same; so_far = refl }

pub widened_more : (other before table : List Row) (i : ℕ) (x : Row) → i < length other → x ≡ hull (cell other i) (cell table i) → Widened other before table i → Widened other before (slice_set table i x) (i + 1)
widened_more other before table i x within is w =
    let same = w.long in
    let here : i < length table = omega arith in
    let front = take_more_set table i x here in
    let back = drop-set-lt (i + 1) table i x (omega arith) in
    let first = drop_more other i nowhere within in
    let second = drop_more table i nowhere here in
    let joined = append_assoc (take i table) (x ∷ []) (hulls (drop (i + 1) other) (drop (i + 1) table)) in
    let so_far = w.so_far in
    record { long = rw length-set same; so_far = cc }

pub widened_all : (other before table : List Row) (i : ℕ) → length other ≤ i → Widened other before table i → table ≡ hulls other before
widened_all other before table i past w =
    let same = w.long in
    let front = take_all i table (omega arith) in
    let back = drop_all i other past in
    let joined = append-nil table in
    let so_far = w.so_far in
    cc
