-- A constraint that cuts nothing off leaves the tube as it is. Assumes nothing.
use Rattle.std.proofs.Common.{◌≡◌, ℕ, true, List, set, ℤ, ◌≤ℤ◌, Some, None, Option, ap, ◌∙◌, ap₂}
use Rattle.std.proofs.lemmas.List.{set-get_or}
use Rattle.std.proofs.lemmas.Bool.{and_parts}
use Rattle.tube.proofs.Cuts.{cut_whole}
use Rattle.tube.specs.Tubes.{nowhere, cell}
use Rattle.tube.specs.declared.row.Row.{Row}
use Rattle.contractor.specs.Contractors.{Narrowed}
use Rattle.constraint.specs.Constraints.{Sum, settled, empty, bound_cause, step_cause, range_cause, bounded, all_fit, stepped, inner_limit, outer_limit, axis_row, axis_whole, both_whole, ranged}
use Rattle.constraint.proofs.Rings.{whole_ring}
use Rattle.constraint.specs.SumsLemmas.{Ordered, sum_whole}

as_it_is : (t : List Row) (c : ℕ) → set t c (cell t c) ≡ t
as_it_is t c = set-get_or t c nowhere

pub bound_whole : (number c : ℕ) (low high : ℤ) (t : List Row) → Ordered (cell t c) → low ≤ℤ (cell t c).low → (cell t c).high ≤ℤ high → bounded number c low high t ≡ settled t
bound_whole number c low high t o l h =
    let left : Option Row → Narrowed = λ x. elim x [ None ↦ empty bound_cause number c t | Some r ↦ settled (set t c r) ] in
    ap left (cut_whole (cell t c) low high o l h) ∙ ap settled (as_it_is t c)

pub step_whole : (number from by to : ℕ) (t : List Row) → Ordered (cell t from) → Ordered (cell t by) → Ordered (cell t to) → all_fit (cell t from) (cell t by) (cell t to) ≡ true → stepped number from by to t ≡ settled t
step_whole number from by to t of ob ot fit =
    let left : Option Sum → Narrowed = λ x. elim x [ None ↦ empty step_cause number to t | Some s ↦ settled (set (set (set t to s.to) from s.from) by s.by) ] in
    ap left (sum_whole (cell t from) (cell t by) (cell t to) of ob ot fit)
    ∙ ap (λ u. settled (set (set u from (cell t from)) by (cell t by))) (as_it_is t to)
    ∙ ap (λ u. settled (set u by (cell t by))) (as_it_is t from)
    ∙ ap settled (as_it_is t by)

axis_left_whole : (nearest farthest : ℤ) (own other : Row) (b c : ℤ) → Ordered own → axis_whole nearest farthest own other b c ≡ true → axis_row nearest farthest own other b c ≡ Some own
unfolding inner_limit outer_limit axis_row axis_whole
axis_left_whole nearest farthest own other b c o whole = whole_ring (inner_limit nearest other c) (outer_limit farthest other c) b own o whole

pub range_whole : (number x y : ℕ) (bx by nearest farthest : ℤ) (t : List Row) → Ordered (cell t x) → Ordered (cell t y) → both_whole nearest farthest (cell t x) (cell t y) bx by ≡ true → ranged number x y bx by nearest farthest t ≡ settled t
range_whole number x y bx by nearest farthest t ox oy whole =
    let e = and_parts (axis_whole nearest farthest (cell t x) (cell t y) bx by) (axis_whole nearest farthest (cell t y) (cell t x) by bx) whole in
    let left : Option Row → Option Row → Narrowed = λ o p. elim o [ None ↦ empty range_cause number x t | Some v ↦ elim p [ None ↦ empty range_cause number y t | Some w ↦ settled (set (set t x v) y w) ] ] in
    ap₂ left (axis_left_whole nearest farthest (cell t x) (cell t y) bx by ox e.0) (axis_left_whole nearest farthest (cell t y) (cell t x) by bx oy e.1)
    ∙ ap (λ u. settled (set u y (cell t y))) (as_it_is t x) ∙ ap settled (as_it_is t y)
