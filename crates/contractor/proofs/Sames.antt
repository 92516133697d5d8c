-- Two tables compared by the rows' own equality, and as the definition of a repetition compares them. Assumes nothing.
use Rattle.std.proofs.Common.{◌≡◌, Bool, ◌&&◌, List, [], ◌∷◌, ℤ, int_eq, ap₂, refl, ◌∙◌, arith}
use Rattle.std.proofs.lemmas.Int.{ints}
use Rattle.std.specs.Cmp.Lexicographic.{pointwise}
use Rattle.tube.specs.declared.row.Row.{Row}
use Rattle.contractor.specs.Repetitions.{equal, same_rows}

abbrev is_same : Row → Row → Bool
is_same r s = int_eq r.low s.low && int_eq r.high s.high

equal_ends : (a b : ℤ) → int_eq a b ≡ equal a b
equal_ends a b = grind (arith, ints)

pointwise_same : (a b : List Row) → pointwise is_same a b ≡ same_rows a b
pointwise_same [] [] = refl
pointwise_same [] (s ∷ ss) = refl
pointwise_same (r ∷ rs) [] = refl
pointwise_same (r ∷ rs) (s ∷ ss) = ap₂ (λ x y. x && y) (ap₂ (λ x y. x && y) (equal_ends r.low s.low) (equal_ends r.high s.high)) (pointwise_same rs ss)

pub same_rows_from : (r : Bool) (a b : List Row) → r ≡ pointwise is_same a b → r ≡ same_rows a b
same_rows_from r a b e = e ∙ pointwise_same a b
