-- What is left of three rows, one of which is the sum of the other two. Assumes nothing.
use Rattle.std.specs.Prelude.{◌≡◌, true, ◌&&◌, ℤ, ◌+ℤ◌, ◌-ℤ◌, ◌≤ℤ◌, Some, None, Option, IsSome, int_le, refl}
use Rattle.std.proofs.Common.{sym, ap, ap₂, subst, ◌∙◌, arith}
use Rattle.std.specs.Int.{int_max}
use Rattle.std.specs.Option.{unwrap_or}
use Rattle.std.proofs.lemmas.Int.{ints, clamps}
use Rattle.std.proofs.lemmas.Bool.{and_parts}
use Rattle.tube.specs.Intervals.{row_if_any}
use Rattle.tube.specs.Tubes.{Within, cut}
use Rattle.tube.specs.declared.interval.Interval.{Interval}
use Rattle.tube.specs.declared.row.Row.{Row}
use Rattle.tube.proofs.Cuts.{Cut, CutOf, cut_is, cut_whole}
use Rattle.tube.proofs.Orders.{int_le_true}
use Rattle.constraint.specs.Constraints.{Sum, lies_between, fits_sums, fits_differences, all_fit, cut_sum, cut_difference, summed}

abbrev pub Ordered : Row → Type 0
Ordered r = r.low ≤ℤ r.high

-- the sums, and the differences, of the numbers of two rows
abbrev pub SumCut : (own a b : Row) → Option Row → Type 0
SumCut own a b = CutOf own (a.low +ℤ b.low) (a.high +ℤ b.high)

abbrev pub DifferenceCut : (own a b : Row) → Option Row → Type 0
DifferenceCut own a b = CutOf own (a.low -ℤ b.high) (a.high -ℤ b.low)

-- where a sum has a number left, so has each of its parts
pub part_left : (own other to s : Row) → Ordered own → Ordered other → Within s to → Ordered s → (own.low +ℤ other.low) ≤ℤ s.low → s.high ≤ℤ (own.high +ℤ other.high) → DifferenceCut own to other None → ⊥
part_left own other to s o₁ o₂ w o₃ above below none =
    let v : ℤ = int_max own.low (s.low -ℤ other.high) in
    none v (record { above = omega (arith, ints, clamps); below = omega (arith, ints, clamps) }) (omega (arith, ints, clamps)) (omega (arith, ints, clamps))

pub record Summed (from by to : Row) (s : Sum) : Type 0 where
  pub start : DifferenceCut from to by (Some s.from)
  pub added : DifferenceCut by to from (Some s.by)
  pub total : SumCut to from by (Some s.to)

abbrev pub SumOf : (from by to : Row) → Option Sum → Type 0
SumOf from by to None = SumCut to from by None
SumOf from by to (Some s) = Summed from by to s

by_cuts : (from by to : Row) → Ordered from → Ordered by → (sum start added : Option Row) → SumCut to from by sum → DifferenceCut from to by start → DifferenceCut by to from added → SumOf from by to (elim sum [ None ↦ None | Some left ↦ Some (record { from = unwrap_or start from; by = unwrap_or added by; to = left }) ])
by_cuts from by to of ob None start added k l m = k
by_cuts from by to of ob (Some s) None added k l m = absurd (part_left from by to s of ob k.within k.ordered k.above k.below l)
by_cuts from by to of ob (Some s) (Some a) None k l m =
    let above = k.above in
    let below = k.below in
    absurd (part_left by from to s ob of k.within k.ordered (omega (arith, ints)) (omega (arith, ints)) m)
by_cuts from by to of ob (Some s) (Some a) (Some b) k l m = record { start = l; added = m; total = k }

pub summed_is : (from by to : Row) → Ordered from → Ordered by → SumOf from by to (summed from by to)
summed_is from by to of ob = by_cuts from by to of ob (cut_sum to from by) (cut_difference from to by) (cut_difference by to from) (cut_is to _ _) (cut_is from _ _) (cut_is by _ _)

-- so the parts' cuts never come out empty after the sum's
module _ (from by to s : Row) (of : Ordered from) (ob : Ordered by) (left : Some s ≡ cut_sum to from by) where
  k : Cut to (from.low +ℤ by.low) (from.high +ℤ by.high) s
  k = subst (SumCut to from by) (sym left) (cut_is to _ _)

  pub start_left : (o : Option Interval) → row_if_any o ≡ cut_difference from to by → IsSome o
  start_left (Some i) cut = refl
  start_left None none = absurd (part_left from by to s of ob k.within k.ordered k.above k.below (subst (DifferenceCut from to by) (sym none) (cut_is from _ _)))

  pub added_left : (o : Option Interval) → row_if_any o ≡ cut_difference by to from → IsSome o
  added_left (Some i) cut = refl
  added_left None none =
      let above = k.above in
      let below = k.below in
      absurd (part_left by from to s ob of k.within k.ordered (omega (arith, ints)) (omega (arith, ints)) (subst (DifferenceCut by to from) (sym none) (cut_is by _ _)))

-- three rows that fit are left whole
fits_whole : (own : Row) (low high : ℤ) → Ordered own → lies_between own low high ≡ true → cut own low high ≡ Some own
fits_whole own low high o h =
    let e = and_parts (int_le low own.low) (int_le own.high high) h in
    cut_whole own low high o (int_le_true low own.low e.0) (int_le_true own.high high e.1)

pub sum_whole : (from by to : Row) → Ordered from → Ordered by → Ordered to → all_fit from by to ≡ true → summed from by to ≡ Some (record { from = from; by = by; to = to })
sum_whole from by to of ob ot fit =
    let sum = and_parts (fits_sums to from by) (fits_differences from to by && fits_differences by to from) fit in
    let parts = and_parts (fits_differences from to by) (fits_differences by to from) sum.1 in
    let t : cut_sum to from by ≡ Some to = fits_whole to (from.low +ℤ by.low) (from.high +ℤ by.high) ot sum.0 in
    let f : cut_difference from to by ≡ Some from = fits_whole from (to.low -ℤ by.high) (to.high -ℤ by.low) of parts.0 in
    let b : cut_difference by to from ≡ Some by = fits_whole by (to.low -ℤ from.high) (to.high -ℤ from.low) ob parts.1 in
    let left : Option Row → Option Row → Option Row → Option Sum = λ o p q. elim o [ None ↦ None | Some s ↦ Some (record { from = unwrap_or p from; by = unwrap_or q by; to = s }) ] in
    ap (λ o. left o (cut_difference from to by) (cut_difference by to from)) t ∙ ap₂ (λ p q. left (Some to) p q) f b
