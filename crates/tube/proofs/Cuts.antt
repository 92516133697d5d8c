-- What a cut leaves. Assumes nothing.
use Rattle.std.proofs.Common.{◌≡◌, Bool, true, false, cond, ℤ, ◌≤ℤ◌, Some, None, Option, refl, ap, ◌∙◌, arith}
use lib.Signed.{le_z}
use Rattle.std.specs.Int.{int_min, int_max}
use Rattle.std.proofs.lemmas.Int.{ints, clamps}
use Rattle.tube.specs.Tubes.{row, In, Within, from_to, cut}
use Rattle.tube.specs.declared.row.Row.{Row}
use Rattle.tube.proofs.Orders.{int_le_true, int_le_false, int_le_from}

pub record Cut (r : Row) (low high : ℤ) (s : Row) : Type 0 where
  pub within : Within s r
  pub ordered : s.low ≤ℤ s.high
  pub above : low ≤ℤ s.low
  pub below : s.high ≤ℤ high
  pub holds : (v : ℤ) → In r v → low ≤ℤ v → v ≤ℤ high → In s v

-- what is shared, or that nothing is
abbrev pub CutOf : Row → ℤ → ℤ → Option Row → Type 0
CutOf r low high None = (v : ℤ) → In r v → low ≤ℤ v → v ≤ℤ high → ⊥
CutOf r low high (Some s) = Cut r low high s

by_order : (r : Row) (low high : ℤ) (b : Bool) → le_z (int_max r.low low) (int_min r.high high) ≡ b → CutOf r low high (cond b (Some (row (int_max r.low low) (int_min r.high high))) None)
by_order r low high true e =
    let o = int_le_true _ _ e in
    record {
      within = record { low = omega (arith, ints, clamps); high = omega (arith, ints, clamps) };
      ordered = o;
      above = omega (arith, ints, clamps);
      below = omega (arith, ints, clamps);
      holds = λ v i l h. record { above = omega (arith, ints, clamps); below = omega (arith, ints, clamps) };
    }
by_order r low high false e = λ v i l h. int_le_false (int_max r.low low) (int_min r.high high) e (omega (arith, ints, clamps))

pub cut_is : (r : Row) (low high : ℤ) → CutOf r low high (cut r low high)
unfolding cut
cut_is r low high = by_order r low high (le_z (int_max r.low low) (int_min r.high high)) refl

pub same_cut : (r : Row) (low low' high high' : ℤ) → low ≡ low' → high ≡ high' → cut r low high ≡ cut r low' high'
same_cut r low low' high high' l h = ap (λ x. cut r x high) l ∙ ap (cut r low') h

-- a number that is cut and left lies between the ends
pub cut_one : (v low high : ℤ) (s : Row) → Cut (row v v) low high s → (low ≤ℤ v) × (v ≤ℤ high)
cut_one v low high s k =
    let w = k.within in
    (omega (arith, ints, k.ordered, k.above), omega (arith, ints, k.ordered, k.below))

-- a row that lies between the ends is left whole
pub cut_whole : (r : Row) (low high : ℤ) → r.low ≤ℤ r.high → low ≤ℤ r.low → r.high ≤ℤ high → cut r low high ≡ Some r
unfolding cut
cut_whole r low high o l h =
    let floor : int_max r.low low ≡ r.low = omega (arith, ints, clamps) in
    let roof : int_min r.high high ≡ r.high = omega (arith, ints, clamps) in
    ap (λ x. from_to x (int_min r.high high)) floor ∙ ap (from_to r.low) roof ∙ ap (λ b. cond b (Some r) None) (int_le_from r.low r.high o)
