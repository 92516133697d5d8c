-- The numbers of a row whose distance from a beacon lies between two radii: two arms, one on each side. Assumes nothing.
use Rattle.std.proofs.Common.{◌≡◌, Bool, true, false, ◌⊎◌, ℤ, pos, ◌+ℤ◌, ◌-ℤ◌, nat_abs, ◌≤ℤ◌, ◌<ℤ◌, Some, None, Option, ap, ◌∙◌, subst, inl, inr, ⊎_elim, arith}
use lib.Signed.{le_z, ≤ℤ_refl}
use Rattle.std.specs.Int.{int_min, int_max}
use Rattle.std.proofs.lemmas.Int.{ints, clamps}
use Rattle.std.proofs.lemmas.Bool.{and_parts, and_from, and_right, cases_Bool}
use Rattle.tube.specs.Tubes.{In, cut}
use Rattle.tube.specs.declared.row.Row.{Row}
use Rattle.tube.proofs.Cuts.{Cut, CutOf, cut_is}
use Rattle.constraint.specs.Hulls.{square, in_ring, are_ends_in_ring, hull_of, ring, Farthest, Nearest, joined}
use Rattle.constraint.specs.HullsLemmas.{Hull, HullOf, hull_unique, hull_of_is}
use Rattle.constraint.specs.Squares.{sign_cases, square_above}

-- a number from low to high
pub record Spanning (low high v : ℤ) : Type 0 where
  pub above : low ≤ℤ v
  pub below : v ≤ℤ high

-- ---- the hull of what a row shares with two arms, the first below the second

module _ (P : ℤ → Bool) (l₁ h₁ l₂ h₂ : ℤ) (apart : h₁ ≤ℤ l₂) (in_arm : (v : ℤ) → P v ≡ true → Spanning l₁ h₁ v ⊎ Spanning l₂ h₂ v) (first : (v : ℤ) → Spanning l₁ h₁ v → P v ≡ true) (second : (v : ℤ) → Spanning l₂ h₂ v → P v ≡ true) where
  -- the ends of a cut lie in the row and in the arm
  low_in : (r s : Row) (l h : ℤ) → Cut r l h s → In r s.low × Spanning l h s.low
  low_in r s l h k =
      let w = k.within in
      let o = k.ordered in
      let a = k.above in
      let b = k.below in
      (record { above = omega (arith, ints); below = omega (arith, ints) }, record { above = omega (arith, ints); below = omega (arith, ints) })

  high_in : (r s : Row) (l h : ℤ) → Cut r l h s → In r s.high × Spanning l h s.high
  high_in r s l h k =
      let w = k.within in
      let o = k.ordered in
      let a = k.above in
      let b = k.below in
      (record { above = omega (arith, ints); below = omega (arith, ints) }, record { above = omega (arith, ints); below = omega (arith, ints) })

  one_arm : (r s : Row) (l h : ℤ) → Cut r l h s → ((v : ℤ) → Spanning l h v → P v ≡ true) → ((v : ℤ) → In r v → P v ≡ true → Spanning l h v) → Hull P r s
  one_arm r s l h k passes only =
      let a = low_in r s l h k in
      let b = high_in r s l h k in
      record {
        low_in = a.0;
        high_in = b.0;
        low_passes = passes _ a.1;
        high_passes = passes _ b.1;
        holds = λ v i p. let w = only v i p in k.holds v i w.above w.below;
      }

  by_cuts : (r : Row) (o o' : Option Row) → CutOf r l₁ h₁ o → CutOf r l₂ h₂ o' → HullOf P r (joined o o')
  by_cuts r None None k m = λ v i. ⊎_elim (λ p. absurd (⊎_elim (λ w. k v i w.above w.below) (λ w. m v i w.above w.below) (in_arm v p))) (λ no'. no') (cases_Bool (P v))
  by_cuts r None (Some s) k m = one_arm r s l₂ h₂ m second (λ v i p. ⊎_elim (λ w. absurd (k v i w.above w.below)) (λ w. w) (in_arm v p))
  by_cuts r (Some s) None k m = one_arm r s l₁ h₁ k first (λ v i p. ⊎_elim (λ w. w) (λ w. absurd (m v i w.above w.below)) (in_arm v p))
  by_cuts r (Some s) (Some s') k m =
      let a = low_in r s l₁ h₁ k in
      let b = high_in r s' l₂ h₂ m in
      let c = (high_in r s l₁ h₁ k).1 in
      let d = (low_in r s' l₂ h₂ m).1 in
      let a' = a.1 in
      let b' = b.1 in
      let o = k.ordered in
      let o' = m.ordered in
      let low : s.low ≡ int_min s.low s'.low = omega (arith, ints, clamps) in
      let high : s'.high ≡ int_max s.high s'.high = omega (arith, ints, clamps) in
      record {
        low_in = subst (In r) low a.0;
        high_in = subst (In r) high b.0;
        low_passes = subst (λ v. P v ≡ true) low (first _ a');
        high_passes = subst (λ v. P v ≡ true) high (second _ b');
        holds = λ v i p. ⊎_elim
            (λ w. let q = k.holds v i w.above w.below in record { above = omega (arith, ints, clamps); below = omega (arith, ints, clamps) })
            (λ w. let q = m.holds v i w.above w.below in record { above = omega (arith, ints, clamps); below = omega (arith, ints, clamps) })
            (in_arm v p);
      }

  pub two_arms : (r : Row) → r.low ≤ℤ r.high → hull_of P r ≡ joined (cut r l₁ h₁) (cut r l₂ h₂)
  two_arms r o = hull_unique P r (hull_of P r) (joined (cut r l₁ h₁) (cut r l₂ h₂)) (hull_of_is P r o) (by_cuts r (cut r l₁ h₁) (cut r l₂ h₂) (cut_is r l₁ h₁) (cut_is r l₂ h₂))

-- ---- the arms of a ring

module _ (inner outer b near far : ℤ) (n : Nearest inner near) (f : Farthest outer far) where
  in_arm : (v : ℤ) → in_ring inner outer b v ≡ true → Spanning (b -ℤ far) (b -ℤ near) v ⊎ Spanning (b +ℤ near) (b +ℤ far) v
  in_arm v e =
      let h = and_parts (le_z inner (square (v -ℤ b))) _ e in
      let lo = (n.decides (v -ℤ b)).0 h.0 in
      let hi = (f.decides (v -ℤ b)).0 h.1 in
      ⊎_elim
      (λ s. inr (record { above = omega (arith, ints, s); below = omega (arith, ints, s) }))
      (λ s. inl (record { above = omega (arith, ints, s); below = omega (arith, ints, s) }))
      (sign_cases (v -ℤ b))

  at_distance : (v : ℤ) → near ≤ℤ pos (nat_abs (v -ℤ b)) → pos (nat_abs (v -ℤ b)) ≤ℤ far → in_ring inner outer b v ≡ true
  at_distance v lo hi = and_from _ _ ((n.decides (v -ℤ b)).1 lo) ((f.decides (v -ℤ b)).1 hi)

  left : (v : ℤ) → Spanning (b -ℤ far) (b -ℤ near) v → in_ring inner outer b v ≡ true
  left v w =
      let a = n.above in
      ⊎_elim (λ s. at_distance v (omega (arith, ints, s)) (omega (arith, ints, s))) (λ s. at_distance v (omega (arith, ints, s)) (omega (arith, ints, s))) (sign_cases (v -ℤ b))

  right : (v : ℤ) → Spanning (b +ℤ near) (b +ℤ far) v → in_ring inner outer b v ≡ true
  right v w =
      let a = n.above in
      ⊎_elim (λ s. at_distance v (omega (arith, ints, s)) (omega (arith, ints, s))) (λ s. at_distance v (omega (arith, ints, s)) (omega (arith, ints, s))) (sign_cases (v -ℤ b))

  pub ring_arms : (r : Row) → r.low ≤ℤ r.high → ring inner outer b r ≡ joined (cut r (b -ℤ far) (b -ℤ near)) (cut r (b +ℤ near) (b +ℤ far))
  unfolding ring
  ring_arms r o =
      let a = n.above in
      two_arms (in_ring inner outer b) (b -ℤ far) (b -ℤ near) (b +ℤ near) (b +ℤ far) (omega (arith, ints)) in_arm left right r o

pub same_joined : (a b c d : Option Row) → a ≡ c → b ≡ d → joined a b ≡ joined c d
same_joined a b c d p q = ap (λ o. joined o b) p ∙ ap (joined c) q

pub same_ring : (r : Row) (i o b i' o' b' : ℤ) → i ≡ i' → o ≡ o' → b ≡ b' → ring i o b r ≡ ring i' o' b' r
same_ring r i o b i' o' b' p q s = ap (λ z. ring z o b r) p ∙ ap (λ z. ring i' z b r) q ∙ ap (λ z. ring i' o' z r) s

-- no number is at a distance whose square is negative
pub no_ring : (inner outer b : ℤ) (r : Row) → r.low ≤ℤ r.high → outer <ℤ pos 0 → ring inner outer b r ≡ None
unfolding ring
no_ring inner outer b r o h = hull_unique (in_ring inner outer b) r _ None (hull_of_is (in_ring inner outer b) r o) (λ v i. and_right _ _ (int_le_over (square (v -ℤ b)) (square_above (v -ℤ b))))
  where
    int_le_over : (z : ℤ) → pos 0 ≤ℤ z → le_z z outer ≡ false
    int_le_over z k = grind (arith, ints)

-- a row whose ends are both in the ring is its own hull
pub whole_ring : (inner outer b : ℤ) (r : Row) → r.low ≤ℤ r.high → are_ends_in_ring inner outer b r ≡ true → ring inner outer b r ≡ Some r
unfolding ring
whole_ring inner outer b r o ends =
    let e = and_parts (in_ring inner outer b r.low) (in_ring inner outer b r.high) ends in
    hull_unique (in_ring inner outer b) r _ (Some r) (hull_of_is (in_ring inner outer b) r o)
    (record { low_in = record { above = ≤ℤ_refl r.low; below = o }; high_in = record { above = o; below = ≤ℤ_refl r.high }; low_passes = e.0; high_passes = e.1; holds = λ v i p. i })

pub same_ends : (r : Row) (i o b i' o' b' : ℤ) → i ≡ i' → o ≡ o' → b ≡ b' → are_ends_in_ring i o b r ≡ are_ends_in_ring i' o' b' r
same_ends r i o b i' o' b' p q s = ap (λ z. are_ends_in_ring z o b r) p ∙ ap (λ z. are_ends_in_ring i' z b r) q ∙ ap (λ z. are_ends_in_ring i' o' z r) s
