-- Squares of whole numbers, and which distances have a square on either side of a number. Assumes nothing.
use Rattle.std.specs.Prelude.{◌≡◌, ℕ, ◌+◌, ◌*◌, ◌<◌, ◌≤◌, true, ◌⊎◌, ℤ, pos, negsuc, ◌*ℤ◌, neg_ℤ, ◌≤ℤ◌, Decides, FitsSigned, int_le, unsigned_abs, refl}
use Rattle.std.proofs.Common.{sym, ap, subst, inl, inr, ⊎_elim, arith, to_z, of_z}
use Rattle.std.proofs.lemmas.Nat.{mul-le}
use Rattle.std.proofs.lemmas.Int.{ints}
use Rattle.std.proofs.lemmas.Bool.{leb-true, le-leb, cases_lt, and_parts}
use Rattle.tube.proofs.Orders.{int_le_from, int_le_true}
use Rattle.std.specs.Int.{w64}
use Rattle.tube.specs.Spans.{reach}
use Rattle.constraint.specs.Makings.{is_coordinate}
use Rattle.constraint.specs.Hulls.{square, greatest, Squared, Root, Farthest, Nearest}

pub square_is : (z : ℤ) → square z ≡ pos (unsigned_abs z * unsigned_abs z)
square_is (pos n) = refl
square_is (negsuc n) = refl

pub sign_cases : (z : ℤ) → (z ≡ pos (unsigned_abs z)) ⊎ (z ≡ neg_ℤ (pos (unsigned_abs z)))
sign_cases (pos n) = inl refl
sign_cases (negsuc n) = inr refl

-- the greatest distance whose square is at most a number
pub outer_decides : (u s : ℕ) → s * s ≤ u → u < (s + 1) * (s + 1) → (d : ℤ) → Decides (int_le (square d) (pos u)) (unsigned_abs d ≤ s)
outer_decides u s low high d =
    let n = unsigned_abs d in
    let is = square_is d in (
      λ e.
          let le : n * n ≤ u = leb-true _ _ (subst (λ z. int_le z (pos u) ≡ true) is e) in
          ⊎_elim (λ far. let m = mul-le (s + 1) (s + 1) n n (omega arith) (omega arith) in absurd (omega arith)) (λ near. near) (cases_lt s n),
      λ near. let m = mul-le n n s s near near in subst (λ z. int_le z (pos u) ≡ true) (sym is) (le-leb _ _ (omega arith)),
    )

-- the least distance whose square is at least a number that is above 0
pub inner_decides : (l s : ℕ) → s * s < l → l ≤ (s + 1) * (s + 1) → (d : ℤ) → Decides (int_le (pos l) (square d)) (s + 1 ≤ unsigned_abs d)
inner_decides l s low high d =
    let n = unsigned_abs d in
    let is = square_is d in (
      λ e.
          let le : l ≤ n * n = leb-true _ _ (subst (λ z. int_le (pos l) z ≡ true) is e) in
          ⊎_elim (λ near. let m = mul-le n n s s (omega arith) (omega arith) in absurd (omega arith)) (λ far. far) (cases_lt n (s + 1)),
      λ far. let m = mul-le (s + 1) (s + 1) n n far far in subst (λ z. int_le (pos l) z ≡ true) (sym is) (le-leb _ _ (omega arith)),
    )

-- every distance has a square that is at least a number that is not above 0
pub no_inner : (l d : ℤ) → l ≤ℤ pos 0 → Decides (int_le l (square d)) (0 ≤ unsigned_abs d)
no_inner l d h = (λ e. omega arith, λ k. subst (λ z. int_le l z ≡ true) (sym (square_is d)) (int_le_from l (pos (unsigned_abs d * unsigned_abs d)) (omega (arith, ints))))

pub square_above : (z : ℤ) → pos 0 ≤ℤ square z
square_above z = subst (λ y. pos 0 ≤ℤ y) (sym (square_is z)) (omega (arith, ints))

-- a root of at most 2 to the power 60 is at most 2 to the power 30
pub root_bound : (s u : ℕ) → s * s ≤ u → u ≤ greatest → s ≤ (2 * reach)
root_bound s u low high = ⊎_elim (λ far. let m = mul-le (2 * reach + 1) (2 * reach + 1) s s (omega arith) (omega arith) in absurd (omega arith)) (λ near. near) (cases_lt (2 * reach) s)

-- the square of a difference of two coordinates
pub square_bound : (z : ℤ) → neg_ℤ (pos (2 * reach)) ≤ℤ z → z ≤ℤ pos (2 * reach) → square z ≤ℤ pos greatest
square_bound z low high =
    let n : unsigned_abs z ≤ (2 * reach) = ⊎_elim (λ e. omega (arith, ints, e)) (λ e. omega (arith, ints, e)) (sign_cases z) in
    let m = mul-le (unsigned_abs z) (unsigned_abs z) (2 * reach) (2 * reach) n n in
    subst (λ y. y ≤ℤ pos greatest) (sym (square_is z)) (omega (arith, ints))

-- a number farther from 0 has no smaller square
pub square_farther : (d e : ℤ) → unsigned_abs d ≤ unsigned_abs e → square d ≤ℤ square e
square_farther d e n =
    let m = mul-le (unsigned_abs d) (unsigned_abs d) (unsigned_abs e) (unsigned_abs e) n n in
    subst (λ y. y ≤ℤ square e) (sym (square_is d)) (subst (λ y. pos (unsigned_abs d * unsigned_abs d) ≤ℤ y) (sym (square_is e)) (omega (arith, ints)))

-- on either side of 0
pub square_up : (d e : ℤ) → pos 0 ≤ℤ d → d ≤ℤ e → square d ≤ℤ square e
square_up d e h k = square_farther d e (by_signs (sign_cases d) (sign_cases e))
  where
    by_signs : (d ≡ pos (unsigned_abs d)) ⊎ (d ≡ neg_ℤ (pos (unsigned_abs d))) → (e ≡ pos (unsigned_abs e)) ⊎ (e ≡ neg_ℤ (pos (unsigned_abs e))) → unsigned_abs d ≤ unsigned_abs e
    by_signs (inl s) (inl r) = omega (arith, ints)
    by_signs (inl s) (inr r) = omega (arith, ints)
    by_signs (inr s) (inl r) = omega (arith, ints)
    by_signs (inr s) (inr r) = omega (arith, ints)

pub square_down : (d e : ℤ) → d ≤ℤ pos 0 → e ≤ℤ d → square d ≤ℤ square e
square_down d e h k = square_farther d e (by_signs (sign_cases d) (sign_cases e))
  where
    by_signs : (d ≡ pos (unsigned_abs d)) ⊎ (d ≡ neg_ℤ (pos (unsigned_abs d))) → (e ≡ pos (unsigned_abs e)) ⊎ (e ≡ neg_ℤ (pos (unsigned_abs e))) → unsigned_abs d ≤ unsigned_abs e
    by_signs (inl s) (inl r) = omega (arith, ints)
    by_signs (inl s) (inr r) = omega (arith, ints)
    by_signs (inr s) (inl r) = omega (arith, ints)
    by_signs (inr s) (inr r) = omega (arith, ints)

-- ---- coordinates, and the differences of two

pub record Coordinate (v : ℤ) : Type 0 where
  pub floor : neg_ℤ (pos reach) ≤ℤ v
  pub roof : v ≤ℤ pos reach

pub coordinate : (v : ℤ) → is_coordinate v ≡ true → Coordinate v
coordinate v e = let h = and_parts (int_le (neg_ℤ (pos reach)) v) _ e in record { floor = int_le_true _ _ h.0; roof = int_le_true _ _ h.1 }

pub square_fits : (z : ℤ) → neg_ℤ (pos (2 * reach)) ≤ℤ z → z ≤ℤ pos (2 * reach) → FitsSigned w64 (square z)
square_fits z low high =
    let a = square_above z in
    let b = square_bound z low high in
    omega (arith, ints)

-- a product, as the machine holds it
pub squared : (z d : ℤ) → z ≡ d → neg_ℤ (pos (2 * reach)) ≤ℤ d → d ≤ℤ pos (2 * reach) → Squared (square d) (to_z w64 (of_z w64 (z *ℤ z)))
squared z d e low high =
    let a = square_above d in
    let b = square_bound d low high in
    let same : z *ℤ z ≡ square d = ap square e in
    record { is = omega (arith, ints); above = omega (arith, ints); below = omega (arith, ints) }

pub squared_as : (e d r s : ℤ) → e ≡ d → s ≡ r → Squared e r → Squared d s
squared_as e d r s p q k = subst (Squared d) (sym q) (subst (λ z. Squared z r) p k)

-- ---- radii from roots

pub farthest_from : (outer r : ℤ) (u s : ℕ) → outer ≡ pos u → r ≡ pos s → u ≤ greatest → Root u s → Farthest outer r
farthest_from outer r u s e d small root =
    let b = root_bound s u root.below small in
    record {
      above = omega (arith, ints);
      below = omega (arith, ints);
      decides = λ z.
          let k = outer_decides u s root.below root.above z in
          (λ t. let n = k.0 (subst (λ o. int_le (square z) o ≡ true) e t) in omega (arith, ints), λ n. subst (λ o. int_le (square z) o ≡ true) (sym e) (k.1 (omega (arith, ints))));
    }

pub nearest_from : (inner r : ℤ) (l s : ℕ) → inner ≡ pos (l + 1) → r ≡ pos (s + 1) → l + 1 ≤ greatest → Root l s → Nearest inner r
nearest_from inner r l s e d small root =
    let high = root.above in
    let low = root.below in
    let b = root_bound_up s l low small in
    record {
      above = omega (arith, ints);
      below = omega (arith, ints);
      decides = λ z.
          let k = inner_decides (l + 1) s (omega arith) (omega arith) z in
          (λ t. let n = k.0 (subst (λ o. int_le o (square z) ≡ true) e t) in omega (arith, ints), λ n. subst (λ o. int_le o (square z) ≡ true) (sym e) (k.1 (omega (arith, ints))));
    }
  where
    root_bound_up : (s l : ℕ) → s * s ≤ l → l + 1 ≤ greatest → s + 1 ≤ 2 * reach
    root_bound_up s l low small = ⊎_elim (λ far. let m = mul-le (2 * reach) (2 * reach) s s (omega arith) (omega arith) in absurd (omega arith)) (λ near. near) (cases_lt (2 * reach) (s + 1))

pub nearest_none : (inner : ℤ) → inner ≤ℤ pos 0 → Nearest inner (pos 0)
nearest_none inner h = record {
  above = omega (arith, ints);
  below = omega (arith, ints);
  decides = λ z. let k = no_inner inner z h in (λ t. omega (arith, ints), λ n. k.1 (omega arith));
}
