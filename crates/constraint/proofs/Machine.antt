-- Signed numbers as the machine holds them, in bits and back. Assumes nothing.
use Rattle.std.proofs.Common.{◌≡◌, ℤ, pos, ◌-ℤ◌, ◌≤ℤ◌, ◌∙◌, arith, w64, SFits, to_z, of_z}
use mir.Syntax.{Width}
use Rattle.std.specs.Int.{int_min, int_max}
use Rattle.std.proofs.lemmas.Int.{ints, clamps, to_z-of_z}
use Rattle.constraint.specs.Hulls.{greatest, Squared}

pub held : (w : Width) (x y : ℤ) → SFits w x → x ≡ y → to_z w (of_z w x) ≡ y
held w x y f e = to_z-of_z w x f ∙ e

-- the difference, the greater and the smaller of two squares
module _ (e d r s : ℤ) (h : Squared e r) (k : Squared d s) where
  pub squares_apart : to_z w64 (of_z w64 (to_z w64 (of_z w64 r) -ℤ to_z w64 (of_z w64 s))) ≡ e -ℤ d
  squares_apart = omega (arith, ints)

  pub apart_below : to_z w64 (of_z w64 (to_z w64 (of_z w64 r) -ℤ to_z w64 (of_z w64 s))) ≤ℤ pos greatest
  apart_below = omega (arith, ints)

  pub greater : (m : ℤ) → m ≡ int_max (to_z w64 (of_z w64 r)) (to_z w64 (of_z w64 s)) → Squared (int_max e d) (to_z w64 (of_z w64 m))
  greater m q = record { is = omega (arith, ints, clamps); above = omega (arith, ints, clamps); below = omega (arith, ints, clamps) }

  pub smaller : (m : ℤ) → m ≡ int_min (to_z w64 (of_z w64 r)) (to_z w64 (of_z w64 s)) → Squared (int_min e d) (to_z w64 (of_z w64 m))
  smaller m q = record { is = omega (arith, ints, clamps); above = omega (arith, ints, clamps); below = omega (arith, ints, clamps) }
