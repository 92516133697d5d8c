-- The order of whole numbers, as a test and as a fact. Assumes nothing.
use Rattle.std.proofs.Common.{◌≡◌, true, false, T, ℤ, ◌≤ℤ◌, sym, subst, arith}
use lib.Signed.{le_z}
use Rattle.std.proofs.lemmas.Int.{ints}

pub ≤ℤ_trans : (a b c : ℤ) → a ≤ℤ b → b ≤ℤ c → a ≤ℤ c
≤ℤ_trans a b c h k = omega (arith, ints)

pub ≤ℤ_antisym : (a b : ℤ) → a ≤ℤ b → b ≤ℤ a → a ≡ b
≤ℤ_antisym a b h k = omega (arith, ints)

pub int_le_true : (a b : ℤ) → le_z a b ≡ true → a ≤ℤ b
int_le_true a b e = record { le = subst T (sym e) tt }

pub int_le_false : (a b : ℤ) → le_z a b ≡ false → a ≤ℤ b → ⊥
int_le_false a b e h = subst T e h.le

pub int_le_from : (a b : ℤ) → a ≤ℤ b → le_z a b ≡ true
int_le_from a b h = grind (arith, ints)
