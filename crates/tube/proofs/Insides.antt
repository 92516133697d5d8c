-- Tubes inside tubes. Assumes nothing.
use Rattle.std.proofs.Common.{◌≡◌, ℕ, zero, suc, List, [], ◌∷◌, length, set, ℤ}
use lib.Signed.{≤ℤ_refl}
use Rattle.std.proofs.lemmas.List.Elements.{length_all_zip}
use Rattle.tube.specs.Tubes.{In, Within, Inside, cell}
use Rattle.tube.specs.declared.row.Row.{Row}
use Rattle.tube.proofs.Orders.{≤ℤ_trans}

pub within_same : (a : Row) → Within a a
within_same a = record { low = ≤ℤ_refl _; high = ≤ℤ_refl _ }

pub within_trans : (a b c : Row) → Within a b → Within b c → Within a c
within_trans a b c h k = record { low = ≤ℤ_trans _ _ _ k.low h.low; high = ≤ℤ_trans _ _ _ h.high k.high }

pub inside_same : (t : List Row) → Inside t t
inside_same [] = tt
inside_same (r ∷ rs) = (within_same r, inside_same rs)

pub inside_trans : (a b c : List Row) → Inside a b → Inside b c → Inside a c
inside_trans [] [] [] h k = tt
inside_trans [] [] (z ∷ zs) h k = k
inside_trans [] (y ∷ ys) c h k = absurd h
inside_trans (x ∷ xs) [] c h k = absurd h
inside_trans (x ∷ xs) (y ∷ ys) [] h k = absurd k
inside_trans (x ∷ xs) (y ∷ ys) (z ∷ zs) h k = (within_trans x y z h.0 k.0, inside_trans xs ys zs h.1 k.1)

pub inside_length : (u t : List Row) → Inside u t → length u ≡ length t
inside_length u t h = length_all_zip Within u t h

-- one cell of a narrower tube is set to a row inside the same cell of the wider one
pub inside_set : (u t : List Row) (c : ℕ) (r : Row) → Inside u t → Within r (cell t c) → Inside (set u c r) t
inside_set [] [] c r h w = tt
inside_set [] (y ∷ ys) c r h w = absurd h
inside_set (x ∷ xs) [] c r h w = absurd h
inside_set (x ∷ xs) (y ∷ ys) zero r h w = (w, h.1)
inside_set (x ∷ xs) (y ∷ ys) (suc c) r h w = (h.0, inside_set xs ys c r h.1 w)

pub in_wider : (a b : Row) (v : ℤ) → Within a b → In a v → In b v
in_wider a b v w i = record { above = ≤ℤ_trans _ _ _ w.low i.above; below = ≤ℤ_trans _ _ _ i.below w.high }
