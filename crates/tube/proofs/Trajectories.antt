-- Trajectories in tubes, cell by cell. Assumes nothing.
use Rattle.std.proofs.Common.{◌≡◌, ℕ, zero, suc, ◌<◌, List, [], ◌∷◌, length, set, refl, ap, le_of_suc-le-suc, not-suc-le-zero}
use lib.Signed.{≤ℤ_refl}
use Rattle.tube.specs.Tubes.{Trajectory, row, In, Lies, Inside, single, cell, value_at}
use Rattle.tube.specs.declared.row.Row.{Row}
use Rattle.tube.proofs.Insides.{in_wider}

pub lies_length : (t : List Row) (p : Trajectory) → Lies t p → length p ≡ length t
lies_length [] [] h = refl
lies_length [] (v ∷ vs) h = absurd h
lies_length (r ∷ rs) [] h = absurd h
lies_length (r ∷ rs) (v ∷ vs) h = ap suc (lies_length rs vs h.1)

pub lies_at : (t : List Row) (p : Trajectory) (c : ℕ) → c < length t → Lies t p → In (cell t c) (value_at p c)
lies_at [] p c l h = absurd (not-suc-le-zero l)
lies_at (r ∷ rs) [] c l h = absurd h
lies_at (r ∷ rs) (v ∷ vs) zero l h = h.0
lies_at (r ∷ rs) (v ∷ vs) (suc c) l h = lies_at rs vs c (le_of_suc-le-suc l) h.1

pub lies_set : (t : List Row) (p : Trajectory) (c : ℕ) (r : Row) → Lies t p → In r (value_at p c) → Lies (set t c r) p
lies_set [] p c r h i = h
lies_set (x ∷ xs) [] c r h i = absurd h
lies_set (x ∷ xs) (v ∷ vs) zero r h i = (i, h.1)
lies_set (x ∷ xs) (v ∷ vs) (suc c) r h i = (h.0, lies_set xs vs c r h.1 i)

pub lies_wider : (u t : List Row) (p : Trajectory) → Inside u t → Lies u p → Lies t p
lies_wider [] [] p h l = l
lies_wider [] (y ∷ ys) p h l = absurd h
lies_wider (x ∷ xs) [] p h l = absurd h
lies_wider (x ∷ xs) (y ∷ ys) [] h l = absurd l
lies_wider (x ∷ xs) (y ∷ ys) (v ∷ vs) h l = (in_wider x y v h.0 l.0, lies_wider xs ys vs h.1 l.1)

pub in_single : (p : Trajectory) → Lies (single p) p
in_single [] = tt
in_single (v ∷ vs) = (record { above = ≤ℤ_refl v; below = ≤ℤ_refl v }, in_single vs)

pub single_length : (p : Trajectory) → length (single p) ≡ length p
single_length [] = refl
single_length (v ∷ vs) = ap suc (single_length vs)

pub single_at : (p : Trajectory) (c : ℕ) → cell (single p) c ≡ row (value_at p c) (value_at p c)
single_at [] c = refl
single_at (v ∷ vs) zero = refl
single_at (v ∷ vs) (suc c) = single_at vs c
