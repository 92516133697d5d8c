-- A tube inside the tube of one trajectory. Assumes nothing.
use Rattle.std.specs.Prelude.{◌≡◌, List, [], ◌∷◌, ℤ, refl}
use Rattle.std.proofs.Common.{ap, ◌∙◌}
use Rattle.tube.specs.Tubes.{Trajectory, row, In, Lies, Within, Inside, single}
use Rattle.tube.specs.declared.row.Row.{Row}
use Rattle.tube.proofs.Orders.{≤ℤ_antisym}

only_row : (r : Row) (v : ℤ) → Within r (row v v) → In r v → r ≡ row v v
only_row r v w i =
    ap (λ low. row low r.high) (≤ℤ_antisym _ _ i.above w.low) ∙ ap (row v) (≤ℤ_antisym _ _ w.high i.below)

-- what is left of the tube of one trajectory, where it still holds the trajectory
pub single_left : (u : List Row) (p : Trajectory) → Inside u (single p) → Lies u p → u ≡ single p
single_left [] [] h l = refl
single_left [] (v ∷ vs) h l = absurd h
single_left (r ∷ rs) [] h l = absurd h
single_left (r ∷ rs) (v ∷ vs) h l =
    let head = only_row r v h.0 l.0 in
    let tail = single_left rs vs h.1 l.1 in
    cc
