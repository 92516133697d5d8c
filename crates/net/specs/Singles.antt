-- A tube inside the tube of one trajectory. Assumes nothing.
use Rattle.std.specs.Prelude.{◌≡◌, true, List, [], ◌∷◌, ℤ, refl}
use Rattle.std.proofs.Common.{ap₂, arith}
use Rattle.std.proofs.lemmas.Int.{ints}
use Rattle.std.proofs.lemmas.Bool.{and_parts}
use Rattle.tube.specs.Tubes.{Trajectory, row, is_interval, all_intervals, Within, Inside, single}
use Rattle.tube.specs.declared.row.Row.{Row}
use Rattle.tube.proofs.Ends.{spanned}

within_one : (a : Row) (v : ℤ) → is_interval a ≡ true → Within a (row v v) → a ≡ row v v
within_one a v i w =
    let s = spanned a.low a.high i in
    ap₂ row (omega (arith, ints)) (omega (arith, ints))

-- it is that tube
pub inside_single : (u : List Row) (p : Trajectory) → all_intervals u ≡ true → Inside u (single p) → u ≡ single p
inside_single [] [] i h = refl
inside_single [] (v ∷ vs) i h = absurd h
inside_single (r ∷ rs) [] i h = absurd h
inside_single (r ∷ rs) (v ∷ vs) i h =
    let each = and_parts (is_interval r) (all_intervals rs) i in
    ap₂ ◌∷◌ (within_one r v each.0 h.0) (inside_single rs vs each.1 h.1)
