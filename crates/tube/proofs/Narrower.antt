-- Tubes inside a tube, made by setting cells one after the other. Assumes nothing.
use Rattle.std.proofs.Common.{◌≡◌, ℕ, ◌<◌, true, List, length, set, ◌≤ℤ◌}
use Rattle.tube.specs.Tubes.{is_tube, Within, Inside, cell}
use Rattle.tube.specs.declared.row.Row.{Row}
use Rattle.tube.proofs.Insides.{inside_same, inside_set}
use Rattle.tube.proofs.Tables.{tube, tube_set, interval_at, interval_within}

pub record Narrower (t u : List Row) : Type 0 where
  pub tube : is_tube u ≡ true
  pub inside : Inside u t

module _ (t : List Row) (h : is_tube t ≡ true) where
  pub narrower_same : Narrower t t
  narrower_same = record { tube = h; inside = inside_same t }

  -- each new row lies inside the same cell of the first tube
  pub narrower_set : (u : List Row) (c : ℕ) (r : Row) → c < length t → Narrower t u → Within r (cell t c) → r.low ≤ℤ r.high → Narrower t (set u c r)
  narrower_set u c r l n w o = record {
    tube = tube_set u c r n.tube (interval_within r (cell t c) w o (interval_at t c l (tube t h).each));
    inside = inside_set u t c r n.inside w;
  }
