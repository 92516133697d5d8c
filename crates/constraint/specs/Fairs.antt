-- What a constraint owes of one use, by its two answers. Assumes nothing.
use Rattle.std.specs.Prelude.{◌≡◌, ℕ, ◌<◌, ◌≤◌, Bool, true, List, length, ℤ, ◌≢◌}
use Rattle.std.proofs.Common.{arith}
use Rattle.std.proofs.lemmas.Bool.{both_ways}
use Rattle.tube.specs.Tubes.{Trajectory, is_tube, Lies, single}
use Rattle.tube.specs.declared.row.Row.{Row}
use Rattle.tube.proofs.Insides.{inside_same}
use Rattle.tube.proofs.Narrower.{Narrower}
use Rattle.contractor.specs.Contractors.{Narrowed, Fair, Keeps}
use Rattle.contractor.specs.Accepting.{accepted_facts}
use Rattle.constraint.specs.Makings.{last_cell}
use Rattle.constraint.specs.Constraints.{simple, settled, empty}

module _ (relation : List ℤ → Bool) (greatest : ℕ) (narrowed : List Row → Narrowed) (t : List Row) where
  pub fair_empty : (cause number c : ℕ) → is_tube t ≡ true → c < length t → ((p : Trajectory) → Lies t p → relation p ≢ true) → Fair (simple relation greatest narrowed) t (empty cause number c t)
  fair_empty cause number c tube within none = record {
    tube = tube;
    inside = inside_same t;
    loses_none = λ p l r. absurd (none p l r);
    decides = λ p e r. tt;
    calls = omega arith;
    placed = (omega arith, within);
  }

  pub fair_settled : (u : List Row) → Narrower t u → ((p : Trajectory) → Lies t p → relation p ≡ true → Lies u p) → ((p : Trajectory) → t ≡ single p → relation p ≡ true) → Fair (simple relation greatest narrowed) t (settled u)
  fair_settled u n holds obeys = record {
    tube = n.tube;
    inside = n.inside;
    loses_none = λ p l r. (holds p l r, tt);
    decides = λ p e r. absurd (both_ways (relation p) r (obeys p e));
    calls = omega arith;
    placed = tt;
  }

-- what a constraint owes beside its uses, once its cells are those of a tube
pub simple_keeps : (relation : List ℤ → Bool) (greatest : ℕ) (narrowed : List Row → Narrowed) → greatest ≤ last_cell → ((t : List Row) → is_tube t ≡ true → greatest < length t → Fair (simple relation greatest narrowed) t (narrowed t)) → Keeps (simple relation greatest narrowed)
simple_keeps relation greatest narrowed small fair = record {
  fair = λ t a. let w = accepted_facts (simple relation greatest narrowed) t a in fair t w.tube (omega arith);
  need = omega arith;
  height = omega arith;
  ceiling = omega arith;
}
