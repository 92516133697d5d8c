-- What every layer's proof uses: the figures of its parts, and faults passed up. Assumes nothing.
use Rattle.std.specs.Prelude.{ℕ, suc, ◌+◌, ◌<◌, ◌≤◌, Bool, List}
use Rattle.std.proofs.Common.{pow-suc, arith}
use Rattle.std.proofs.Math.Nat.{pow-le-pow_right}
use Rattle.tube.specs.Tubes.{Trajectory}
use Rattle.tube.specs.declared.row.Row.{Row}
use Rattle.contractor.specs.Answers.{Placed}
use Rattle.contractor.specs.Contractors.{Value, Narrowed, Accepted, Fair, Keeps}
use Rattle.contractor.specs.Layers.{passed_up, over_two}
use Rattle.contractor.specs.declared.answer.Fault.{Fault}
use Rattle.contractor.specs.declared.answer.Verdict.{Verdict}
use Rattle.contractor.specs.declared.answer.Verdict.TheVariants.{Kept, Empty}
use Rattle.contractor.specs.Accepting.{accepted_facts, accepted_from}

-- a fault that is passed up has a path of one digit more
pub passed_placed : (digit part layer n : ℕ) (f : Fault) → digit < 8 → part < layer → Placed part n (Empty f) → Placed layer n (Empty (passed_up digit f))
passed_placed digit part layer n f small lower h =
    let power = pow-le-pow_right {n = 8} (omega arith) {i = suc part} {j = layer} lower in
    (omega (arith, pow-suc 8 part, h.0), h.1)

-- what is placed under a part is placed under what stands higher
pub placed_higher : (part layer n : ℕ) (x : Verdict) → part ≤ layer → Placed part n x → Placed layer n x
placed_higher part layer n (Kept mark) lower h = tt
placed_higher part layer n (Empty f) lower h =
    let power = pow-le-pow_right {n = 8} (omega arith) {i = part} {j = layer} lower in
    (omega (arith, h.0), h.1)

-- the parts of a layer over two that is not refused: they are not refused either, and nothing was capped
pub record Pair (v w layer : Value) (t : List Row) : Type 0 where
  pub first : Accepted v t
  pub second : Accepted w t
  pub first_lower : v.height < layer.height
  pub second_lower : w.height < layer.height
  pub calls : v.ceiling + w.ceiling ≤ layer.ceiling

module _ (v w : Value) (relation : Trajectory → Bool) (narrowed : List Row → Narrowed) where
  pub pair : (t : List Row) → Accepted (over_two v w relation narrowed) t → Pair v w (over_two v w relation narrowed) t
  pair t a =
      let f = accepted_facts (over_two v w relation narrowed) t a in
      record {
        first = accepted_from v t (record { tube = f.tube; need = omega arith; height = omega arith; ceiling = omega arith });
        second = accepted_from w t (record { tube = f.tube; need = omega arith; height = omega arith; ceiling = omega arith });
        first_lower = omega arith;
        second_lower = omega arith;
        calls = omega arith;
      }

  pub over_two_keeps : Keeps v → Keeps w → ((t : List Row) → Pair v w (over_two v w relation narrowed) t → Fair (over_two v w relation narrowed) t (narrowed t)) → Keeps (over_two v w relation narrowed)
  over_two_keeps k l fair = record { fair = λ t a. fair t (pair t a); need = omega arith; height = omega arith; ceiling = omega arith }
