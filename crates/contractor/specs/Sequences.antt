-- One use after another. Assumes nothing.
use Rattle.std.specs.Prelude.{◌≡◌, ℕ, ◌≤◌, Bool, true, false, List, length}
use Rattle.std.proofs.Common.{subst}
use Rattle.tube.specs.Tubes.{Trajectory, is_tube, Lies, Inside, single}
use Rattle.tube.specs.declared.row.Row.{Row}
use Rattle.tube.proofs.Insides.{inside_trans, inside_length}
use Rattle.contractor.specs.Answers.{IsKept, IsEmpty, Placed}
use Rattle.contractor.specs.Contractors.{Value, Narrowed, Fair}

-- what is owed of one use, but that it decides on a tube of one trajectory: for uses that are only a part of the whole
pub record Sound (relation : Trajectory → Bool) (height ceiling : ℕ) (t : List Row) (u : Narrowed) : Type 0 where
  pub tube : is_tube u.tube ≡ true
  pub inside : Inside u.tube t
  pub loses_none : (p : Trajectory) → Lies t p → relation p ≡ true → Lies u.tube p × IsKept u.answer.verdict
  pub calls : u.answer.calls ≤ ceiling
  pub placed : Placed height (length t) u.answer.verdict

-- what is sound on the tube that an earlier use left is sound on the tube that the earlier use was on
pub sound_after : (relation : Trajectory → Bool) (height ceiling : ℕ) (t between : List Row) (u : Narrowed) → Inside between t → ((p : Trajectory) → Lies t p → relation p ≡ true → Lies between p) → Sound relation height ceiling between u → Sound relation height ceiling t u
sound_after relation height ceiling t between u inside holds s = record {
  tube = s.tube;
  inside = inside_trans u.tube between t s.inside inside;
  loses_none = λ p l r. s.loses_none p (holds p l r) r;
  calls = s.calls;
  placed = subst (λ n. Placed height n u.answer.verdict) (inside_length between t inside) s.placed;
}

pub fair_from : (v : Value) (t : List Row) (u : Narrowed) → Sound v.relation v.height v.ceiling t u → ((p : Trajectory) → t ≡ single p → v.relation p ≡ false → IsEmpty u.answer.verdict) → Fair v t u
fair_from v t u s decides = record { tube = s.tube; inside = s.inside; loses_none = s.loses_none; decides = decides; calls = s.calls; placed = s.placed }
