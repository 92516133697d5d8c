-- One use of a record of a net. Assumes nothing.
use Rattle.std.specs.Prelude.{◌≡◌, ℕ, zero, suc, ◌<◌, ◌≤◌, true, List, [], ◌∷◌, length, get_or, slice_index_or, refl}
use Rattle.std.proofs.Common.{subst, not-suc-le-zero, le_of_suc-le-suc, arith}
use Rattle.std.specs.List.{AllByRecursion}
use Rattle.std.proofs.ByRecursion.{All-get_or}
use Rattle.std.proofs.lemmas.Bool.{and_parts}
use Rattle.tube.specs.Tubes.{Trajectory, is_tube, Lies, Inside}
use Rattle.tube.specs.declared.row.Row.{Row}
use Rattle.tube.proofs.Insides.{inside_same}
use Rattle.contractor.specs.Answers.{IsKept, Placed}
use Rattle.contractor.specs.Contractors.{Narrowed, Accepted, Fair}
use Rattle.net.specs.Nets.{Part, all_obeyed, greatest_need, at_position, Recorded}
use Rattle.contractor.specs.Accepting.{accepted_from}

pub record_accepted : (k : Part) (t : List Row) → Recorded k → is_tube t ≡ true → k.value.need ≤ length t → Accepted k.value t
record_accepted k t r tube enough =
    accepted_from k.value t (record { tube = tube; need = enough; height = omega (arith, r.height); ceiling = omega (arith, r.calls) })

pub record_fair : (k : Part) (t : List Row) → Recorded k → is_tube t ≡ true → k.value.need ≤ length t → Fair k.value t (k.value.narrowed t)
record_fair k t r tube enough = r.keeps.fair t (record_accepted k t r tube enough)

-- what one use of any record of the net keeps
pub record Used (ks : List Part) (t : List Row) (u : Narrowed) : Type 0 where
  pub tube : is_tube u.tube ≡ true
  pub inside : Inside u.tube t
  pub loses_none : (p : Trajectory) → Lies t p → all_obeyed ks p ≡ true → Lies u.tube p × IsKept u.answer.verdict
  pub placed : Placed 0 (length t) u.answer.verdict

pub used : (ks : List Part) (i : ℕ) (t : List Row) → AllByRecursion Recorded ks → is_tube t ≡ true → greatest_need ks ≤ length t → Used ks t (at_position ks i t)
used [] i t r tube enough = record { tube = tube; inside = inside_same t; loses_none = λ p l o. (l, tt); placed = tt }
used (k ∷ ks) zero t r tube enough =
    let fair = record_fair k t r.0 tube (omega arith) in
    record {
      tube = fair.tube;
      inside = fair.inside;
      loses_none = λ p l o. fair.loses_none p l (and_parts (k.value.relation p) (all_obeyed ks p) o).0;
      placed = subst (λ h. Placed h (length t) (k.value.narrowed t).answer.verdict) r.0.height fair.placed;
    }
used (k ∷ ks) (suc i) t r tube enough =
    let below = used ks i t r.1 tube (omega arith) in
    record {
      tube = below.tube;
      inside = below.inside;
      loses_none = λ p l o. below.loses_none p l (and_parts (k.value.relation p) (all_obeyed ks p) o).1;
      placed = below.placed;
    }

-- the record at a position
pub at_position_is : (ks : List Part) (i : ℕ) (t : List Row) (d : Part) → i < length ks → at_position ks i t ≡ (get_or ks i d).value.narrowed t
at_position_is [] i t d h = absurd (not-suc-le-zero h)
at_position_is (k ∷ ks) zero t d h = refl
at_position_is (k ∷ ks) (suc i) t d h = at_position_is ks i t d (le_of_suc-le-suc h)

need_at : (ks : List Part) (i : ℕ) (d : Part) → i < length ks → (get_or ks i d).value.need ≤ greatest_need ks
need_at [] i d h = absurd (not-suc-le-zero h)
need_at (k ∷ ks) zero d h = omega arith
need_at (k ∷ ks) (suc i) d h = omega (arith, need_at ks i d (le_of_suc-le-suc h))

-- a tube that is long enough for the net is so for each of its records
pub accepted_at : (ks : List Part) (i : ℕ) (d : Part) (t : List Row) → i < length ks → AllByRecursion Recorded ks → is_tube t ≡ true → greatest_need ks ≤ length t → Accepted (get_or ks i d).value t
accepted_at ks i d t l r tube enough = record_accepted (slice_index_or ks i d) t (All-get_or Recorded ks i d l r) tube (omega (arith, need_at ks i d l))
