-- A net of records that keep the meaning keeps it. Assumes nothing.
use Rattle.std.specs.Prelude.{◌≡◌, ℕ, ◌+◌, ◌*◌, ◌≤◌, false, List, [], ◌∷◌, length}
use Rattle.std.proofs.Common.{sym, subst, mul-le-mul, le-mul_of_pos_right, arith}
use Rattle.std.specs.List.{AllByRecursion}
use Rattle.tube.specs.Tubes.{Trajectory, most_cells, single}
use Rattle.tube.specs.declared.row.Row.{Row}
use Rattle.contractor.specs.Answers.{IsEmpty}
use Rattle.contractor.specs.Contractors.{Accepted, Fair}
use Rattle.net.specs.Nets.{Part, all_obeyed, greatest_need, positions, net, Recorded, NetsKeep}
use Rattle.contractor.specs.Accepting.{Accepts, accepted_facts}
use Rattle.net.specs.Runs.{ran, first_pass, from_start}

need_bounded : (ks : List Part) → AllByRecursion Recorded ks → greatest_need ks ≤ most_cells + 1
need_bounded [] r = omega arith
need_bounded (k ∷ ks) r = omega (arith, r.0.keeps.need, need_bounded ks r.1)

-- the first pass over the records fits into the allowance
enough_uses : (ks : List Part) (rounds : ℕ) → 1 ≤ rounds → length ks ≤ length ks * rounds
enough_uses ks rounds some = le-mul_of_pos_right (length ks) some

module _ (ks : List Part) (rounds : ℕ) (r : AllByRecursion Recorded ks) (some : 1 ≤ rounds) where
  decides : (p : Trajectory) → Accepts (net ks rounds) (single p) → all_obeyed ks p ≡ false → IsEmpty ((net ks rounds).narrowed (single p)).answer.verdict
  decides p facts disobeyed = first_pass ks ks 0 (length ks * rounds) 0 p (from_start ks) r facts.tube facts.need (enough_uses ks rounds some) disobeyed

  net_fair : (t : List Row) → Accepted (net ks rounds) t → Fair (net ks rounds) t ((net ks rounds).narrowed t)
  net_fair t a =
      let facts = accepted_facts (net ks rounds) t a in
      let run = ran ks (length ks * rounds) (positions 0 (length ks)) t 0 r facts.tube facts.need in
      record {
        tube = run.tube;
        inside = run.inside;
        loses_none = run.loses_none;
        decides = λ p one disobeyed. subst (λ s. IsEmpty ((net ks rounds).narrowed s).answer.verdict) (sym one) (decides p (subst (Accepts (net ks rounds)) one facts) disobeyed);
        calls = omega (arith, run.calls);
        placed = run.placed;
      }

pub net_keeps : NetsKeep
net_keeps ks rounds r few some low = record {
  fair = net_fair ks rounds r some;
  need = need_bounded ks r;
  height = omega arith;
  ceiling = omega (arith, mul-le-mul few low);
}
