-- A composition keeps the meaning where its parts do. Assumes nothing.
use Rattle.std.specs.Prelude.{◌≡◌, ℕ, ◌+◌, true, List, length, refl}
use Rattle.std.proofs.Common.{sym, subst, ⊎_elim, arith}
use Rattle.std.proofs.lemmas.Bool.{and_parts, cases_Bool}
use Rattle.tube.specs.Tubes.{Trajectory, Lies, Inside, single}
use Rattle.tube.specs.declared.row.Row.{Row}
use Rattle.tube.proofs.Trajectories.{in_single}
use Rattle.contractor.specs.Answers.{IsKept, IsEmpty, Placed, kept, emptied}
use Rattle.contractor.specs.Contractors.{Value, Fair, Keeps}
use Rattle.contractor.specs.Layers.{leaving}
use Rattle.contractor.specs.Compositions.{first_digit, second_digit, second_answer, after_first, both}
use Rattle.contractor.specs.declared.answer.Fault.{Fault}
use Rattle.contractor.specs.declared.answer.Mark.{Mark}
use Rattle.contractor.specs.declared.answer.Verdict.{Verdict}
use Rattle.contractor.specs.declared.answer.Verdict.TheVariants.{Kept, Empty}
use Rattle.contractor.specs.Accepting.{accepted_inside}
use Rattle.contractor.specs.Layering.{passed_placed, Pair, over_two_keeps}
use Rattle.contractor.specs.Sequences.{sound_after, fair_from}
use Rattle.contractor.specs.Singles.{single_left}

-- a kept verdict of a part on the tube of one trajectory: the trajectory is in its relation, and all is left as it was
obeyed : (v : Value) (t : List Row) (p : Trajectory) (mark : Mark) (calls : ℕ) (u : List Row) → t ≡ single p → Fair v t (leaving (kept mark calls) u) → (v.relation p ≡ true) × (u ≡ single p)
obeyed v t p mark calls u one f =
    let in' : v.relation p ≡ true = ⊎_elim (λ e. e) (λ e. absurd (f.decides p one e)) (cases_Bool (v.relation p)) in
    (in', single_left u p (subst (Inside u) one f.inside) (f.loses_none p (subst (λ s. Lies s p) (sym one) (in_single p)) in').0)

second_kept : (mark : Mark) (x : Verdict) (calls : ℕ) → IsKept x → IsKept (second_answer mark x calls).verdict
second_kept mark (Kept other) calls h = tt
second_kept mark (Empty fault) calls h = h

second_empty : (mark : Mark) (x : Verdict) (calls : ℕ) → IsEmpty x → IsEmpty (second_answer mark x calls).verdict
second_empty mark (Kept other) calls h = h
second_empty mark (Empty fault) calls h = tt

second_calls : (mark : Mark) (x : Verdict) (calls : ℕ) → (second_answer mark x calls).calls ≡ calls
second_calls mark (Kept other) calls = refl
second_calls mark (Empty fault) calls = refl

module _ (v w : Value) (t : List Row) (parts : Pair v w (both v w) t) where
  after_empty : (fault : Fault) (calls : ℕ) (u : List Row) → Fair v t (leaving (emptied fault calls) u) → Fair (both v w) t (after_first w (Empty fault) calls u)
  after_empty fault calls u f = record {
    tube = f.tube;
    inside = f.inside;
    loses_none = λ p l r. absurd (f.loses_none p l (and_parts _ _ r).0).1;
    decides = λ p one r. tt;
    calls = omega (arith, f.calls, parts.calls);
    placed = passed_placed first_digit _ _ (length t) fault (omega arith) parts.first_lower f.placed;
  }

  second_placed : (mark : Mark) (x : Verdict) (calls n : ℕ) → Placed w.height n x → Placed (both v w).height n (second_answer mark x calls).verdict
  second_placed mark (Kept other) calls n h = tt
  second_placed mark (Empty fault) calls n h = passed_placed second_digit _ _ n fault (omega arith) parts.second_lower h

  after_kept : (mark : Mark) (calls : ℕ) (u : List Row) → Fair v t (leaving (kept mark calls) u) → Fair w u (w.narrowed u) → Fair (both v w) t (after_first w (Kept mark) calls u)
  after_kept mark calls u f g =
      let x : Verdict = (w.narrowed u).answer.verdict in
      let sum : ℕ = calls + (w.narrowed u).answer.calls in
      let holds : (p : Trajectory) → Lies t p → (both v w).relation p ≡ true → Lies u p = λ p l r. (f.loses_none p l (and_parts _ _ r).0).0 in
      fair_from (both v w) t (after_first w (Kept mark) calls u)
      (sound_after (both v w).relation (both v w).height (both v w).ceiling t u (after_first w (Kept mark) calls u) f.inside holds (record {
        tube = g.tube;
        inside = g.inside;
        loses_none = λ p l r. let b = g.loses_none p l (and_parts (v.relation p) _ r).1 in (b.0, second_kept mark x sum b.1);
        calls = omega (arith, f.calls, g.calls, parts.calls, second_calls mark x sum);
        placed = second_placed mark x sum (length u) g.placed;
      }))
      (λ p one r. let o = obeyed v t p mark calls u one f in second_empty mark x sum (g.decides p o.1 (grind (arith, o.0, r))))

  composed_fair : (x : Verdict) (calls : ℕ) (u : List Row) → Keeps w → Fair v t (leaving (record { verdict = x; calls = calls }) u) → Fair (both v w) t (after_first w x calls u)
  composed_fair (Empty fault) calls u l f = after_empty fault calls u f
  composed_fair (Kept mark) calls u l f = after_kept mark calls u f (l.fair u (accepted_inside w t u parts.second f.tube f.inside))

pub both_keeps : (v w : Value) → Keeps v → Keeps w → Keeps (both v w)
both_keeps v w k l = over_two_keeps v w _ _ k l (λ t parts. composed_fair v w t parts (v.narrowed t).answer.verdict (v.narrowed t).answer.calls (v.narrowed t).tube l (k.fair t parts.first))
