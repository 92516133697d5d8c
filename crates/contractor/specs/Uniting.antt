-- A union keeps the meaning where its parts do. Assumes nothing.
use Rattle.std.specs.Prelude.{◌≡◌, ℕ, ◌+◌, List, length}
use Rattle.std.proofs.Common.{sym, ◌∙◌, ⊎_elim, arith}
use Rattle.std.proofs.lemmas.Bool.{or_cases, or_parts}
use Rattle.tube.specs.declared.row.Row.{Row}
use Rattle.tube.proofs.Insides.{inside_same, inside_length}
use Rattle.tube.proofs.Trajectories.{lies_wider}
use Rattle.contractor.specs.Answers.{Placed}
use Rattle.contractor.specs.Contractors.{Value, Fair, Keeps}
use Rattle.contractor.specs.Layers.{passed_up, leaving}
use Rattle.contractor.specs.Unions.{either_digit, named_fault, hulls, united_by, either}
use Rattle.contractor.specs.declared.answer.Fault.{Fault}
use Rattle.contractor.specs.declared.answer.Verdict.{Verdict}
use Rattle.contractor.specs.declared.answer.Verdict.TheVariants.{Kept, Empty}
use Rattle.contractor.specs.Accepting.{accepted_facts}
use Rattle.contractor.specs.Hulls.{inside_hulls, first_inside, second_inside, hulls_tube}
use Rattle.contractor.specs.Layering.{passed_placed, Pair, over_two_keeps}

-- whichever side's fault is passed up, what holds of both holds of it
named_either : (P : Fault → Type 0) (first second : Fault) → P first → P second → P (named_fault first second)
named_either P first second h k = h

united_fair : (v w : Value) (t : List Row) → Pair v w (either v w) t → (x y : Verdict) (a b : ℕ) (first second : List Row) → Fair v t (leaving (record { verdict = x; calls = a }) first) → Fair w t (leaving (record { verdict = y; calls = b }) second) → Fair (either v w) t (united_by x y (a + b) t first second)
united_fair v w t parts (Kept mark) (Kept other) a b first second f g =
    let same : length first ≡ length second = inside_length first t f.inside ∙ sym (inside_length second t g.inside) in
    record {
      tube = hulls_tube first second same f.tube g.tube;
      inside = inside_hulls first second t f.inside g.inside;
      loses_none = λ p l r. (⊎_elim (λ e. lies_wider first (hulls first second) p (first_inside first second same) (f.loses_none p l e).0) (λ e. lies_wider second (hulls first second) p (second_inside first second same) (g.loses_none p l e).0) (or_cases (v.relation p) (w.relation p) r), tt);
      decides = λ p one r. f.decides p one (or_parts (v.relation p) (w.relation p) r).0;
      calls = omega (arith, f.calls, g.calls, parts.calls);
      placed = tt;
    }
united_fair v w t parts (Kept mark) (Empty fault) a b first second f g = record {
  tube = f.tube;
  inside = f.inside;
  loses_none = λ p l r. (⊎_elim (λ e. (f.loses_none p l e).0) (λ e. absurd (g.loses_none p l e).1) (or_cases (v.relation p) (w.relation p) r), tt);
  decides = λ p one r. f.decides p one (or_parts (v.relation p) (w.relation p) r).0;
  calls = omega (arith, f.calls, g.calls, parts.calls);
  placed = tt;
}
united_fair v w t parts (Empty fault) (Kept mark) a b first second f g = record {
  tube = g.tube;
  inside = g.inside;
  loses_none = λ p l r. (⊎_elim (λ e. absurd (f.loses_none p l e).1) (λ e. (g.loses_none p l e).0) (or_cases (v.relation p) (w.relation p) r), tt);
  decides = λ p one r. g.decides p one (or_parts (v.relation p) (w.relation p) r).1;
  calls = omega (arith, f.calls, g.calls, parts.calls);
  placed = tt;
}
united_fair v w t parts (Empty fault) (Empty other) a b first second f g = record {
  tube = (accepted_facts v t parts.first).tube;
  inside = inside_same t;
  loses_none = λ p l r. absurd (⊎_elim (λ e. (f.loses_none p l e).1) (λ e. (g.loses_none p l e).1) (or_cases (v.relation p) (w.relation p) r));
  decides = λ p one r. tt;
  calls = omega (arith, f.calls, g.calls, parts.calls);
  placed =
      named_either (λ e. Placed (either v w).height (length t) (Empty (passed_up either_digit e))) fault other
      (passed_placed either_digit _ _ (length t) fault (omega arith) parts.first_lower f.placed)
      (passed_placed either_digit _ _ (length t) other (omega arith) parts.second_lower g.placed);
}

pub either_keeps : (v w : Value) → Keeps v → Keeps w → Keeps (either v w)
either_keeps v w k l =
    over_two_keeps v w _ _ k l (λ t parts.
    united_fair v w t parts (v.narrowed t).answer.verdict (w.narrowed t).answer.verdict _ _ (v.narrowed t).tube (w.narrowed t).tube (k.fair t parts.first) (l.fair t parts.second))
