-- Every history keeps its promises. Assumes nothing.
use Rattle.std.proofs.Common.{◌≡◌, ℕ, ◌+◌, ◌≤◌, List, [], ◌∷◌, ◌++◌, sym, refl, ap, ◌∙◌, subst, ⊎_elim, arith}
use Rattle.std.proofs.lemmas.Bool.{cases_Bool}
use Rattle.std.specs.List.{AllByRecursion}
use Rattle.tube.specs.declared.row.Row.{Row}
use Rattle.contractor.specs.declared.answer.Verdict.{Verdict}
use Rattle.contractor.specs.declared.answer.Verdict.TheVariants.{Kept, Empty}
use Rattle.tube.specs.Tubes.{Trajectory, Lies, Inside, single}
use Rattle.tube.proofs.Insides.{inside_same, inside_trans}
use Rattle.tube.proofs.Trajectories.{in_single}
use Rattle.contractor.specs.Answers.{IsEmpty, IsKept}
use Rattle.contractor.specs.Contractors.{Keeps}
use Rattle.track.specs.Histories.{Standing, resting, proposing, emptied, State, Use, Call, refused, proposed, used, committed, withdrawn, closed, standing_after, Next, History, open_uses, committed_uses, all_uses, copied, Obeys, total_calls, Exact, HistoriesKeep}

all_join : {X : Type 0} (P : X → Type 0) (xs ys : List X) → AllByRecursion P (xs ++ ys) → AllByRecursion P xs × AllByRecursion P ys
all_join P [] ys h = (tt, h)
all_join P (x ∷ xs) ys h = let r = all_join P xs ys h.1 in ((h.0, r.0), r.1)

not_both : (v : Verdict) → IsEmpty v → IsKept v → ⊥
not_both (Kept m) e k = e
not_both (Empty f) e k = k

-- what a proposal that is open keeps
pub record Going (cs : List Call) (s : State) : Type 0 where
  pub from : copied cs ≡ s.committed
  pub inside : Inside s.work s.committed
  pub holds : (p : Trajectory) → Lies s.committed p → Obeys p (open_uses cs) → Lies s.work p

pub record Gone (cs : List Call) (s : State) : Type 0 where
  pub from : copied cs ≡ s.committed
  pub none : (p : Trajectory) → Lies s.committed p → Obeys p (open_uses cs) → ⊥

abbrev Open : Standing → List Call → State → Type 0
Open resting cs s = Unit {0}
Open proposing cs s = Going cs s
Open (emptied f) cs s = Gone cs s

pub record Inv (first : List Row) (cs : List Call) (s : State) : Type 0 where
  pub none_lost : (p : Trajectory) → Lies first p → Obeys p (committed_uses cs) → Lies s.committed p
  pub narrower : Inside s.committed first
  pub stands : Open s.standing cs s
  pub exact : (p : Trajectory) → AllByRecursion (λ u. u.on ≡ single p → Exact u p) (all_uses cs)
  pub charged : s.charged ≡ total_calls (all_uses cs)
  pub ceilings : AllByRecursion (λ u. u.answer.calls ≤ u.contractor.ceiling) (all_uses cs)
  pub paid : s.charged ≤ s.allowance

open_as : (d : Standing) (cs : List Call) (s : State) → Open s.standing cs s → s.standing ≡ d → Open d cs s
open_as d cs s o e = subst (λ x. Open x cs s) e o

open_after : (first : List Row) (cs : List Call) (s : State) (u : Use) (v : Verdict) → Going cs s → Keeps u.contractor → v ≡ u.answer.verdict → Next s (used u) (record { cells = s.cells; allowance = s.allowance; charged = s.charged + u.answer.calls; standing = standing_after u.answer.verdict; committed = s.committed; work = (u.contractor.narrowed s.work).tube }) → Open (standing_after v) (used u ∷ cs) (record { cells = s.cells; allowance = s.allowance; charged = s.charged + u.answer.calls; standing = standing_after u.answer.verdict; committed = s.committed; work = (u.contractor.narrowed s.work).tube })
open_after first cs s u (Kept m) g k e n =
    let fair = k.fair s.work n.accepted in
    record {
      from = g.from;
      inside = inside_trans (u.contractor.narrowed s.work).tube s.work s.committed fair.inside g.inside;
      holds = λ p l o. (fair.loses_none p (g.holds p l o.1) o.0).0;
    }
open_after first cs s u (Empty f) g k e n =
    let fair = k.fair s.work n.accepted in
    record {
      from = g.from;
      none = λ p l o. not_both u.answer.verdict (subst IsEmpty e tt) (subst IsKept (ap (λ a. a.verdict) (sym n.answered)) (fair.loses_none p (g.holds p l o.1) o.0).1);
    }

exact_use : (s : State) (u : Use) (t : State) → Next s (used u) t → (p : Trajectory) → u.on ≡ single p → Exact u p
exact_use s u t n p on =
    let fair = n.keeps.fair s.work n.accepted in
    let here = sym n.on ∙ on in
    let told = ap (λ a. a.verdict) n.answered in
    record {
      empties = λ e. ⊎_elim (λ yes'. absurd (not_both _ (subst IsEmpty told e) (fair.loses_none p (subst (λ w. Lies w p) (sym here) (in_single p)) yes').1)) (λ no'. no') (cases_Bool (u.contractor.relation p));
      disobeyed = λ d. subst IsEmpty (sym told) (fair.decides p here d);
    }

still : (d : Standing) (cs : List Call) (s : State) → Open d cs s → Open d (refused ∷ cs) s
still resting cs s o = tt
still proposing cs s o = record { from = o.from; inside = o.inside; holds = o.holds }
still (emptied f) cs s o = record { from = o.from; none = o.none }

under : (s : State) (u : Use) (t : State) → Next s (used u) t → u.answer.calls ≤ u.contractor.ceiling
under s u t n = subst (λ a. a.calls ≤ u.contractor.ceiling) (sym n.answered) (n.keeps.fair s.work n.accepted).calls

pub step : (first : List Row) (cs : List Call) (s : State) (c : Call) (t : State) → Inv first cs s → Next s c t → Inv first (c ∷ cs) t
step first cs s refused t i n = subst (Inv first (refused ∷ cs)) (sym n) (record { none_lost = i.none_lost; narrower = i.narrower; stands = still s.standing cs s i.stands; exact = i.exact; charged = i.charged; ceilings = i.ceilings; paid = i.paid })
step first cs s (proposed c) t i n = subst (Inv first (proposed c ∷ cs)) (sym n.3) (record {
  none_lost = i.none_lost;
  narrower = i.narrower;
  stands = record { from = n.2; inside = inside_same s.committed; holds = λ p l o. l };
  exact = i.exact;
  charged = i.charged;
  ceilings = i.ceilings;
  paid = i.paid;
})
step first cs s (used u) t i n = subst (Inv first (used u ∷ cs)) (sym n.after) (record {
  none_lost = i.none_lost;
  narrower = i.narrower;
  stands = open_after first cs s u u.answer.verdict (open_as proposing cs s i.stands n.standing) n.keeps refl (subst (Next s (used u)) n.after n);
  exact = λ p. (exact_use s u t n p, i.exact p);
  charged = omega (arith, i.charged);
  ceilings = (under s u t n, i.ceilings);
  paid = omega (arith, under s u t n, n.afforded);
})
step first cs s committed t i n =
    let g = open_as proposing cs s i.stands n.0 in
    subst (Inv first (committed ∷ cs)) (sym n.2) (record {
      none_lost = λ p l o. let r = all_join _ (open_uses cs) (committed_uses cs) o in g.holds p (i.none_lost p l r.1) r.0;
      narrower = inside_trans s.work s.committed first g.inside i.narrower;
      stands = tt;
      exact = i.exact;
      charged = i.charged;
      ceilings = i.ceilings;
      paid = i.paid;
    })
step first cs s withdrawn t i n = subst (Inv first (withdrawn ∷ cs)) (sym n.1) (record {
  none_lost = i.none_lost;
  narrower = i.narrower;
  stands = tt;
  exact = i.exact;
  charged = i.charged;
  ceilings = i.ceilings;
  paid = i.paid;
})
step first cs s closed t i n = subst (Inv first (closed ∷ cs)) (sym n.1) (record {
  none_lost = i.none_lost;
  narrower = i.narrower;
  stands = tt;
  exact = i.exact;
  charged = i.charged;
  ceilings = i.ceilings;
  paid = i.paid;
})

all : (allowance : ℕ) (first : List Row) (cs : List Call) (s : State) → History allowance first cs s → Inv first cs s
all allowance first [] s h =
    subst (Inv first []) (sym h.3.1) (record {
      none_lost = λ p l o. l;
      narrower = inside_same first;
      stands = tt;
      exact = λ p. tt;
      charged = refl;
      ceilings = tt;
      paid = omega arith;
    })
all allowance first (c ∷ cs) t h = step first cs h.0 c t (all allowance first cs h.0 h.1) h.2

pub histories_keep : (allowance : ℕ) (first : List Row) → HistoriesKeep allowance first
histories_keep allowance first cs s h =
    let i = all allowance first cs s h in
    record {
      none_lost = i.none_lost;
      narrower = i.narrower;
      truly_empty = λ f e p l o. let g = open_as (emptied f) cs s i.stands e in g.none p (subst (λ t. Lies t p) g.from l) o;
      still_committed = λ f e. sym (open_as (emptied f) cs s i.stands e).from;
      exact_on_one = i.exact;
      all_charged = i.charged;
      under_ceilings = i.ceilings;
      within_allowance = i.paid;
    }
