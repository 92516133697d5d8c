-- The run of a net in code: what is known as each turn begins, and how a turn ends. Assumes nothing.
use Rattle.std.specs.Prelude.{◌≡◌, ℕ, suc, ◌+◌, ◌-◌, ◌<◌, ◌≤◌, true, List, [], ◌∷◌, ◌++◌, map, length, get_or, slice_index_or, refl}
use Rattle.std.proofs.Common.{sym, ap, ap₂, subst, ◌∙◌, arith}
use Rattle.std.specs.List.{AllByRecursion}
use Rattle.std.proofs.lemmas.List.{length-map, get_or-map}
use Rattle.tube.specs.Tubes.{is_tube}
use Rattle.tube.specs.declared.row.Row.{Row}
use Rattle.tube.proofs.Insides.{inside_length}
use Rattle.contractor.specs.Answers.{kept, emptied, Placed}
use Rattle.contractor.specs.Contractors.{Narrowed, Accepted}
use Rattle.contractor.specs.Layers.{passed_up, leaving}
use Rattle.contractor.specs.declared.answer.Fault.{Fault}
use Rattle.contractor.specs.declared.answer.Mark.{Mark}
use Rattle.contractor.specs.declared.answer.Verdict.TheVariants.{Kept, Empty}
use Rattle.constraint.specs.Kinds.{constraint_value}
use Rattle.constraint.specs.Mentions.{cell_slots}
use Rattle.constraint.specs.declared.constraint.Constraint.{Constraint}
use Rattle.constraint.specs.declared.constraint.Constraint.TheVariants.{Bound as of_bound, Step as of_step, Range as of_range}
use Rattle.constraint.specs.Keeping.{constraint_keeps}
use Rattle.net.specs.Nets.{mentions, greatest_need, narrower, if_narrower, among, joining, positions, rest_mark, net_digit, at_position, spun, Recorded}
use Rattle.net.specs.Chains.{counted}
use Rattle.net.specs.Links.{slots}
use Rattle.net.specs.Queues.{Below}
use Rattle.net.specs.Records.{part, parts}
use Rattle.net.specs.Uses.{UseOf}
use Rattle.net.specs.declared.run.Use.{Use}
use Rattle.net.specs.Cursors.{joining_alike}
use Rattle.net.specs.QueuesLemmas.{positions_below, queue_below}
use Rattle.net.specs.Runs.{spun_kept, spun_empty, spun_settled}
use Rattle.net.specs.Slots.{joining_slots, narrower_counted}
use Rattle.net.specs.UsesLemmas.{Used, used, at_position_is, accepted_at}

-- a constraint is what a record has to be
pub constraint_recorded : (k : Constraint) → Recorded (part k)
constraint_recorded (of_bound k) = record { keeps = constraint_keeps (of_bound k); height = refl; calls = refl }
constraint_recorded (of_step k) = record { keeps = constraint_keeps (of_step k); height = refl; calls = refl }
constraint_recorded (of_range k) = record { keeps = constraint_keeps (of_range k); height = refl; calls = refl }

pub all_recorded : (ks : List Constraint) → AllByRecursion Recorded (parts ks)
all_recorded [] = tt
all_recorded (k ∷ ks) = (constraint_recorded k, all_recorded ks)

-- who waits after a use, as the chains find them
pub joined_after : (ks : List Constraint) (css : List (List ℕ)) (q : List ℕ) (k : Constraint) (t u : List Row) (r : Use) → css ≡ slots ks → UseOf k t u r → q ++ joining css 0 q (λ c. among c (counted r.narrower)) ≡ q ++ joining (mentions (parts ks)) 0 q (narrower t u)
joined_after ks css q k t u r e made =
    let same : (c : ℕ) → among c (counted (map (if_narrower t u) (cell_slots k))) ≡ narrower t u c =
    λ c. subst (λ w. among c (counted (map (if_narrower t w) (cell_slots k))) ≡ narrower t w c) (sym made.left) (narrower_counted k t c) in
    ap₂ (λ ds os. q ++ joining ds 0 q (λ c. among c (counted os))) e made.narrower
    ∙ ap (λ j. q ++ j) (joining_alike _ (narrower t u) same (slots ks) 0 q ∙ joining_slots ks 0 q (narrower t u))

-- The run began on the tube t₀ with all records waiting. Now some calls are made, q waits and t is left.
pub record Running (ks : List Constraint) (allowance : ℕ) (t₀ : List Row) (calls : ℕ) (q : List ℕ) (t : List Row) : Type 0 where
  pub rest : spun (parts ks) (allowance - calls) q t calls ≡ spun (parts ks) allowance (positions 0 (length ks)) t₀ 0
  pub within : calls ≤ allowance
  pub tube : is_tube t ≡ true
  pub enough : greatest_need (parts ks) ≤ length t
  pub below : Below (length ks) q

pub running_start : (ks : List Constraint) (allowance : ℕ) (t : List Row) (q : List ℕ) → q ≡ positions 0 (length ks) → is_tube t ≡ true → greatest_need (parts ks) ≤ length t → Running ks allowance t 0 q t
running_start ks allowance t q e tube enough =
    let all : allowance - 0 ≡ allowance = omega arith in
    record {
      rest = ap (λ n. spun (parts ks) n q t 0) all ∙ ap (λ s. spun (parts ks) allowance s t 0) e;
      within = omega arith;
      tube = tube;
      enough = enough;
      below = subst (Below (length ks)) (sym e) (positions_below 0 (length ks) (length ks) (omega arith));
    }

module _ (ks : List Constraint) (allowance : ℕ) (t₀ : List Row) (calls : ℕ) (q : List ℕ) (t : List Row) (run : Running ks allowance t₀ calls q t) where
  abbrev all : Narrowed
  all = spun (parts ks) allowance (positions 0 (length ks)) t₀ 0

  -- none waits, or no use is left
  pub running_settled : (w : List ℕ) → q ≡ [] → w ≡ [] → leaving (kept (rest_mark w) calls) t ≡ all
  running_settled w none left =
      ap (λ s. leaving (kept (rest_mark s) calls) t) left
      ∙ sym (ap (λ s. spun (parts ks) (allowance - calls) s t calls) none ∙ spun_settled (parts ks) (allowance - calls) t calls)
      ∙ run.rest

  pub running_over : allowance ≤ calls → leaving (kept (rest_mark q) calls) t ≡ all
  running_over past =
      let over : allowance - calls ≡ 0 = omega arith in
      sym (ap (λ n. spun (parts ks) n q t calls) over) ∙ run.rest

  -- the first that waits is taken off
  pub first_in : (i : ℕ) (q' : List ℕ) → q ≡ i ∷ q' → i < length ks
  first_in i q' first = (subst (Below (length ks)) first run.below).0

  module _ (i : ℕ) (q' : List ℕ) (first : q ≡ i ∷ q') (k : Constraint) (read : k ≡ slice_index_or ks i k) where
    within_list : i < length ks
    within_list = first_in i q' first

    in_parts : i < length (parts ks)
    in_parts = omega (arith, length-map ks part, within_list)

    at_part : get_or (parts ks) i (part k) ≡ part k
    at_part = get_or-map part ks i k (part k) within_list ∙ ap part (sym read)

    pub first_accepted : Accepted (constraint_value k) t
    first_accepted = subst (λ p. Accepted p.value t) at_part (accepted_at (parts ks) i (part k) t in_parts (all_recorded ks) run.tube run.enough)

    at_record : at_position (parts ks) i t ≡ (constraint_value k).narrowed t
    at_record = at_position_is (parts ks) i t (part k) in_parts ∙ ap (λ p. p.value.narrowed t) at_part

    this : Used (parts ks) t (at_position (parts ks) i t)
    this = used (parts ks) i t (all_recorded ks) run.tube run.enough

    module _ (more : calls < allowance) (u : List Row) (r : Use) (made : UseOf k t u r) where
      left_is : (at_position (parts ks) i t).tube ≡ u
      left_is = ap (λ x. x.tube) at_record ∙ sym made.left

      verdict_is : (at_position (parts ks) i t).answer.verdict ≡ r.verdict
      verdict_is = ap (λ x. x.answer.verdict) at_record ∙ sym made.verdict

      before : spun (parts ks) (suc (allowance - (calls + 1))) (i ∷ q') t calls ≡ all
      before =
          let fuel : suc (allowance - (calls + 1)) ≡ allowance - calls = omega arith in
          ap (λ n. spun (parts ks) n (i ∷ q') t calls) fuel ∙ ap (λ s. spun (parts ks) (allowance - calls) s t calls) (sym first) ∙ run.rest

      -- it is kept
      pub running_more : (m : Mark) (s : List ℕ) → r.verdict ≡ Kept m → s ≡ q' ++ joining (mentions (parts ks)) 0 q' (narrower t u) → Running ks allowance t₀ (calls + 1) s u
      running_more m s e joined =
          let ks' = parts ks in
          let turn = spun_kept ks' (allowance - (calls + 1)) i q' t calls m (verdict_is ∙ e) in
          let here : spun ks' (allowance - (calls + 1)) s u (calls + 1) ≡ spun ks' (suc (allowance - (calls + 1))) (i ∷ q') t calls =
          ap (λ w. spun ks' (allowance - (calls + 1)) w u (calls + 1)) joined
          ∙ sym (turn ∙ ap (λ w. spun ks' (allowance - (calls + 1)) (q' ++ joining (mentions ks') 0 q' (narrower t w)) w (calls + 1)) left_is) in
          record {
            rest = here ∙ before;
            within = omega arith;
            tube = subst (λ w. is_tube w ≡ true) left_is this.tube;
            enough = subst (λ w. greatest_need ks' ≤ length w) left_is (omega (arith, inside_length _ t this.inside, run.enough));
            below = subst (λ n. Below n s) (length-map ks part) (subst (Below (length ks')) (sym joined) (queue_below ks' q' (narrower t u) (subst (λ n. Below n q') (sym (length-map ks part)) (subst (Below (length ks)) first run.below).1)));
          }

      -- it is empty
      pub running_empty : (f : Fault) → r.verdict ≡ Empty f → leaving (emptied (passed_up net_digit f) (calls + 1)) u ≡ all
      running_empty f e =
          ap (leaving (emptied (passed_up net_digit f) (calls + 1))) (sym left_is)
          ∙ sym (spun_empty (parts ks) (allowance - (calls + 1)) i q' t calls f (verdict_is ∙ e))
          ∙ before

      pub short_path : (f : Fault) → r.verdict ≡ Empty f → f.path < 1
      short_path f e = (subst (Placed 0 (length t)) (verdict_is ∙ e) this.placed).0
