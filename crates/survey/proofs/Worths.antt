-- What a report is worth: a swim that obeys the log obeys its pile, so that no tube that the pile leaves has lost it. Assumes nothing.
use Rattle.std.proofs.Common.{◌≡◌, ℕ, ◌+◌, ◌<◌, true, ◌&&◌, List, [], ◌∷◌, map, length, take, replicate, ℤ, ◌+ℤ◌, ◌-ℤ◌, ◌≤ℤ◌, None, Ok, sym, refl, ap, ◌∙◌, subst, arith}
use lib.Signed.{le_z, ≤ℤ_refl}
use Rattle.std.proofs.lemmas.List.{get_or-take}
use Rattle.std.proofs.lemmas.Bool.{and_from}
use Rattle.std.specs.List.{AllByRecursion}
use Rattle.tube.proofs.Orders.{int_le_from}
use Rattle.tube.proofs.Trajectories.{lies_at, lies_length}
use Rattle.tube.specs.Tubes.{Trajectory, In, row, nowhere, cell, value_at, Lies}
use Rattle.tube.specs.declared.row.Row.{Row}
use Rattle.contractor.specs.Answers.{IsKept, emptied}
use Rattle.contractor.specs.Contractors.{Value, Fair}
use Rattle.contractor.specs.declared.answer.Fault.{Fault}
use Rattle.constraint.specs.Hulls.{square}
use Rattle.net.specs.Nets.{all_obeyed}
use Rattle.swimlog.proofs.Limits.{Limited, limited}
use Rattle.swimlog.specs.Fillings.{first_net, second_net}
use Rattle.swimlog.specs.Format.{gates_of, records_of, head_of, body_of}
use Rattle.swimlog.specs.Limits.{cells_of}
use Rattle.swimlog.specs.Logs.{record_of, log_fault, Sized}
use Rattle.swimlog.specs.Records.{Said, said_value, gate_cell, step_cell, slice_step, places, says, record_constraint}
use Rattle.swimlog.specs.declared.field.Head.{Head}
use Rattle.swimlog.specs.declared.field.Body.{Body}
use Rattle.swimlog.specs.declared.kind.Axis.{Axis}
use Rattle.swimlog.specs.declared.kind.Axis.TheVariants.{X, Y}
use Rattle.swimlog.specs.declared.kind.Kind.{Kind}
use Rattle.swimlog.specs.declared.kind.Kind.TheVariants.{Position, Step, Distance}
use Rattle.swimlog.specs.declared.sizes.Sizes.{Sizes}
use Rattle.survey.specs.Surveys.{said_part, pile, widest, first_tube, surveyed, Reported, Surveyed}
use Rattle.survey.specs.Swims.{Swim, Agrees, Obeys, Worth}
use Rattle.swimlog.specs.declared.report.Report.{Report}
use Rattle.swimlog.specs.declared.report.Report.TheVariants.{Kept, Empty, Refused}
use Rattle.survey.proofs.AllSaid.{all_first, all_second}
use Rattle.survey.proofs.FirstTubes.{all_near}
use Rattle.survey.proofs.Known.{what_is_known}
use Rattle.survey.proofs.Paths.{path, path_length, position_at, step_at, all_path}

-- ---- what was said, of a trajectory

Obeyed : Trajectory → Said → Type 0
Obeyed p s = (said_value s).relation p ≡ true

between : (low high v w : ℤ) → w ≡ v → In (row low high) v → (le_z low w && le_z w high) ≡ true
between low high v w same h = subst (λ x. (le_z low x && le_z x high) ≡ true) (sym same) (and_from _ _ (int_le_from low v h.above) (int_le_from v high h.below))

equal_from : (a b : ℤ) → a ≡ b → (le_z a b && le_z b a) ≡ true
equal_from a b same = and_from _ _ (int_le_from a b (subst (λ x. a ≤ℤ x) same (≤ℤ_refl a))) (int_le_from b a (subst (λ x. x ≤ℤ a) same (≤ℤ_refl a)))

obeyed_all : (p : Trajectory) (saids : List Said) → AllByRecursion (Obeyed p) saids → all_obeyed (map said_part saids) p ≡ true
unfolding Obeyed
obeyed_all p [] h = refl
obeyed_all p (s ∷ ss) h = and_from _ _ h.0 (obeyed_all p ss h.1)

module _ (gates : ℕ) (s : Swim) where
  -- each position is the one before plus its step
  step_obeyed : (axis : Axis) (slice : ℕ) → slice + 1 < gates → s.position axis (slice + 1) ≡ s.position axis slice +ℤ s.step axis slice → Obeyed (path gates s) (slice_step gates axis slice)
  unfolding Obeyed
  step_obeyed axis slice h joined =
      equal_from (value_at (path gates s) (gate_cell gates axis (slice + 1))) (value_at (path gates s) (gate_cell gates axis slice) +ℤ value_at (path gates s) (step_cell gates axis slice))
      (position_at gates s axis (slice + 1) h ∙ joined ∙ ap (λ v. v +ℤ s.step axis slice) (sym (position_at gates s axis slice (omega arith))) ∙ ap (λ v. value_at (path gates s) (gate_cell gates axis slice) +ℤ v) (sym (step_at gates s axis slice h)))

  -- what a record says, where the swim agrees with it
  says_obeyed : (number : ℕ) (h : Head) (b : Body) (kind : Kind) → h.p < places gates kind → Agrees s kind h b → Obeyed (path gates s) (says gates number kind h b)
  unfolding Obeyed
  says_obeyed number h b (Position axis) placed agrees = between b.b0 b.b1 (s.position axis h.p) (value_at (path gates s) (gate_cell gates axis h.p)) (position_at gates s axis h.p placed) agrees
  says_obeyed number h b (Step axis) placed agrees = between b.b0 b.b1 (s.step axis h.p) (value_at (path gates s) (step_cell gates axis h.p)) (step_at gates s axis h.p (omega arith)) agrees
  says_obeyed number h b Distance placed agrees =
      between (square b.b2) (square b.b3) (square (s.position X h.p -ℤ b.b0) +ℤ square (s.position Y h.p -ℤ b.b1))
      (square (value_at (path gates s) (gate_cell gates X h.p) -ℤ b.b0) +ℤ square (value_at (path gates s) (gate_cell gates Y h.p) -ℤ b.b1))
      (ap (λ v. square (v -ℤ b.b0) +ℤ square (value_at (path gates s) (gate_cell gates Y h.p) -ℤ b.b1)) (position_at gates s X h.p placed) ∙ ap (λ v. square (s.position X h.p -ℤ b.b0) +ℤ square (v -ℤ b.b1)) (position_at gates s Y h.p placed)) agrees

pub gate_cell_within : (gates : ℕ) (axis : Axis) (gate : ℕ) → gate < gates → gate_cell gates axis gate < cells_of gates
gate_cell_within gates X gate h = omega arith
gate_cell_within gates Y gate h = omega arith

-- ---- a swim that obeys a log

module _ (bytes : List ℕ) (small : Limited (gates_of bytes) (records_of bytes)) (s : Swim) (obeys : Obeys bytes s) where
  record_obeyed : (j : ℕ) → j < records_of bytes → (said : Said) → record_of bytes (gates_of bytes) (records_of bytes) j ≡ Ok said → Obeyed (path (gates_of bytes) s) said
  record_obeyed j below said ok =
      let number = record_constraint (gates_of bytes) j in
      let h = head_of bytes j in
      let b = body_of bytes (records_of bytes) j in
      let k = what_is_known (gates_of bytes) number h b said ok in
      subst (Obeyed (path (gates_of bytes) s)) (sym k.is) (says_obeyed (gates_of bytes) s number h b k.kind k.placed (obeys.recorded j below k.kind k.known))

  pile_obeyed : (pile bytes).relation (path (gates_of bytes) s) ≡ true
  unfolding pile
  pile_obeyed =
      let of_step : (axis : Axis) (slice : ℕ) → slice + 1 < gates_of bytes → Obeyed (path (gates_of bytes) s) (slice_step (gates_of bytes) axis slice) = λ axis slice h. step_obeyed (gates_of bytes) s axis slice h (obeys.joined axis slice h) in
      and_from _ _ (obeyed_all (path (gates_of bytes) s) (first_net bytes) (all_first bytes small.some (Obeyed (path (gates_of bytes) s)) of_step record_obeyed))
      (obeyed_all (path (gates_of bytes) s) (second_net bytes) (all_second bytes small.some (Obeyed (path (gates_of bytes) s)) of_step record_obeyed))

  pub path_lies : Lies (first_tube (gates_of bytes)) (path (gates_of bytes) s)
  path_lies = subst (λ n. Lies (replicate n widest) (path (gates_of bytes) s)) (path_length (gates_of bytes) s small.some) (all_near (path (gates_of bytes) s) (all_path (gates_of bytes) s (In widest) obeys.near obeys.near_steps))

  module _ (v : Value) (same : v ≡ pile bytes) (fair : Fair v (first_tube (gates_of bytes)) (v.narrowed (first_tube (gates_of bytes)))) where
    stays : Lies (v.narrowed (first_tube (gates_of bytes))).tube (path (gates_of bytes) s) × IsKept (v.narrowed (first_tube (gates_of bytes))).answer.verdict
    stays = fair.loses_none (path (gates_of bytes) s) path_lies (ap (λ x. x.relation (path (gates_of bytes) s)) same ∙ pile_obeyed)

    -- it is not said that there is none
    pub not_empty : (fault : Fault) (calls : ℕ) → (v.narrowed (first_tube (gates_of bytes))).answer ≡ emptied fault calls → ⊥
    not_empty fault calls empty = subst (λ a. IsKept a.verdict) empty stays.1

    -- and its positions lie in the rows that are printed
    pub held : (table : List Row) → take (cells_of (gates_of bytes)) table ≡ (v.narrowed (first_tube (gates_of bytes))).tube → (axis : Axis) (gate : ℕ) → gate < gates_of bytes → In (cell table (gate_cell (gates_of bytes) axis gate)) (s.position axis gate)
    held table part axis gate h =
        let c = gate_cell (gates_of bytes) axis gate in
        let p = path (gates_of bytes) s in
        let t = (v.narrowed (first_tube (gates_of bytes))).tube in
        let small_cell = gate_cell_within (gates_of bytes) axis gate h in
        let within : c < length t = omega (arith, lies_length t p stays.0, path_length (gates_of bytes) s small.some) in
        let here : cell t c ≡ cell table c = ap (λ u. cell u c) (sym part) ∙ get_or-take (cells_of (gates_of bytes)) table c nowhere small_cell in
        subst (λ x. In (cell table c) x) (position_at (gates_of bytes) s axis gate h) (subst (λ r. In r (value_at p c)) here (lies_at t p c within stays.0))

-- ---- the whole report

module _ (bytes : List ℕ) (sizes : Sizes) (sound : log_fault bytes ≡ None) (sized : Sized bytes sizes) where
  pub small_log : Limited (gates_of bytes) (records_of bytes)
  small_log = subst (λ g. Limited g (records_of bytes)) sized.same_gates (subst (Limited sizes.gates) sized.same_records (limited sizes.gates sizes.records sizes.limited))

  module _ (v : Value) (same : v ≡ pile bytes) where
    as_surveyed : v.narrowed (first_tube sizes.gates) ≡ surveyed bytes
    unfolding surveyed
    as_surveyed = ap (λ g. v.narrowed (first_tube g)) sized.same_gates ∙ ap (λ x. x.narrowed (first_tube (gates_of bytes))) same

    pub surveyed_by : (r : Report) → Reported v sizes r → Surveyed bytes r
    surveyed_by (Kept calls mark told tube) h = (sound, subst (Sized bytes) (sym h.0) sized, ap (λ u. u.answer) (sym as_surveyed) ∙ h.1, ap (λ z. take (cells_of z.gates) tube) h.0 ∙ h.2 ∙ ap (λ u. u.tube) as_surveyed)
    surveyed_by (Empty fault calls) h = (sound, ap (λ u. u.answer) (sym as_surveyed) ∙ h)
    surveyed_by (Refused e) h = absurd h

    pub worth_by : (r : Report) → Reported v sizes r → Fair v (first_tube sizes.gates) (v.narrowed (first_tube sizes.gates)) → Worth bytes r
    worth_by (Kept calls mark told tube) h fair =
        λ s obeys. held bytes small_log s obeys v same (subst (λ g. Fair v (first_tube g) (v.narrowed (first_tube g))) sized.same_gates fair) tube
        (subst (λ g. take (cells_of g) tube ≡ (v.narrowed (first_tube g)).tube) sized.same_gates h.2)
    worth_by (Empty fault calls) h fair =
        λ s obeys. not_empty bytes small_log s obeys v same (subst (λ g. Fair v (first_tube g) (v.narrowed (first_tube g))) sized.same_gates fair) fault calls
        (subst (λ g. (v.narrowed (first_tube g)).answer ≡ emptied fault calls) sized.same_gates h)
    worth_by (Refused e) h fair = absurd h
