-- The pile of a log: its value is what the log says, and it is not refused on the first tube. Assumes nothing.
use Rattle.std.proofs.Common.{◌≡◌, ℕ, ◌+◌, ◌<◌, ◌≤◌, true, List, [], ◌∷◌, map, length, None, Ok, sym, refl, ap, ◌∙◌, subst, ap₂, arith}
use Rattle.std.proofs.lemmas.List.{length-map, length-replicate}
use Rattle.std.proofs.lemmas.Bool.Decides.{nat_tests}
use Rattle.std.specs.List.{AllByRecursion}
use Rattle.tube.specs.Tubes.{is_tube}
use Rattle.tube.specs.declared.row.Row.{Row}
use Rattle.contractor.specs.Compositions.{both}
use Rattle.contractor.specs.Contractors.{Value}
use Rattle.contractor.specs.Refusals.{most_layers}
use Rattle.contractor.specs.Repetitions.{repeat}
use Rattle.constraint.specs.declared.constraint.Constraint.{Constraint}
use Rattle.constraint.specs.declared.constraint.Constraint.TheVariants.{Bound as of_bound, Step as of_step, Range as of_range}
use Rattle.net.specs.Nets.{net, greatest_need}
use Rattle.net.specs.Records.{part, parts, records, rounds_of, net_value}
use Rattle.net.specs.declared.net.Net.{Net}
use Rattle.swimlog.proofs.Limits.{Limited}
use Rattle.swimlog.specs.Fillings.{said_of, sayings, first_net, second_net, Filled}
use Rattle.swimlog.specs.Format.{gates_of, records_of, head_of, body_of}
use Rattle.swimlog.specs.Limits.{cells_of}
use Rattle.swimlog.specs.Logs.{record_of}
use Rattle.swimlog.specs.Records.{Said, said_value, slice_step, places, says, record_constraint}
use Rattle.swimlog.specs.declared.field.Head.{Head}
use Rattle.swimlog.specs.declared.field.Body.{Body}
use Rattle.swimlog.specs.declared.kind.Axis.{Axis}
use Rattle.swimlog.specs.declared.kind.Axis.TheVariants.{X, Y}
use Rattle.swimlog.specs.declared.kind.Kind.{Kind}
use Rattle.swimlog.specs.declared.kind.Kind.TheVariants.{Position, Step, Distance}
use Rattle.swimlog.specs.declared.sizes.Sizes.{Sizes}
use Rattle.survey.specs.Surveys.{net_rounds, pile_rounds, said_part, said_net, pile, widest, first_tube}
use Rattle.survey.specs.Tracks.{survey_allowance, first_refusal}
use Rattle.survey.proofs.AllSaid.{all_first, all_second, few_in_first, few_in_second}
use Rattle.survey.proofs.FirstTubes.{first_is_tube}
use Rattle.survey.proofs.Known.{what_is_known}

-- ---- its value

part_said : (k : Constraint) → part k ≡ said_part (said_of k)
part_said (of_bound k) = refl
part_said (of_step k) = refl
part_said (of_range k) = refl

parts_said : (ks : List Constraint) → parts ks ≡ map said_part (map said_of ks)
parts_said [] = refl
parts_said (k ∷ ks) = ap₂ ◌∷◌ (part_said k) (parts_said ks)

-- a net is what its records say
net_said : (n : Net) (saids : List Said) → sayings n ≡ saids → rounds_of n ≡ net_rounds → net_value n ≡ said_net saids
net_said n saids says rounds = ap₂ net (parts_said (records n) ∙ ap (map said_part) says) rounds

-- and so the pile over two nets that a log has filled is what the log says
pub pile_said : (bytes : List ℕ) (r : ℕ) (one two one' two' : Net) (sizes : Sizes) → r ≡ pile_rounds → rounds_of one ≡ net_rounds → rounds_of two ≡ net_rounds → Filled bytes one two one' two' (Ok sizes) → repeat r (both (net_value one') (net_value two')) ≡ pile bytes
unfolding pile
pile_said bytes r one two one' two' sizes rounds rounds_one rounds_two filled =
    ap₂ repeat rounds (ap₂ both (net_said one' (first_net bytes) filled.2.says (filled.2.rounds ∙ rounds_one)) (net_said two' (second_net bytes) filled.3.says (filled.3.rounds ∙ rounds_two)))

-- ---- its figures

-- what was said needs no more cells than the tube has
Fits : (gates : ℕ) → Said → Type 0
Fits gates s = (said_value s).need ≤ cells_of gates

step_fits : (gates : ℕ) (axis : Axis) (slice : ℕ) → slice + 1 < gates → Fits gates (slice_step gates axis slice)
unfolding Fits
step_fits gates X slice h = omega arith
step_fits gates Y slice h = omega arith

says_fits : (gates number : ℕ) (h : Head) (b : Body) (kind : Kind) → h.p < places gates kind → Fits gates (says gates number kind h b)
unfolding Fits
says_fits gates number h b (Position X) placed = omega arith
says_fits gates number h b (Position Y) placed = omega arith
says_fits gates number h b (Step X) placed = omega arith
says_fits gates number h b (Step Y) placed = omega arith
says_fits gates number h b Distance placed = omega arith

module _ (bytes : List ℕ) where
  record_fits : (j : ℕ) → j < records_of bytes → (s : Said) → record_of bytes (gates_of bytes) (records_of bytes) j ≡ Ok s → Fits (gates_of bytes) s
  record_fits j below s ok =
      let k = what_is_known (gates_of bytes) (record_constraint (gates_of bytes) j) (head_of bytes j) (body_of bytes (records_of bytes) j) s ok in
      subst (Fits (gates_of bytes)) (sym k.is) (says_fits (gates_of bytes) (record_constraint (gates_of bytes) j) (head_of bytes j) (body_of bytes (records_of bytes) j) k.kind k.placed)

need_fits : (gates : ℕ) (saids : List Said) → AllByRecursion (Fits gates) saids → greatest_need (map said_part saids) ≤ cells_of gates
unfolding Fits
need_fits gates [] h = omega arith
need_fits gates (s ∷ ss) h = omega (arith, h.0, need_fits gates ss h.1)

not_refused : (v : Value) (t : List Row) → is_tube t ≡ true → v.need ≤ length t → v.height ≤ most_layers → v.ceiling ≤ survey_allowance → first_refusal v t ≡ None
not_refused v t tube need height ceiling = grind (arith, nat_tests)

pub pile_accepted : (bytes : List ℕ) → Limited (gates_of bytes) (records_of bytes) → first_refusal (pile bytes) (first_tube (gates_of bytes)) ≡ None
unfolding pile
pile_accepted bytes small =
    let gates = gates_of bytes in
    let some = small.some in
    let long = length-replicate (cells_of gates) widest in
    let one = need_fits gates (first_net bytes) (all_first bytes some (Fits gates) (step_fits gates) (record_fits bytes)) in
    let two = need_fits gates (second_net bytes) (all_second bytes some (Fits gates) (step_fits gates) (record_fits bytes)) in
    let count_one = length-map (first_net bytes) said_part in
    let count_two = length-map (second_net bytes) said_part in
    let few_one = few_in_first bytes some in
    let few_two = few_in_second bytes some in
    not_refused (pile bytes) (first_tube gates) (first_is_tube gates (records_of bytes) small) (omega arith) (omega arith) (omega arith)
