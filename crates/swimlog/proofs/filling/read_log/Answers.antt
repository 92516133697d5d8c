use Rattle.std.proofs.Common.{◌≡◌, ◌-◌, List, [], ◌++◌, map, length, sym, ap, ap₂, ◌∙◌, subst, arith}
use Rattle.swimlog.specs.Fillings.{said_of, sayings, axis_steps, all_steps, to_first, to_second, added, first_net, second_net}
use Rattle.swimlog.specs.Logs.{Sized}
use Rattle.swimlog.specs.Records.{Said}
use Rattle.swimlog.specs.declared.kind.Axis.TheVariants.{X, Y}
use Rattle.swimlog.proofs.Fillings.{grown_count, axis_steps_count, added_same}
use Rattle.swimlog.proofs.Limits.{limited}
use Rattle.swimlog.proofs.filling.read_log.Goals as goal

pub add_steps-requires-2 : goal.add_steps-requires-2
add_steps-requires-2 c =
    let sizes = c.sizes-sizes.result in
    let gates = sizes.gates in
    let small = limited gates sizes.records sizes.limited in
    omega (arith, ap length c.clear.ensures.records, grown_count (axis_steps gates X (gates - 1)) c.clear.new.self c.add_steps.new.net c.add_steps.ensures, axis_steps_count gates X (gates - 1))

pub add_records-requires-clause-one : goal.add_records-requires-clause-one
add_records-requires-clause-one c =
    let sizes = c.sizes-sizes.result in
    let gates = sizes.gates in
    let small = limited gates sizes.records sizes.limited in
    let same = ap (λ s. s.records) c.sizes-sizes.ensures in
    omega (
      arith,
      ap length c.clear.ensures.records,
      grown_count (axis_steps gates X (gates - 1)) c.clear.new.self c.add_steps.new.net c.add_steps.ensures,
      axis_steps_count gates X (gates - 1),
      grown_count (axis_steps gates Y (gates - 1)) c.add_steps.new.net c.add_steps-2.new.net c.add_steps-2.ensures,
      axis_steps_count gates Y (gates - 1),
    )

pub returns : goal.returns
unfolding first_net second_net
returns c =
    let log = c.in_ok-log.log in
    let h = c.in_ok-log.ensures in
    let bytes = c.args.bytes.now in
    let sizes = c.sizes-sizes.result in
    let sized : Sized bytes sizes = subst (Sized bytes) (sym c.sizes-sizes.ensures) (subst (λ b. Sized b log.sizes) h.0 log.sized) in
    let x = axis_steps sizes.gates X (sizes.gates - 1) in
    let y = axis_steps sizes.gates Y (sizes.gates - 1) in
    let bounds = added to_first log.bytes.now log.sizes.gates log.sizes.records log.sizes.records in
    let ranges = added to_second log.bytes.now log.sizes.gates log.sizes.records log.sizes.records in
    let none : ◌≡◌ {A = List Said} (sayings c.clear.new.self) [] = ap (map said_of) c.clear.ensures.records in
    let none_two : ◌≡◌ {A = List Said} (sayings c.clear-2.new.self) [] = ap (map said_of) c.clear-2.ensures.records in
    let steps : sayings c.add_steps-2.new.net ≡ x ++ y = c.add_steps-2.ensures.says ∙ ap (λ l. l ++ y) (c.add_steps.ensures.says ∙ ap (λ l. l ++ x) none) in
    let one : sayings c.add_records.new.one ≡ (x ++ y) ++ bounds = c.add_records.ensures.one.says ∙ ap (λ l. l ++ bounds) steps in
    let two : sayings c.add_records.new.two ≡ ranges = c.add_records.ensures.two.says ∙ ap (λ l. l ++ ranges) none_two in (
      h.1,
      sized,
      record { says = one ∙ ap₂ (λ a b. a ++ b) (ap all_steps sized.same_gates) (added_same to_first log bytes h.0); rounds = cc },
      record { says = two ∙ added_same to_second log bytes h.0; rounds = cc },
    )
