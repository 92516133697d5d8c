use Rattle.std.proofs.Common.{◌≡◌, ◌+◌, [], sym, refl, ap, ap₂, ◌∙◌, subst, arith}
use Rattle.std.specs.List.{AllByRecursion}
use Rattle.contractor.specs.Answers.{kept, emptied}
use Rattle.contractor.specs.Layers.{leaving}
use Rattle.net.specs.Links.{InTable}
use Rattle.net.specs.Running.{running_start, running_settled, running_over, first_accepted, running_more, running_empty, short_path, joined_after}
use Rattle.net.specs.Slots.{three_slots, narrower_in}
use Rattle.net.proofs.run.run.Goals as goal

pub loop-calls-init : goal.loop-calls-init
loop-calls-init c = running_start c.args.records.now c.args.allowance c.args.tube.now _ c.all-waiting.ensures c.requires.tube c.requires.need

pub use_on-used-requires : goal.use_on-used-requires
use_on-used-requires c = first_accepted _ _ _ _ _ _ c.loop-calls.invariant _ _ c.in-Some.ensures _ c.index-records-position.is

pub wake-requires : goal.wake-requires
wake-requires c = subst (AllByRecursion InTable) (sym c.use_on-used.ensures.narrower) (narrower_in _ _ _ (three_slots c.index-records-position.result))

pub loop-calls-preserved : goal.loop-calls-preserved
loop-calls-preserved c =
    let k = c.index-records-position.result in
    let joined = c.wake.ensures ∙ joined_after c.args.records.now c.of-chains.result c.take_first.new.self k c.loop-calls.tube c.use_on-used.new.tube c.use_on-used.result c.of-chains.ensures c.use_on-used.ensures in
    running_more _ _ _ _ _ _ c.loop-calls.invariant _ _ c.in-Some.ensures k c.index-records-position.is (omega arith) c.use_on-used.new.tube c.use_on-used.result c.use_on-used.ensures _ _ c.in-Kept.is joined

pub returns-in-Empty : goal.returns-in-Empty
returns-in-Empty c =
    let k = c.index-records-position.result in
    let short = short_path _ _ _ _ _ _ c.loop-calls.invariant _ _ c.in-Some.ensures k c.index-records-position.is (omega arith) c.use_on-used.new.tube c.use_on-used.result c.use_on-used.ensures c.in-Empty.fault c.in-Empty.is in
    ap (λ a. leaving a c.use_on-used.new.tube) (c.empty.ensures ∙ ap (λ f. emptied f (c.loop-calls.calls + 1)) (c.passed_up.ensures.room (omega arith)))
    ∙ running_empty _ _ _ _ _ _ c.loop-calls.invariant _ _ c.in-Some.ensures k c.index-records-position.is (omega arith) c.use_on-used.new.tube c.use_on-used.result c.use_on-used.ensures c.in-Empty.fault c.in-Empty.is

pub returns-in_default : goal.returns-in_default
returns-in_default c =
    ap (λ a. leaving a c.loop-calls.tube) c.kept.ensures
    ∙ running_settled _ _ _ _ _ _ c.loop-calls.invariant [] c.in_default.ensures.0 refl

pub returns : goal.returns
returns c =
    let tube = c.loop-calls.tube in
    let at_end : c.args.allowance ≡ c.loop-calls.calls = omega (arith, c.loop-calls.invariant.within, c.loop-calls-test.false) in
    ap (λ a. leaving a tube) (c.kept-2.ensures ∙ ap₂ kept c.mark.ensures at_end)
    ∙ running_over _ _ _ _ _ _ c.loop-calls.invariant c.loop-calls-test.false
