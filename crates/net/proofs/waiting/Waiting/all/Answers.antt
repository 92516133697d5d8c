use Rattle.std.proofs.Common.{◌≡◌, true, false, ap, replicate, subst, ◌∙◌, arith}
use Rattle.net.proofs.Rings.{Own, own_none, own_more, front, filled, filled_queue, filled_queued}
use Rattle.net.proofs.waiting.Waiting.all.Goals as goal

pub loop-i-init : goal.loop-i-init
loop-i-init c = own_none _

pub loop-i-preserved : goal.loop-i-preserved
loop-i-preserved c = own_more _ _ (omega arith) c.loop-i.invariant

pub invariant_of-result : goal.invariant_of-result
invariant_of-result c =
    let n = c.args.count in
    let sized = c.loop-i.auto.place-items ∙ front 0 n c.requires in
    let over : c.loop-i.i ≡ n = omega (arith, sized) in
    let full = c.fill.ensures.after (λ y e. e) ∙ ap (λ m. replicate m true) (front false n c.requires) in
    filled_queued _ _ n c.requires (filled n c.requires c.loop-i.place-items sized (subst (Own c.loop-i.place-items) over c.loop-i.invariant) c.fill.new.self full)

pub returns : goal.returns
returns c =
    let n = c.args.count in
    let sized = c.loop-i.auto.place-items ∙ front 0 n c.requires in
    let over : c.loop-i.i ≡ n = omega (arith, sized) in
    let full = c.fill.ensures.after (λ y e. e) ∙ ap (λ m. replicate m true) (front false n c.requires) in
    filled_queue _ _ n c.requires (filled n c.requires c.loop-i.place-items sized (subst (Own c.loop-i.place-items) over c.loop-i.invariant) c.fill.new.self full)
