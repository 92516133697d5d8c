use Rattle.std.proofs.Common.{◌≡◌, ◌+◌, ◌-◌, [], length, get_or, sym, refl, ap, ◌∙◌, subst, arith}
use Rattle.std.proofs.lemmas.List.{get_or-map, length-map}
use Rattle.tube.specs.Tubes.{most_cells}
use Rattle.constraint.specs.Mentions.{cell_slots}
use Rattle.net.specs.Links.{slots, Three}
use Rattle.net.specs.Slots.{three_slots}
use Rattle.net.proofs.Linking.{Linking, linking_none, linking_more, stored_slots, linking_all}
use Rattle.net.proofs.chains.Chains.of.Goals as goal

pub loop-i-init : goal.loop-i-init
loop-i-init c = linking_none (slots c.args.records.now) (length c.args.records.now) _ (sym (length-map c.args.records.now cell_slots))

pub loop-i-preserved : goal.loop-i-preserved
loop-i-preserved c =
    let records = c.args.records.now in
    let i = c.loop-i.i - 1 in
    let m = length-map records cell_slots in
    let next : c.loop-i.i ≡ i + 1 = omega arith in
    let here : get_or (slots records) i [] ≡ c.cells.result =
    get_or-map cell_slots records i c.index-records-i.result [] (omega arith) ∙ ap cell_slots (sym c.index-records-i.is) ∙ sym c.cells.ensures in
    linking_more (slots records) i c.loop-i.heads c.loop-i.mentions (subst (λ n. Linking (slots records) n c.loop-i.heads c.loop-i.mentions) next c.loop-i.invariant) (omega arith) (omega arith) c.cells.result (subst (Three most_cells) (sym c.cells.ensures) (three_slots c.index-records-i.result)) here

pub invariant_of-result : goal.invariant_of-result
invariant_of-result c = linking_all c.args.records.now _ c.loop-i.heads c.loop-i.mentions refl c.requires (subst (λ n. Linking (slots c.args.records.now) n c.loop-i.heads c.loop-i.mentions) (omega arith) c.loop-i.invariant)

pub returns : goal.returns
returns c = stored_slots c.args.records.now _ c.loop-i.heads c.loop-i.mentions refl c.requires (subst (λ n. Linking (slots c.args.records.now) n c.loop-i.heads c.loop-i.mentions) (omega arith) c.loop-i.invariant)
