use Rattle.std.proofs.Common.{◌+◌, [], ◌∷◌, arith}
use Rattle.swimlog.specs.Fillings.{said_of, axis_steps}
use Rattle.swimlog.proofs.Fillings.{grown_count, grown_more, grown_as, axis_steps_count, steps_more}
use Rattle.swimlog.proofs.filling.add_steps.Goals as goal

pub add-requires : goal.add-requires
add-requires c =
    let so_far = axis_steps c.args.sizes.gates c.args.axis c.loop-slice.slice in
    omega (arith, grown_count so_far c.args.net.now c.loop-slice.net c.loop-slice.invariant, axis_steps_count c.args.sizes.gates c.args.axis c.loop-slice.slice)

pub loop-slice-preserved : goal.loop-slice-preserved
loop-slice-preserved c =
    let gates = c.args.sizes.gates in
    let axis = c.args.axis in
    let slice = c.loop-slice.slice in
    let k = c.slice_step.result in
    grown_as _ (axis_steps gates axis (slice + 1)) c.args.net.now c.add.new.net (steps_more gates axis slice k c.slice_step.ensures)
    (grown_more (axis_steps gates axis slice) (said_of k ∷ []) c.args.net.now c.loop-slice.net c.add.new.net c.loop-slice.invariant c.add.ensures)
