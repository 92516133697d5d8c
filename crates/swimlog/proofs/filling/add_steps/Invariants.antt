use Rattle.swimlog.specs.Fillings.{axis_steps, Grown}
use Rattle.swimlog.proofs.filling.add_steps.Given as goal

abbrev pub invariant-loop-slice : goal.invariant-loop-slice
invariant-loop-slice l = Grown (axis_steps l.sizes.gates l.axis l.slice) l.initial.net l.net
