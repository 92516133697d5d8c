use Rattle.std.proofs.Common.{get_or, ◌-◌}
use Rattle.std.specs.Prelude.{None}
use Rattle.net.proofs.Waking.{Waking}
use Rattle.net.proofs.chains.Chains.wake.Given as goal

abbrev pub invariant-loop-next : goal.invariant-loop-next
invariant-loop-next l = Waking l.self (get_or l.fn.narrower 0 None) (get_or l.fn.narrower 1 None) (get_or l.fn.narrower 2 None) l.initial.waiting l.waiting l.first l.second l.third l.next

abbrev pub decreases-loop-next : goal.decreases-loop-next
decreases-loop-next l = l.end - l.next
