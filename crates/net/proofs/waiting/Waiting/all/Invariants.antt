use Rattle.net.proofs.Rings.{Own}
use Rattle.net.proofs.waiting.Waiting.all.Given as goal

abbrev pub invariant-loop-i : goal.invariant-loop-i
invariant-loop-i l = Own l.place-items l.i
