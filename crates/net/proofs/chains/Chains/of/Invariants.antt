use Rattle.net.specs.Links.{slots}
use Rattle.net.proofs.Linking.{Linking}
use Rattle.net.proofs.chains.Chains.of.Given as goal

abbrev pub invariant-loop-i : goal.invariant-loop-i
invariant-loop-i l = Linking (slots l.records) l.i l.heads l.mentions
