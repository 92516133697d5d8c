use Rattle.std.proofs.Common.{sym, ◌∙◌, arith}
use Rattle.net.proofs.Rings.{first_off, first_off_queued}
use Rattle.net.proofs.waiting.Waiting.take_first.Goals as goal

pub invariant_of-self : goal.invariant_of-self
invariant_of-self c = first_off_queued c.self.inside c.self.invariant (omega arith) c.self.told.1

pub returns : goal.returns
returns c = sym c.self.view_is ∙ first_off c.self.inside c.self.invariant (omega arith)
