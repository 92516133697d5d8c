use Rattle.std.proofs.Common.{ap, ◌∙◌, arith}
use Rattle.net.specs.Queues.{joined_by}
use Rattle.net.proofs.Rings.{has_room, joins_last, last_on_queued}
use Rattle.net.proofs.waiting.Waiting.join.Goals as goal

pub overflow_add-end : goal.overflow_add-end
overflow_add-end c = omega (arith, has_room c.self.inside c.self.invariant c.args.position c.requires c.if-self-position.false, c.self.invariant.head)

pub overflow_add-self : goal.overflow_add-self
overflow_add-self c = omega (arith, has_room c.self.inside c.self.invariant c.args.position c.requires c.if-self-position.false)

pub invariant_of-self : goal.invariant_of-self
invariant_of-self c = last_on_queued c.self.inside c.self.invariant c.args.position c.requires c.if-self-position.false c.self.told.0 c.self.told.1

pub returns : goal.returns
returns c = joins_last c.self.inside c.self.invariant c.args.position c.requires c.if-self-position.false c.self.told.0 ∙ ap (joined_by c.args.position) c.self.view_is
