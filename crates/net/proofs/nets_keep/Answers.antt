use Rattle.net.specs.Keeping.{net_keeps}
use Rattle.net.proofs.nets_keep.Goals as goal

pub returns : goal.returns
returns c = net_keeps
