use Rattle.net.proofs.Piling.{piles_keep}
use Rattle.net.proofs.piles_keep.Goals as goal

pub returns : goal.returns
returns c = piles_keep
