-- Every pile of contractors that keep the meaning keeps it. Assumes nothing.
use Rattle.contractor.specs.Composing.{both_keeps}
use Rattle.contractor.specs.Repeating.{repeat_keeps}
use Rattle.contractor.specs.Uniting.{either_keeps}
use Rattle.net.specs.Piles.{alone, both_of, either_of, repeat_of, net_of, value_of, PilesKeep}
use Rattle.net.specs.Keeping.{net_keeps}

pub piles_keep : PilesKeep
piles_keep (alone v) b = b
piles_keep (both_of p q) b = both_keeps (value_of p) (value_of q) (piles_keep p b.0) (piles_keep q b.1)
piles_keep (either_of p q) b = either_keeps (value_of p) (value_of q) (piles_keep p b.0) (piles_keep q b.1)
piles_keep (repeat_of r p) b = repeat_keeps r (value_of p) b.0.0 (piles_keep p b.1)
piles_keep (net_of ks r) b = net_keeps ks r b.0 b.1 b.2.0 b.2.1
