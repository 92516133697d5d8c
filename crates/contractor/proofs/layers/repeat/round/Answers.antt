use Rattle.std.proofs.Common.{rules}
use Rattle.contractor.proofs.Sames.{same_rows_from}
use Rattle.contractor.proofs.layers.repeat.round.Goals as goal

pub returns-then-eq-clause-round : goal.returns-then-eq-clause-round
returns-then-eq-clause-round g c = let e = same_rows_from c.eq.result c.copy_from_slice.new.self c.use_part-used.new.tube c.eq.ensures in search rules

pub returns-else-eq-clause-round : goal.returns-else-eq-clause-round
returns-else-eq-clause-round g c = let e = same_rows_from c.eq.result c.copy_from_slice.new.self c.use_part-used.new.tube c.eq.ensures in search rules
