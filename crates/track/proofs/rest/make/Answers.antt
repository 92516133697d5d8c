use Rattle.std.proofs.Common.{refl, arith, rules}
use Rattle.net.proofs.Piling.{piles_keep}
use Rattle.track.proofs.Keeping.{histories_keep}
use Rattle.track.proofs.rest.make.Goals as goal

pub returns : goal.returns
returns c =
    (search rules, (λ work. (search rules, omega arith, omega arith, (work, refl))), histories_keep c.args.allowance c.args.committed.now, piles_keep)
