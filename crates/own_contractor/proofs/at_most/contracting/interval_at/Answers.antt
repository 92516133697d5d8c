use Rattle.std.proofs.Common.{◌≡◌, true, w32, SFits, rules}
use Rattle.std.proofs.lemmas.Int.{to_z-of_z}
use Rattle.tube.specs.Tubes.{is_interval, cell}
use Rattle.tube.proofs.Ends.{spanned}
use Rattle.tube.proofs.Tables.{tube, interval_at}
use Rattle.own_contractor.proofs.at_most.contracting.interval_at.Goals as goal

pub invariant_of-result : goal.invariant_of-result
invariant_of-result c =
    let t = c.args.tube.now in
    let r = cell t c.args.index in
    let held : is_interval r ≡ true = interval_at t c.args.index c.requires.within (tube t c.requires.tube).each in
    let ends = spanned r.low r.high held in
    let low_fits : SFits w32 r.low = search rules in
    let high_fits : SFits w32 r.high = search rules in
    record { spanned = simp to_z-of_z held }
