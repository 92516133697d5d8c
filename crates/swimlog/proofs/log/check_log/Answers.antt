use Rattle.std.proofs.lemmas.Result.{err_from_is_err_and}
use Rattle.swimlog.proofs.Checks.{checked_refused, checked_blames}
use Rattle.swimlog.proofs.log.check_log.Goals as goal

pub returns-in_err-log-clause-blames : goal.returns-in_err-log-clause-blames
returns-in_err-log-clause-blames c =
    let bytes = c.args.bytes.now in
    let r = c.from_residual.result in
    let p = err_from_is_err_and r c.from_residual.ensures.1 in
    checked_blames bytes r (checked_refused bytes r _ p.0 p.1 p.2 c.in_err-log.ensures)
