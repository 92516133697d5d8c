use Rattle.std.proofs.Common.{◌≡◌, ◌∙◌, arith}
use Rattle.std.proofs.lemmas.Result.{err_from_is_err_and}
use Rattle.swimlog.proofs.Checks.{bad_sizes, bad_length, refused_by}
use Rattle.swimlog.proofs.log.Log.new.Goals as goal

pub returns-in_err-sizes : goal.returns-in_err-sizes
returns-in_err-sizes c =
    let bytes = c.args.bytes.now in
    let p = err_from_is_err_and c.from_residual.result c.from_residual.ensures.1 in
    let h = c.in_err-sizes.ensures in
    refused_by (λ log. log.bytes.now ≡ bytes) bytes c.from_residual.result _ p.0 p.1 (p.2 ∙ h.1) (bad_sizes bytes h.0)

pub returns-then-bytes-log_length : goal.returns-then-bytes-log_length
returns-then-bytes-log_length c =
    let h = c.in_ok-sizes.ensures in
    bad_length c.args.bytes.now c.in_ok-sizes.sizes h.0 h.1 (λ e. omega arith)
