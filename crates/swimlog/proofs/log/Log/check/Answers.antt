use Rattle.std.proofs.Common.{◌≡◌, Some, sym, ap, ◌∙◌, arith}
use Rattle.std.proofs.lemmas.Result.{err_from_is_err_and}
use Rattle.std.specs.Result.{result_err}
use Rattle.swimlog.proofs.Checks.{none_more, all_good, bad_record}
use Rattle.swimlog.proofs.log.Log.check.Goals as goal

pub returns-in_err-check_record : goal.returns-in_err-check_record
returns-in_err-check_record c =
    let p = err_from_is_err_and c.from_residual.result c.from_residual.ensures.1 in
    ap result_err p.1 ∙ ap Some p.2 ∙ sym (bad_record c.args.self.now c.loop-index.index (omega arith) _ c.loop-index.invariant c.in_err-check_record.ensures)

pub returns : goal.returns
returns c =
    let last : c.loop-index.index ≡ c.args.self.now.sizes.records = omega arith in
    sym (all_good c.args.self.now (rw last at c.loop-index.invariant))

pub loop-index-preserved : goal.loop-index-preserved
loop-index-preserved c = none_more c.args.self.now c.loop-index.index (omega arith) c.loop-index.invariant c.in_ok-check_record.ensures
