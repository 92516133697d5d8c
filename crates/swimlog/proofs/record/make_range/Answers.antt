use Rattle.std.proofs.Common.{Err, ap, ◌∙◌, w32, SFits, rules}
use Rattle.std.proofs.lemmas.Result.{err_from_is_err_and}
use Rattle.std.proofs.lemmas.Int.{to_z-of_z}
use Rattle.swimlog.specs.Records.{ranges}
use Rattle.swimlog.proofs.Sayings.{reads_made, reads_refused}
use Rattle.swimlog.proofs.record.make_range.Goals as goal

pub returns-in_err-range : goal.returns-in_err-range
returns-in_err-range c =
    let f0 : SFits w32 c.args.body.b0 = search rules in
    let f1 : SFits w32 c.args.body.b1 = search rules in
    let f2 : SFits w32 c.args.body.b2 = search rules in
    let f3 : SFits w32 c.args.body.b3 = search rules in
    let p = err_from_is_err_and c.from_residual.result c.from_residual.ensures.1 in
    reads_refused (ranges c.args.number c.args.x c.args.y c.args.body.b0 c.args.body.b1 c.args.body.b2 c.args.body.b3)
    _ c.from_residual.result (simp to_z-of_z at c.in_err-range.ensures) (p.1 ∙ ap Err p.2)

pub returns : goal.returns
returns c =
    let f0 : SFits w32 c.args.body.b0 = search rules in
    let f1 : SFits w32 c.args.body.b1 = search rules in
    let f2 : SFits w32 c.args.body.b2 = search rules in
    let f3 : SFits w32 c.args.body.b3 = search rules in
    let k = simp to_z-of_z at c.in_ok-range.ensures in
    reads_made (ranges c.args.number c.args.x c.args.y c.args.body.b0 c.args.body.b1 c.args.body.b2 c.args.body.b3) _ k.0 k.1
