use Rattle.std.proofs.Common.{[], ◌∷◌, length, codes, ap, arith}
use Rattle.swimlog.proofs.Lengths.{line_short}
use Rattle.swimlog.proofs.report.writing.empty_page.Goals as goal

pub put_line-requires : goal.put_line-requires
put_line-requires c =
    let fault = c.args.fault in
    omega (arith, ap length c.new-page.ensures, line_short (codes "empty") (fault.number ∷ fault.cause ∷ fault.cell ∷ fault.path ∷ c.args.calls ∷ []) (omega arith, (omega arith, (omega arith, (omega arith, (omega arith, tt))))))
