use Rattle.std.proofs.Common.{[], ◌∷◌, length, codes, ap, arith}
use Rattle.swimlog.proofs.Lengths.{line_short}
use Rattle.swimlog.proofs.report.writing.refused_page.Goals as goal

pub put_line-requires : goal.put_line-requires
put_line-requires c = omega (arith, ap length c.new-page.ensures, line_short (codes "refused") (c.number.result ∷ c.record.result ∷ c.inner.result ∷ []) (omega arith, (omega arith, (omega arith, tt))))
