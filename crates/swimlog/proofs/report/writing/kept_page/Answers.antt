use Rattle.std.proofs.Common.{[], ◌∷◌, length, codes, decimal, ap, arith}
use Rattle.std.proofs.lemmas.List.{length-append}
use Rattle.swimlog.proofs.Limits.{limited}
use Rattle.swimlog.specs.Pages.{page_bytes}
use Rattle.swimlog.specs.Report.{line, mark_word}
use Rattle.swimlog.proofs.Lengths.{kept_line_short}
use Rattle.swimlog.proofs.report.writing.kept_page.Goals as goal

pub put_kept_line-requires : goal.put_kept_line-requires
put_kept_line-requires c = omega (arith, ap length c.new-page.ensures, kept_line_short c.args.calls c.args.mark (omega arith))

pub put_gates-requires : goal.put_gates-requires
put_gates-requires c =
    let sizes = c.args.sizes in
    let small = limited sizes.gates sizes.records sizes.limited in
    omega (
      arith,
      ap length c.new-page.ensures,
      ap length c.put_kept_line.ensures,
      length-append (page_bytes c.new-page.result) (line (codes "kept") (decimal c.args.calls ∷ mark_word c.args.mark ∷ [])),
      kept_line_short c.args.calls c.args.mark (omega arith),
    )
