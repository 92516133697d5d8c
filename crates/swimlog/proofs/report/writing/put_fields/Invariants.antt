use Rattle.std.proofs.Common.{◌≡◌, ◌++◌, map, take}
use Rattle.swimlog.specs.Pages.{page_bytes}
use Rattle.swimlog.specs.Report.{spaced}
use Rattle.swimlog.proofs.report.writing.put_fields.Given as goal

abbrev pub invariant-loop-field : goal.invariant-loop-field
invariant-loop-field g l = page_bytes l.page ≡ page_bytes l.initial.page ++ spaced (map g.I.Integer.text (take l.field-index l.fields))
