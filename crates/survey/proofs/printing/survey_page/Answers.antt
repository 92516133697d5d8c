use Rattle.std.proofs.Common.{◌∙◌}
use Rattle.survey.proofs.Prints.{printed_as}
use Rattle.survey.proofs.printing.survey_page.Goals as goal

pub returns : goal.returns
returns c = c.report_page.ensures ∙ printed_as c.args.bytes.now c.survey.result c.survey.ensures.report
