use Rattle.survey.proofs.Cuts.{printed_cut}
use Rattle.survey.proofs.printing.input_limit.Goals as goal

pub returns : goal.returns
returns c = printed_cut
