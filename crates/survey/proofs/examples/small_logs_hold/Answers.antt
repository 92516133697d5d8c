use Rattle.std.proofs.Common.{refl}
use Rattle.tube.specs.Tubes.{cut}
use Rattle.constraint.specs.Hulls.{first, hull_of, greatest_square, least_square, ring}
use Rattle.constraint.specs.Constraints.{inner_limit, outer_limit, axis_row}
use Rattle.swimlog.specs.Fillings.{first_net, second_net}
use Rattle.swimlog.specs.Logs.{log_fault}
use Rattle.survey.specs.Surveys.{pile, surveyed, printed}
use Rattle.survey.proofs.SmallLogs.{small_swim_obeys}
use Rattle.survey.proofs.examples.small_logs_hold.Goals as goal

pub returns : goal.returns
unfolding cut first hull_of greatest_square least_square ring inner_limit outer_limit axis_row first_net second_net log_fault pile surveyed printed
returns c = record { near = refl; far = refl; obeyed = small_swim_obeys }
