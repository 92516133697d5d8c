-- What making one answers, and its value. Assumes nothing.
use Rattle.std.specs.Prelude.{◌≡◌, ℕ, Some, None, Ok, Err, Result}
use Rattle.tube.specs.declared.fault.MakingFault.{MakingFault}
use Rattle.contractor.specs.Contractors.{Value}
use Rattle.own_contractor.specs.Orders.{order_fault, at_most}
use Rattle.own_contractor.specs.declared.at_most.AtMost.{AtMost}

abbrev pub at_most_value : AtMost → Value
at_most_value k = at_most k.number k.behind k.ahead

pub record IsAtMost (k : AtMost) (number behind ahead : ℕ) : Type 0 where
  pub same_number : k.number ≡ number
  pub same_behind : k.behind ≡ behind
  pub same_ahead : k.ahead ≡ ahead

abbrev pub MadeAtMost : (number behind ahead : ℕ) → Result AtMost MakingFault → Type 0
MadeAtMost number behind ahead (Ok k) = (order_fault behind ahead ≡ None) × IsAtMost k number behind ahead
MadeAtMost number behind ahead (Err e) = order_fault behind ahead ≡ Some e
