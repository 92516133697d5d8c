-- A contractor about every trajectory, with figures of one's own. Assumes nothing.
use Rattle.std.specs.Prelude.{ℕ, ◌+◌, Bool, true, ◌&&◌, nat_le}
use Rattle.tube.specs.Tubes.{most_cells}
use Rattle.contractor.specs.Answers.{kept}
use Rattle.contractor.specs.Contractors.{Value}
use Rattle.contractor.specs.Refusals.{most_layers, most_calls}
use Rattle.contractor.specs.declared.answer.Mark.TheVariants.{Settled}

-- the most that a contractor may tell
abbrev pub are_figures : (need height ceiling : ℕ) → Bool
are_figures need height ceiling = nat_le need (most_cells + 1) && (nat_le height (most_layers + 1) && nat_le ceiling (most_calls + 1))

abbrev pub idle : (need height ceiling : ℕ) → Value
idle need height ceiling =
    record {
      relation = λ p. true;
      need = need;
      height = height;
      ceiling = ceiling;
      narrowed = λ t. record { answer = kept Settled 0; tube = t };
    }
