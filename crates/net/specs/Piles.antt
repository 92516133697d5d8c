-- Contractors piled under the layers in any order and depth, what each pile's value is, and that every pile keeps the meaning. Assumes nothing.
use Rattle.std.specs.Prelude.{ℕ, ◌≤◌, List, length}
use Rattle.std.specs.List.{AllByRecursion}
use Rattle.contractor.specs.Compositions.{both}
use Rattle.contractor.specs.Contractors.{Value, Keeps}
use Rattle.contractor.specs.Counts.{most_rounds}
use Rattle.contractor.specs.Repetitions.{repeat}
use Rattle.contractor.specs.Unions.{either}
use Rattle.net.specs.Nets.{Part, net, most_records, Recorded}

pub data Pile : Type 0 where
  alone : Value → Pile
  both_of : Pile → Pile → Pile
  either_of : Pile → Pile → Pile
  repeat_of : ℕ → Pile → Pile
  net_of : List Part → ℕ → Pile

-- relation, need, height, ceiling and map, worked out from the parts
abbrev pub value_of : Pile → Value
value_of (alone v) = v
value_of (both_of p q) = both (value_of p) (value_of q)
value_of (either_of p q) = either (value_of p) (value_of q)
value_of (repeat_of r p) = repeat r (value_of p)
value_of (net_of ks r) = net ks r

abbrev pub Rounds : ℕ → Type 0
Rounds r = (1 ≤ r) × (r ≤ most_rounds)

-- a pile of contractors that keep the meaning, under layers that could be built
abbrev pub Built : Pile → Type 0
Built (alone v) = Keeps v
Built (both_of p q) = Built p × Built q
Built (either_of p q) = Built p × Built q
Built (repeat_of r p) = Rounds r × Built p
Built (net_of ks r) = AllByRecursion Recorded ks × (length ks ≤ most_records) × Rounds r

abbrev pub PilesKeep : Type 0
PilesKeep = (p : Pile) → Built p → Keeps (value_of p)
