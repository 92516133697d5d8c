-- How large a swim log may be. Assumes nothing.
use Rattle.std.specs.Prelude.{ℕ, ◌-◌, ◌*◌, Bool, ◌&&◌, nat_le}

abbrev pub most_gates : ℕ
most_gates = 128

abbrev pub most_records : ℕ
most_records = 256

-- at least one gate, and neither gates nor records beyond their limits
abbrev pub are_sizes : (gates records : ℕ) → Bool
are_sizes gates records = nat_le 1 gates && (nat_le gates most_gates && nat_le records most_records)

-- a position on two axes at each gate, and a step on two axes between each gate and the next
abbrev pub cells_of : (gates : ℕ) → ℕ
cells_of gates = 4 * gates - 2
