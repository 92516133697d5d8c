-- What a track's numbers keep. Assumes nothing.
use Rattle.std.specs.Prelude.{ℕ, Bool, ◌&&◌, nat_le}

-- the greatest allowance of calls
abbrev pub most_allowance : ℕ
most_allowance = 1000000000000

abbrev pub is_allowance : ℕ → Bool
is_allowance a = nat_le 1 a && nat_le a most_allowance

-- the calls charged never pass the allowance
abbrev pub is_paid : (allowance charged : ℕ) → Bool
is_paid allowance charged = is_allowance allowance && nat_le charged allowance
