-- How many rounds there can be. Assumes nothing.
use Rattle.std.specs.Prelude.{ℕ, Bool, ◌&&◌, nat_le}

abbrev pub most_rounds : ℕ
most_rounds = 1000

abbrev pub is_count : ℕ → Bool
is_count n = nat_le 1 n && nat_le n most_rounds
