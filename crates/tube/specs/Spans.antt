-- Which two numbers are the ends of an interval. Assumes nothing.
use Rattle.std.specs.Prelude.{ℕ, Bool, ◌&&◌, ℤ, pos, neg_ℤ, int_le}

-- the farthest coordinate, in millimetres: 2 to the power 29
abbrev pub reach : ℕ
reach = 536870912

abbrev pub spans : ℤ → ℤ → Bool
spans low high = int_le (neg_ℤ (pos reach)) low && (int_le low high && int_le high (pos reach))
