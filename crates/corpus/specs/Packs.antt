-- A file of many logs: each is its length in four bytes, the least first, and then its bytes. Assumes nothing.
use Rattle.std.specs.Prelude.{ℕ, ◌+◌, Bool, ◌&&◌, List, length, nat_le}
use Rattle.swimlog.specs.Format.{four_bytes_at}

abbrev pub length_bytes : ℕ
length_bytes = 4

abbrev pub first_length : List ℕ → ℕ
first_length bytes = four_bytes_at bytes 0

-- the first log stands there whole
abbrev pub has_first : List ℕ → Bool
has_first bytes = nat_le length_bytes (length bytes) && nat_le (length_bytes + first_length bytes) (length bytes)
