-- What a caller finds in its buffer. Assumes nothing.
use Rattle.std.specs.Prelude.{cond, List, ◌++◌, ℕ, length, nat_le, drop}

-- a report, then what the buffer held past it; the buffer as it was where the report has no room in it
abbrev pub filled : (report before : List ℕ) → List ℕ
filled report before = cond (nat_le (length report) (length before)) (report ++ drop (length report) before) before
