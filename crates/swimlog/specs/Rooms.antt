-- How long the lines of a report can be, and how much a page holds. Assumes nothing.
use Rattle.std.specs.Prelude.{ℕ, ◌+◌, ◌*◌}
use Rattle.swimlog.specs.Limits.{most_gates}

-- `kept`, a number of twenty digits and `settled`, with a space between them and the line's end
abbrev pub kept_line_length : ℕ
kept_line_length = 34

-- a gate of three digits, four numbers of eleven signs with a space before each, and the line's end
abbrev pub gate_line_length : ℕ
gate_line_length = 52

-- just as much as the longest report
abbrev pub page_length : ℕ
page_length = kept_line_length + gate_line_length * most_gates
