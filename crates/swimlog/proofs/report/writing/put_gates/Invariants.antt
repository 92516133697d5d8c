use Rattle.std.proofs.Common.{◌≡◌, ◌+◌, ◌*◌, ◌≤◌, ◌++◌, length}
use Rattle.swimlog.specs.Pages.{page_bytes}
use Rattle.swimlog.specs.Report.{gate_lines}
use Rattle.swimlog.specs.Rooms.{gate_line_length}
use Rattle.swimlog.proofs.report.writing.put_gates.Given as goal

abbrev pub invariant-loop-gate : goal.invariant-loop-gate
invariant-loop-gate l =
    (page_bytes l.page ≡ page_bytes l.initial.page ++ gate_lines l.sizes.gates l.tube l.gate) × (length (page_bytes l.page) ≤ length (page_bytes l.initial.page) + gate_line_length * l.gate)
