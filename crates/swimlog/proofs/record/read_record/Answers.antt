use Rattle.std.proofs.Common.{◌+◌, ◌≤◌, length, ap, ◌∙◌, arith}
use Rattle.swimlog.specs.Format.{head_length, body_length, body_start, head_at, body_at}
use Rattle.swimlog.proofs.Readings.{field_read, reads_parts}
use Rattle.swimlog.proofs.record.read_record.Goals as goal

pub returns : goal.returns
returns c =
    let bytes = c.bytes-bytes.result.now in
    let sizes = c.sizes-sizes.result in
    let h = field_read bytes (c.head_start.result + head_length) (head_at bytes c.head_start.result) c.in_ok-head.head c.in_ok-head.ensures in
    let b = field_read bytes (c.body_start.result + body_length) (body_at bytes c.body_start.result) c.in_ok-body.body c.in_ok-body.ensures in
    let whole : body_start sizes.records c.args.index + body_length ≤ length bytes = omega (arith, b.0) in
    let read = reads_parts bytes sizes.gates sizes.records c.args.index whole c.constraint.result
    _ c.in_ok-head.head c.in_ok-body.body
    (omega arith) (h.1 ∙ ap (head_at bytes) c.head_start.ensures) (b.1 ∙ ap (body_at bytes) c.body_start.ensures)
    c.constraint.ensures in
    rw (c.bytes-bytes.ensures, c.sizes-sizes.ensures) at read
