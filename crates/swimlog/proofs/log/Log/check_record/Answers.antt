use Rattle.std.proofs.Common.{sym, ◌∙◌}
use Rattle.swimlog.specs.Logs.{record_in}
use Rattle.swimlog.proofs.Checks.{good_if_read}
use Rattle.swimlog.proofs.log.Log.check_record.Goals as goal

pub returns : goal.returns
returns c =
    let log = c.args.self.now in
    good_if_read c.args.index (record_in log.bytes.now log.sizes.gates log.sizes.records c.args.index) c.read_record.result c.in_ok-numbered.field-0 c.read_record.ensures (sym c.numbered.ensures ∙ c.in_ok-numbered.was)
