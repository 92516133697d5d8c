use Rattle.std.proofs.Common.{◌+◌, Ok, arith}
use Rattle.swimlog.specs.Fillings.{said_of, to_first, to_second, added}
use Rattle.swimlog.proofs.Fillings.{grown_count, grown_more, grown_as, added_more, to_first_few, to_second_few}
use Rattle.swimlog.proofs.filling.add_records.Goals as goal

pub loop-index-preserved : goal.loop-index-preserved
loop-index-preserved c =
    let log = c.args.log.now in
    let bytes = log.bytes.now in
    let gates = log.sizes.gates in
    let records = log.sizes.records in
    let i = c.loop-index.index in
    let k = c.constraint.result in
    let is = c.constraint.ensures in
    let one = c.add_record.ensures.one in
    let two = c.add_record.ensures.two in (
      grown_as _ (added to_first bytes gates records (i + 1)) c.args.one.now c.add_record.new.one (added_more to_first bytes gates records i k is)
          (grown_more (added to_first bytes gates records i) (to_first (Ok (said_of k))) c.args.one.now c.loop-index.one c.add_record.new.one c.loop-index.invariant.0 one),
      grown_as _ (added to_second bytes gates records (i + 1)) c.args.two.now c.add_record.new.two (added_more to_second bytes gates records i k is)
          (grown_more (added to_second bytes gates records i) (to_second (Ok (said_of k))) c.args.two.now c.loop-index.two c.add_record.new.two c.loop-index.invariant.1 two),
      omega (arith, c.loop-index.invariant.2, grown_count (to_first (Ok (said_of k))) c.loop-index.one c.add_record.new.one one, to_first_few (Ok (said_of k))),
      omega (arith, c.loop-index.invariant.3, grown_count (to_second (Ok (said_of k))) c.loop-index.two c.add_record.new.two two, to_second_few (Ok (said_of k))),
    )
