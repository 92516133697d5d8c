use Rattle.swimlog.proofs.Checks.{reads_whole, always_read}
use Rattle.swimlog.proofs.log.Log.constraint.Goals as goal

pub unwrap-requires : goal.unwrap-requires
unwrap-requires c = always_read c.args.self.now c.args.index c.requires.within c.requires.sound c.read_record.result c.read_record.ensures

pub returns : goal.returns
returns c =
    let log = c.args.self.now in
    let read = reads_whole log c.args.index c.requires.within c.read_record.result c.read_record.ensures in
    rw c.unwrap.ensures at read
