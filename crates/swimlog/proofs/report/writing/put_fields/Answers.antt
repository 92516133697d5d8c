use Rattle.swimlog.proofs.Puts.{field_room, field_put}
use Rattle.swimlog.proofs.report.writing.put_fields.Goals as goal

pub put_field-requires : goal.put_field-requires
put_field-requires g c =
    field_room g.I.Integer.text c.args.fields.now c.loop-field.field-index c.field-item.result c.loop-field-test.true c.field-item.is c.args.page.now c.loop-field.page c.loop-field.invariant c.requires

pub loop-field-preserved : goal.loop-field-preserved
loop-field-preserved g c =
    field_put g.I.Integer.text c.args.fields.now c.loop-field.field-index c.field-item.result c.loop-field-test.true c.field-item.is c.args.page.now c.loop-field.page c.loop-field.invariant c.put_field.new.page c.put_field.ensures
