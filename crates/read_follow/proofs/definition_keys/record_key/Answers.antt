use Rattle.std.proofs.Common.{map}
use Rattle.comp_bytes.specs.RawOf.{labeled}
use Rattle.read_follow.specs.KeyShapes.{label_of}
use Rattle.read_follow.proofs.RowLaws.{all_filled, no_record, record_is}
use Rattle.read_follow.proofs.definition_keys.record_key.Goals as goal

pub returns-in-Ok : goal.returns-in-Ok
returns-in-Ok c = record_is c.args.slots.now c.in-Ok.parts.items c.in-Ok.ensures.range (map labeled c.args.fields.now) (map label_of c.in-Ok.labels.items)
    (all_filled labeled c.args.fields.now c.if-is_empty.ensures) c.in-Ok.ensures.found

pub returns-in-Err : goal.returns-in-Err
returns-in-Err c = λ T F named apart. no_record c.args.slots.now c.in-Err.refusal T F (map labeled c.args.fields.now) (c.in-Err.ensures.absent T F)
