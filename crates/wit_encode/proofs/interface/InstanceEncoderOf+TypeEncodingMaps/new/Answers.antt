use Rattle.encode_types.proofs.Agree.{empty-agrees}
use Rattle.wit_encode.proofs.Outside.{fresh-sound}
use Rattle.wit_encode.proofs.interface.InstanceEncoderOf+TypeEncodingMaps.new.Goals as goal

pub returns-clause-agree : goal.returns-clause-agree
returns-clause-agree c = empty-agrees c.args.resolve.now c.new-maps.result _ c.new-maps.ensures.ids c.new-maps.ensures.kinds c.new-maps.ensures.functions c.new-maps.ensures.names
    c.new-maps.ensures.unit_future c.new-maps.ensures.unit_stream

pub returns-clause-sound : goal.returns-clause-sound
returns-clause-sound c = fresh-sound c.args.resolve.now c.new.result c.new.ensures
