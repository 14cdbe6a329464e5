use Rattle.std.proofs.Common.{refl}
use Rattle.encode_types.proofs.Agree.{empty-agrees}
use Rattle.wit_encode.proofs.{WorldHolding.none-defined, WorldHolding.none-held, WorldFunctions.starts}
use Rattle.wit_encode.proofs.world.WorldEncoderOf+TypeEncodingMaps.new.Goals as goal

pub returns-clause-starts : goal.returns-clause-starts
returns-clause-starts c = λ w there. starts c.args.resolve.now w _ there refl c.new.ensures c.no_foreign.ensures.instances c.no_foreign.ensures.known refl c.new-maps.ensures.ids
    (empty-agrees c.args.resolve.now c.new-maps.result _ c.new-maps.ensures.ids c.new-maps.ensures.kinds c.new-maps.ensures.functions c.new-maps.ensures.names c.new-maps.ensures.unit_future
    c.new-maps.ensures.unit_stream)

pub returns-clause-defines : goal.returns-clause-defines
returns-clause-defines c = none-defined c.args.resolve.now _ c.new.ensures c.new-maps.ensures.ids c.new-maps.ensures.kinds c.new-maps.ensures.functions refl c.no_foreign.ensures.instances
    c.no_foreign.ensures.known

pub returns-clause-few : goal.returns-clause-few
returns-clause-few c = none-held c.args.resolve.now _ c.new.ensures c.no_foreign.ensures.instances

pub returns-clause-agree : goal.returns-clause-agree
returns-clause-agree c = empty-agrees c.args.resolve.now c.new-maps.result _ c.new-maps.ensures.ids c.new-maps.ensures.kinds c.new-maps.ensures.functions c.new-maps.ensures.names
    c.new-maps.ensures.unit_future c.new-maps.ensures.unit_stream
