use Rattle.std.proofs.Common.{refl}
use Rattle.wit_encode.proofs.Encodable.{primitive-encodes}
use Rattle.wit_component_tests.proofs.fresh_encoder.number.Goals as goal

pub encode_valtype-requires : goal.encode_valtype-requires
encode_valtype-requires c = λ _. ((refl, tt), (primitive-encodes c.args.resolve.now c.requires _ c.new-encoder.ensures.packages, c.new-encoder.ensures.agree))
