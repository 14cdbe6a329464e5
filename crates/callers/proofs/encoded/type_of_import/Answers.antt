use Rattle.std.proofs.Common.{refl}
use Rattle.callers.proofs.Importing.{can-encode, defined}
use Rattle.callers.proofs.encoded.type_of_import.Goals as goal

pub encode_valtype-requires : goal.encode_valtype-requires
encode_valtype-requires c =
    let r = c.args.resolve.now in
    let scoped = c.interface_scope_is_of_owner.ensures in
    let encodable = can-encode scoped c.names_encode.ensures r c.args.encoder.now c.args.interface c.args.id c.requires.encoder c.requires.named c.requires.stands c.requires.owned in
    λ _. ((refl, tt), (encodable, c.requires.encoder.agree))

pub returns-clause-encoder : goal.returns-clause-encoder
returns-clause-encoder c = defined c.definitions_leave_interfaces.ensures _ _ _ c.requires.encoder c.encode_valtype.ensures.leaves
