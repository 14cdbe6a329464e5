use Rattle.encode_types.proofs.Written.{ready-one}
use Rattle.encode_types.proofs.definition.optional_in.Goals as goal

pub value_in-requires : goal.value_in-requires
value_in-requires c = ready-one c.args.maps.now c.in-Some.ty (rw c.in-Some.is at c.requires)
