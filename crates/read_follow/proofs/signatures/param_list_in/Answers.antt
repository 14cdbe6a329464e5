use Rattle.std.proofs.Common.{Some, None}
use Rattle.comp_bytes.specs.Reading.{field_at, u32_at, vector_at}
use Rattle.comp_meaning.specs.Follow.{field_type}
use Rattle.read_follow.specs.{ReadKeys.made_at, Slots.slots_in}
use Rattle.read_follow.proofs.{Refusing.refused, SkipLaws.vector_found}
use Rattle.read_follow.proofs.signatures.param_list_in.Goals as goal

pub returns-in-Ok-clause-found : goal.returns-in-Ok-clause-found
returns-in-Ok-clause-found c = λ T F.
    rw (vector_found (made_at (field_type (slots_in T F c.args.slots.now)) field_at) c.args.bytes.now (Some (c.in-Ok.count, c.in-Ok.items.now)) c.in-Ok.ensures) (c.params_in.ensures.found T F)

pub returns-in-Err-clause-found : goal.returns-in-Err-clause-found
returns-in-Err-clause-found c = λ T F.
    let reader = made_at (field_type (slots_in T F c.args.slots.now)) field_at in
    refused c.in-Err.refusal (u32_at c.args.bytes.now) (vector_at reader c.args.bytes.now) (vector_found reader c.args.bytes.now None) c.in-Err.ensures
