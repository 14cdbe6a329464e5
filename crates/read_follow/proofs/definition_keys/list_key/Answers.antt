use Rattle.std.proofs.Common.{refl}
use Rattle.wit_model.specs.Tree.{Form}
use Rattle.comp_bytes.specs.Raw.{DefinedType}
use Rattle.comp_meaning.specs.Follow.{value_type}
use Rattle.read_follow.specs.Slots.{slots_in}
use Rattle.read_follow.proofs.DefinitionKeyLaws.{one_key, one_refused}
use Rattle.read_follow.proofs.definition_keys.list_key.Goals as goal

pub returns-in-Ok : goal.returns-in-Ok
returns-in-Ok c = one_key c.args.slots.now (DefinedType.list_of c.args.v) Form.list_of (λ T F. value_type (slots_in T F c.args.slots.now) c.args.v) (λ T F. refl) c.in-Ok.part c.key_over.result
    c.key_over.ensures.shape c.key_over.ensures.memory c.in-Ok.ensures.range refl (λ T F named. c.in-Ok.ensures.found T F)

pub returns-in-Err : goal.returns-in-Err
returns-in-Err c = one_refused c.args.slots.now (DefinedType.list_of c.args.v) Form.list_of (λ T F. value_type (slots_in T F c.args.slots.now) c.args.v) (λ T F. refl) c.in-Err.refusal
    (λ T F named. c.in-Err.ensures.found T F)
