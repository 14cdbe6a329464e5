use Rattle.std.proofs.Common.{refl, slice_get}
use Rattle.wit_model.specs.Tree.{Form}
use Rattle.comp_bytes.specs.Raw.{DefinedType}
use Rattle.comp_meaning.specs.Follow.{resource_in}
use Rattle.read_follow.specs.Slots.{slots_in}
use Rattle.read_follow.proofs.DefinitionKeyLaws.{one_key, one_refused}
use Rattle.read_follow.proofs.definition_keys.borrow_key.Goals as goal

pub returns-in-Ok : goal.returns-in-Ok
returns-in-Ok c = one_key c.args.slots.now (DefinedType.borrow_of c.args.n) Form.borrow_of (λ T F. resource_in (slice_get (slots_in T F c.args.slots.now) c.args.n)) (λ T F. refl) c.in-Ok.part
    c.key_over.result c.key_over.ensures.shape c.key_over.ensures.memory c.in-Ok.ensures.range refl (λ T F named. c.in-Ok.ensures.found T F named)

pub returns-in-Err : goal.returns-in-Err
returns-in-Err c = one_refused c.args.slots.now (DefinedType.borrow_of c.args.n) Form.borrow_of (λ T F. resource_in (slice_get (slots_in T F c.args.slots.now) c.args.n)) (λ T F. refl) c.in-Err.refusal
    (λ T F named. c.in-Err.ensures.found T F named)
