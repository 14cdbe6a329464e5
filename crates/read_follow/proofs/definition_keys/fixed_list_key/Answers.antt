use Rattle.wit_model.specs.Tree.{Form}
use Rattle.comp_bytes.specs.Raw.{DefinedType}
use Rattle.comp_meaning.specs.Follow.{value_type}
use Rattle.read_follow.specs.Slots.{slots_in}
use Rattle.read_follow.proofs.DefinitionKeyLaws.{fixed_formed, one_key, one_refused, fixed_list_is, no_fixed_list}
use Rattle.read_follow.proofs.definition_keys.fixed_list_key.Goals as goal

pub returns-then-count-eq0 : goal.returns-then-count-eq0
returns-then-count-eq0 c = λ T F named apart. no_fixed_list c.args.slots.now c.args.v c.args.count c.if-count-eq0.true T F

pub returns-in-Ok : goal.returns-in-Ok
returns-in-Ok c = one_key c.args.slots.now (DefinedType.fixed_length_list_of c.args.v c.args.count) (Form.fixed_list_of c.args.count) (λ T F. value_type (slots_in T F c.args.slots.now) c.args.v)
    (fixed_list_is c.args.slots.now c.args.v c.args.count c.if-count-eq0.false) c.in-Ok.part c.key_over.result c.key_over.ensures.shape c.key_over.ensures.memory c.in-Ok.ensures.range
    (fixed_formed c.args.slots.now c.args.count c.in-Ok.part c.if-count-eq0.false c.key_over.ensures.small) (λ T F named. c.in-Ok.ensures.found T F)

pub returns-in-Err : goal.returns-in-Err
returns-in-Err c = one_refused c.args.slots.now (DefinedType.fixed_length_list_of c.args.v c.args.count) (Form.fixed_list_of c.args.count) (λ T F. value_type (slots_in T F c.args.slots.now) c.args.v)
    (fixed_list_is c.args.slots.now c.args.v c.args.count c.if-count-eq0.false) c.in-Err.refusal (λ T F named. c.in-Err.ensures.found T F)
