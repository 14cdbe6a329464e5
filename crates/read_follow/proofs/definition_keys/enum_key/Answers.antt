use Rattle.std.proofs.Common.{ap, [], map}
use Rattle.wit_model.specs.Tree.{Form, enum_tree}
use Rattle.comp_bytes.specs.{Raw.DefinedType, RawOf.text_of}
use Rattle.comp_meaning.specs.Follow.{provided}
use Rattle.read_follow.proofs.{DefinitionKeyLaws.passed, RowLaws.all_filled, RowLaws.items_there}
use Rattle.read_follow.proofs.definition_keys.enum_key.Goals as goal

pub returns : goal.returns
returns c = passed c.args.slots.now (DefinedType.enum_of (map text_of c.args.names.now)) c.labels_key.result (Form.enum_of (map text_of c.args.names.now)) [] c.labels_key.ensures.shape
    c.labels_key.ensures.memory (λ n ranges. tt) (items_there (map text_of c.args.names.now) (all_filled text_of c.args.names.now c.if-is_empty.ensures))
    (λ T F named apart. ap (λ b. provided b (enum_tree (map text_of c.args.names.now))) (all_filled text_of c.args.names.now c.if-is_empty.ensures))
