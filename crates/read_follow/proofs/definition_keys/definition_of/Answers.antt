use Rattle.std.proofs.Common.{◌∙◌, ◌+◌, ◌<◌, ap, sym, arith, Some}
use Rattle.comp_bytes.specs.declared.forms.ComponentDefinedType.{ComponentDefinedType}
use Rattle.comp_bytes.specs.RawOf.{raw_defined}
use Rattle.comp_meaning.specs.Follow.{definition}
use Rattle.plan_meaning.specs.Shapes.{part_tree}
use Rattle.read_follow.specs.Slots.{primitive_index, slots_in}
use Rattle.read_follow.proofs.{DefinitionKeyLaws.is_form, SlotLaws.primitive_part, SlotLaws.primitive_small}
use Rattle.read_follow.proofs.definition_keys.definition_of.Goals as goal

pub returns-in-Primitive : goal.returns-in-Primitive
returns-in-Primitive c =
    let small : primitive_index c.in-Primitive.primitive < 14 + 0 = primitive_small c.in-Primitive.primitive 0 in (
      omega (arith, small, c.primitive_index.ensures),
      λ T F. ap (λ (d : ComponentDefinedType). definition (slots_in T F c.args.slots.now) (raw_defined d)) c.in-Primitive.is ∙ ap Some
          (primitive_part T c.in-Primitive.primitive ∙ ap (part_tree T) (sym c.primitive_index.ensures)),
    )

pub returns-in-Err : goal.returns-in-Err
returns-in-Err c = c.in-Err.ensures (is_form c.args.definition.now c.in_default.not-Primitive)
