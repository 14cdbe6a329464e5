use Rattle.std.proofs.Common.{subst, List, Ok, Err}
use Rattle.comp_bytes.specs.RawOf.{raw_defined}
use Rattle.read_follow.specs.declared.{definition_keys.Definition.Definition, refusal.Refusal.Refusal, slots.Slot.Slot}
use Rattle.read_follow.specs.{DefinitionKeys.IsDefinitionOf, KeyShapes.shape_of}
use Rattle.read_follow.proofs.DefiningLaws.{key_defined, key_shaped, part_defined, undefined}
use Rattle.read_follow.specs.declared.definition_keys.Definition.TheVariants as definitions
use Rattle.read_follow.proofs.defining.define.Goals as goal

pub number_of-requires : goal.number_of-requires
number_of-requires c =
    let h = subst (λ (x : Definition). IsDefinitionOf c.deref.result.now (raw_defined c.args.definition.now) (Ok x)) c.in-Ok-Keyed.field-0-is c.in-Ok-Keyed.ensures in
    let node = subst (λ (ss : List Slot). IsDefinitionOf ss (raw_defined c.args.definition.now) (Ok (definitions.Keyed c.in-Ok-Keyed.key))) c.deref.ensures.value h in
    key_shaped c.args.table.now c.args.slots.now.items (raw_defined c.args.definition.now) (shape_of c.in-Ok-Keyed.key) c.requires node

pub returns-in_ok-push-in-Ok-Part-clause-defined : goal.returns-in_ok-push-in-Ok-Part-clause-defined
returns-in_ok-push-in-Ok-Part-clause-defined c =
    let h = subst (λ (x : Definition). IsDefinitionOf c.deref.result.now (raw_defined c.args.definition.now) (Ok x)) c.in-Ok-Part.field-0-is c.in-Ok-Part.ensures in
    let part = subst (λ (ss : List Slot). IsDefinitionOf ss (raw_defined c.args.definition.now) (Ok (definitions.Part c.in-Ok-Part.part))) c.deref.ensures.value h in
    part_defined c.args.table.now c.args.slots.now.items c.push.new.self.items (raw_defined c.args.definition.now) c.in-Ok-Part.part part.0 c.in_ok-push-in-Ok-Part.ensures.items part.1

pub returns-in_ok-push-in-Ok-Keyed-clause-defined : goal.returns-in_ok-push-in-Ok-Keyed-clause-defined
returns-in_ok-push-in-Ok-Keyed-clause-defined c =
    let h = subst (λ (x : Definition). IsDefinitionOf c.deref.result.now (raw_defined c.args.definition.now) (Ok x)) c.in-Ok-Keyed.field-0-is c.in-Ok-Keyed.ensures in
    let node = subst (λ (ss : List Slot). IsDefinitionOf ss (raw_defined c.args.definition.now) (Ok (definitions.Keyed c.in-Ok-Keyed.key))) c.deref.ensures.value h in
    let n = c.in_ok-number-in-Ok-Keyed.ensures in
    key_defined c.args.table.now c.number_of.new.self c.args.slots.now.items c.push-in-Ok-Keyed.new.self.items (raw_defined c.args.definition.now) (shape_of c.in-Ok-Keyed.key)
    c.in_ok-number-in-Ok-Keyed.number
    n.table.0 n.table.1 c.requires node n.found n.adds c.in_ok-push-in-Ok-Keyed.ensures.items

pub returns-in-Err-clause-refused : goal.returns-in-Err-clause-refused
returns-in-Err-clause-refused c = undefined c.args.table.now c.args.slots.now.items (raw_defined c.args.definition.now) c.in-Err.refusal c.is_well_formed.ensures
    (subst (λ (ss : List Slot). IsDefinitionOf ss (raw_defined c.args.definition.now) (Err c.in-Err.refusal)) c.deref.ensures.value
    (subst (λ (x : Refusal). IsDefinitionOf c.deref.result.now (raw_defined c.args.definition.now) (Err x)) c.in-Err.refusal-is c.in-Err.ensures))
