use Rattle.std.proofs.Common.{sym, ◌∙◌}
use Rattle.wit_compat.proofs.Declared.{looked, resource_first, resource_second}
use Rattle.wit_compat.proofs.declarations.look_at_kinds.Goals as goal

pub returns-then-is_resource : goal.returns-then-is_resource
returns-then-is_resource c = resource_first c.args.a.now c.args.b.now _ (sym c.is_resource.ensures ∙ c.if-is_resource.true) c.is_resource-then-is_resource.ensures

pub returns-then-is_resource-2 : goal.returns-then-is_resource-2
returns-then-is_resource-2 c = resource_second c.args.a.now c.args.b.now (sym c.is_resource.ensures ∙ c.if-is_resource.false) (sym c.is_resource-2.ensures ∙ c.if-is_resource-2.true)

pub returns : goal.returns
returns c = looked c.args.a.now c.args.b.now c.requires.a c.requires.b (sym c.is_resource.ensures ∙ c.if-is_resource.false) (sym c.is_resource-2.ensures ∙ c.if-is_resource-2.false)
    c.look_into.result c.look_into.ensures.known c.look_into.ensures.parts
