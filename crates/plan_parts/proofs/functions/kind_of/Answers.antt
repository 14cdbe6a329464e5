use Rattle.std.proofs.Common.{refl}
use Rattle.plan_parts.specs.Functions.{a_constructor, a_method, a_static}
use Rattle.plan_parts.proofs.functions.kind_of.Goals as goal

pub returns-in-Some : goal.returns-in-Some
returns-in-Some c = let e = c.in-Some.ensures in a_constructor e.0 c.in-Some.id e.1 e.2 refl

pub returns-in-Some-resource_of : goal.returns-in-Some-resource_of
returns-in-Some-resource_of c = let e = c.in-Some-resource_of.ensures in a_method e.0 c.in-Some-resource_of.id e.1 e.2 c.method_of.ensures

pub returns-in-Some-resource_of-2 : goal.returns-in-Some-resource_of-2
returns-in-Some-resource_of-2 c = let e = c.in-Some-resource_of-2.ensures in a_static e.0 c.in-Some-resource_of-2.id e.1 e.2 c.static_of.ensures
