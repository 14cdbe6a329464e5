-- Parts at the top that are well-formed, by the instances that they show (WIT.md, "Package Format").
use Rattle.std.specs.Prelude.{◌≡◌, true, List, [], ◌∷◌, ◌++◌, map, Some}
use Rattle.wit_model.specs.{Text.Text, Names.path_in}
use Rattle.comp_meaning.specs.{Follow.View, Follow.Instance, Follow.Scope, Follow.instance_place, Rules.is_world, Reads.Part, Reads.Member}
use Rattle.read_shown.specs.{Trees.AllAt, Views.ViewStands, Scopes.IsShownBefore, Scopes.ScopeStands, Instances.InstancesAreSeen}

abbrev pub named_instance : Text × View → Instance
named_instance i = record { interface = Some i.0; view = i.1 }

-- The instances that a part shows, in the order in which they are seen: those of a world, or of an interface what it imports and then itself.
abbrev pub instances_of : Member → List Instance
instances_of m = of_part m.part
  where
    of_part : Part → List Instance
    of_part (Part.world scope) = scope.instances
    of_part (Part.interface exported imports) = map named_instance imports ++ named_instance (path_in m.package_ m.label, exported) ∷ []

-- a world is well-formed, and obeys the rules on worlds
pub record WorldStands (scope : Scope) : Type 0 where
  pub stands : ScopeStands scope
  pub seen : InstancesAreSeen scope
  pub obeys : is_world scope ≡ true

abbrev pub PartStands : Part → Type 0
PartStands (Part.world scope) = WorldStands scope
PartStands (Part.interface exported imports) = Unit

-- each view is well-formed behind those before it, and a world is
pub record MemberStands (m : Member) : Type 0 where
  pub views : AllAt (λ n (x : Instance). ViewStands (IsShownBefore (instances_of m) n) (instance_place x.interface) x.view) (instances_of m)
  pub part : PartStands m.part
