-- Which names stand for resources: no value is of such a type, and a handle is of one.
use Rattle.std.specs.Prelude.{ℕ, Bool, true, false, ◌&&◌, ◌||◌, is_some}
use Rattle.std.specs.List.{list_any}
use Rattle.wit_model.specs.{Text.Text, Lookup.place_of, Lookup.interface_path, Rules.text_is, Parts.is_resource, Parts.numbered_from, Parts.same_owner}
use Rattle.wit_model.specs.Tree.{Tree, Place, primitive, named, node, TypeDeclaration, type_, resource}
use Rattle.wit_model.specs.declared.model.{Resolve.Resolve, TypeDef.TypeDef, TypeOwner.TypeOwner}
use Rattle.comp_meaning.specs.Same.{same_place}
use Rattle.wit_model.specs.declared.model.TypeOwner.TheVariants as owner

-- names in their places
abbrev pub Names : Type 0
Names = Place → Text → Bool

-- whether a tree is such a name
abbrev pub is_resource_tree : Names → Tree → Bool
is_resource_tree resources (primitive p) = false
is_resource_tree resources (named place name) = resources place name
is_resource_tree resources (node form ts) = false

-- whether a name that is declared so stands for a resource: it is a fresh one, or another name for one
abbrev pub is_resource_declaration : Names → TypeDeclaration → Bool
is_resource_declaration resources (type_ t) = is_resource_tree resources t
is_resource_declaration resources resource = true

-- ---- those of the packages

-- whether an owner is an interface that has a name
abbrev pub is_named_interface : Resolve → TypeOwner → Bool
is_named_interface r (owner.Interface i) = is_some (interface_path r i.0)
is_named_interface r _ = false

-- whether the types of an owner are met in the scope of another: its own, and those of named interfaces
abbrev pub is_met_owner : Resolve → TypeOwner → TypeOwner → Bool
is_met_owner r o other = same_owner o other || is_named_interface r other

-- whether a type of such an owner is a resource, or an alias of one, under this name in this place
abbrev pub is_resource_entry : Resolve → (TypeOwner → Bool) → Place → Text → ℕ × TypeDef → Bool
is_resource_entry r met place name e = (met e.1.owner && is_resource r e.0) && (same_place place (place_of r e.1.owner) && text_is e.1.name name)

-- the names of the resources, and of the aliases of resources, that have such an owner
abbrev pub resource_names : Resolve → (TypeOwner → Bool) → Names
resource_names r met place name = list_any (is_resource_entry r met place name) (numbered_from 0 r.types.items)

-- the names of the resources, and of the aliases of resources, of named interfaces
abbrev pub named_resources : Resolve → Names
named_resources r = resource_names r (is_named_interface r)
