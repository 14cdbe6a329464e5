-- What the check of functions' names keeps of an owner, and the rest of a member's name.
use Rattle.std.specs.Prelude.{Bool, false, ◌&&◌, ◌++◌, [], ◌∷◌, Option, None, if◌then◌else◌}
use Rattle.std.specs.Option.{option_map_or}
use Rattle.check_rules.specs.declared.members.Home.{Home}
use Rattle.wit_model.specs.declared.model.{TypeDef.TypeDef, TypeOwner.TypeOwner}
use Rattle.wit_model.specs.{Text.Text, Text.optional_text, Parts.same_owner, Rules.after_prefix, Rules.is_resource_itself, Valid.as_interface, Valid.as_world}
use Rattle.wit_model.specs.Names.{is_label}
use Rattle.check_rules.specs.declared.members.Home.TheVariants as home

-- the owner of a number
abbrev pub owner_of : Home → TypeOwner
owner_of (home.Interface n) = as_interface n
owner_of (home.World n) = as_world n

-- the name of a type, if it is a resource of this owner
abbrev pub name_of_resource : TypeOwner → TypeDef → Option Text
name_of_resource o def = if is_resource_itself def.kind && same_owner def.owner o then optional_text def.name else None

-- whether a name is this mark, the resource's name, a dot and a label
abbrev pub names_member : Text → Text → Text → Bool
names_member mark resource name = option_map_or is_label (after_prefix (mark ++ (resource ++ (46 ∷ []))) name) false
