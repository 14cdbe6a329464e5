-- What stands in the block of an interface, of a world or of a package, as it is shown there.
use Rattle.std.specs.{Prelude.List, Borrow.Bor}
use Rattle.wit_model.specs.declared.model.{Resolve.Resolve, Interface.Interface, InterfaceId.InterfaceId, PackageId.PackageId, Function.Function}
use Rattle.wit_model.specs.declared.model.TypeDef.{TypeDef}
use Rattle.wit_model.specs.Text.{Text, text_of}
use Rattle.print_grammar.specs.{Tree.Declared, Tree.ExternTree, Tree.ItemTree, Tree.MemberTree, Tree.Prefix, Tree.ItemTree.InterfaceItem}
use Rattle.print_grammar.specs.Tree.{ExternTree.NamedFunction, ExternTree.NamedInterface, MemberTree.TypeMember}
use Rattle.print_items.specs.Shown.{declared_of, listed_functions, listed_types, present_name, shown_docs, shown_gates, shown_interface, shown_prefix, shown_resource_members, shown_signature}
use Rattle.print_uses.specs.UseGroups.{type_members}
use Rattle.wit_model.specs.declared.model.TypeOwner.TheVariants as owner

-- ---- types

-- what stands in front of a type: documentation, gates and external id
abbrev pub type_prefix : TypeDef → Prefix
type_prefix def = shown_prefix def.docs def.stability def.external_id

-- a type under a name as it is declared, with these functions if it is a resource
abbrev pub declared_under : Resolve → Text → List (Bor Function) → TypeDef → Declared
declared_under r name functions def = declared_of r name (shown_resource_members r functions) def.kind

-- a type under its own name, with what stands in front of it
abbrev pub type_member : Resolve → List (Bor Function) → TypeDef → MemberTree
type_member r functions def = TypeMember (type_prefix def) (declared_under r (present_name def.name) functions def)

-- the types of an interface, in a block of the package `here`
abbrev pub interface_type_members : Resolve → PackageId → InterfaceId → Interface → List MemberTree
interface_type_members r here id interface = type_members r here (owner.Interface id) (listed_functions interface) (listed_types interface)

-- ---- items

-- a function that a world imports or exports, under its name
abbrev pub named_function : Resolve → Function → ExternTree
named_function r f = NamedFunction (text_of f.name) (shown_signature r f)

-- an interface without a name under a label, with all that it has
abbrev pub inline_interface : Resolve → Text → InterfaceId → Interface → ExternTree
inline_interface r label id interface = NamedInterface label (shown_interface r id interface)

-- an interface of a package under a name, with its documentation, its gates and all that it has
abbrev pub interface_item : Resolve → Text → InterfaceId → Interface → ItemTree
interface_item r name id interface = InterfaceItem (shown_docs interface.docs) (shown_gates interface.stability) name (shown_interface r id interface)
