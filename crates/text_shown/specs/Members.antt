-- What is asked of the members of an interface, so that they are shown as they are stated: uses alone of types of other interfaces.
use Rattle.std.specs.Prelude.{◌≡◌, false, List, Option, Some, option_map, slice_get}
use Rattle.wit_model.specs.{Text.Text, Text.text_of, Parts.same_owner, Lookup.interface_at, Lookup.package_at, Valid.IsValid}
use Rattle.wit_model.specs.declared.model.{Resolve.Resolve, TypeDef.TypeDef, TypeId.TypeId, TypeOwner.TypeOwner, InterfaceId.InterfaceId}
use Rattle.wit_model.specs.declared.model.{PackageId.PackageId, Package.Package, Interface.Interface}
use Rattle.wit_model.specs.declared.model.TypeOwner.TheVariants as owner
use Rattle.print_grammar.specs.Tree.{PackageHead, PathTree, MemberTree}
use Rattle.print_items.specs.Shown.{path_from_owner, shown_head, shown_interface}
use Rattle.text_types.specs.Made.{MembersAre}
use Rattle.text_shown.specs.Means.{IsUsed}
use Rattle.text_shown.specs.Same.{plain_path, SameMembers}

-- ---- uses

-- From an owner in a package, a path and a name mean this type: it has the name, belongs to an interface other than the owner, and is shown by the path.
pub record IsForeign (r : Resolve) (here : PackageHead) (own : TypeOwner) (home : Option PackageId) (path : PathTree) (name : Text) (id : TypeId) : Type 0 where
  pub interface : InterfaceId
  pub def : TypeDef
  pub there : slice_get r.types.items id.0 ≡ Some def
  pub named : option_map text_of def.name ≡ Some name
  pub owned : def.owner ≡ owner.Interface interface
  pub apart : same_owner own (owner.Interface interface) ≡ false
  pub shown : plain_path here (path_from_owner r home interface) ≡ plain_path here path

-- ---- what is stated

-- An interface of this package has what these members state.
pub record HasMembers (r : Resolve) (home : PackageId) (id : InterfaceId) (i : Interface) (members : List MemberTree) : Type 0 where
  pub there : interface_at r id.0 ≡ Some i
  pub placed : i.«package» ≡ Some home
  pub are : MembersAre r.types.items (IsUsed r home.0 (owner.Interface id)) (owner.Interface id) members i.types i.functions

-- What is shown of an interface is the members that it has.
abbrev pub ShowsMembers : Type 0
ShowsMembers = (r : Resolve) → IsValid r → (home : PackageId) (p : Package) → package_at r home.0 ≡ Some p → (id : InterfaceId) (i : Interface)
    (members : List MemberTree) → HasMembers r home id i members → SameMembers (shown_head p) (shown_interface r id i) members
