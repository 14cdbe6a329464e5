-- What paths and names of a text mean in a `Resolve` (WIT.md, "Item: use").
use Rattle.std.specs.Prelude.{◌≡◌, ℕ, false, [], Option, Some, slice_get}
use Rattle.std.specs.{HashMap.get_by_text}
use Rattle.wit_model.specs.Text.{Text}
use Rattle.wit_model.specs.declared.model.{Resolve.Resolve, Package.Package, Interface.Interface, InterfaceId.InterfaceId, TypeId.TypeId}
use Rattle.wit_model.specs.Parts.{same_owner}
use Rattle.wit_model.specs.declared.model.TypeOwner.{TypeOwner}
use Rattle.wit_model.specs.declared.model.TypeOwner.TheVariants as owner
use Rattle.print_grammar.specs.Tree.{PathTree, PathTree.Local, PathTree.Full}
use Rattle.print_items.specs.Shown.{shown_head}

-- The package of this number has an interface of this name and number.
pub record HasInterface (r : Resolve) (n : ℕ) (name : Text) (id : InterfaceId) : Type 0 where
  pub home : Package
  pub there : slice_get r.packages.items n ≡ Some home
  pub has : get_by_text home.interfaces name ≡ Some id

-- From the package of this number, a path means an interface: one of the same package, or of the package that it names.
pub data PathIs (r : Resolve) (here : ℕ) : PathTree → InterfaceId → Type 0 where
  own_package : {name : Text} {id : InterfaceId} → HasInterface r here name id → PathIs r here (Local name) id
  other_package : {n : ℕ} {p : Package} {namespace name interface : Text} {version : Option Text} {id : InterfaceId} → slice_get r.packages.items n ≡ Some p
      → shown_head p ≡ record { docs = []; namespace = namespace; name = name; version = version } → HasInterface r n interface id
      → PathIs r here (Full namespace name interface version) id

-- A path and a name mean this type: the interface of the path has it under the name.
pub record TargetIs (r : Resolve) (here : ℕ) (path : PathTree) (name : Text) (id : TypeId) : Type 0 where
  pub number : InterfaceId
  pub means : PathIs r here path number
  pub interface : Interface
  pub there : slice_get r.interfaces.items number.0 ≡ Some interface
  pub has : get_by_text interface.types name ≡ Some id

-- For an owner in the package of this number, a path and a name mean this type, and the interface of the path isn't the owner.
pub record IsUsed (r : Resolve) (here : ℕ) (own : TypeOwner) (path : PathTree) (name : Text) (id : TypeId) : Type 0 where
  pub is : TargetIs r here path name id
  pub apart : same_owner own (owner.Interface is.number) ≡ false
