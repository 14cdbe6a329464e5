-- When the items of a package declare the same, interface by interface and world by world (WIT.md, "Package declaration").
use Rattle.std.specs.Prelude.{◌≡◌, List, Some}
use Rattle.std.specs.List.{filter_map}
use Rattle.wit_model.specs.{Lookup.package_at, Valid.IsValid}
use Rattle.wit_model.specs.declared.model.{Resolve.Resolve, Package.Package, PackageId.PackageId}
use Rattle.print_grammar.specs.Tree.{FileTree, ItemTree, PackageHead, PackageTree}
use Rattle.print_items.specs.Shown.{shown_head, shown_package}
use Rattle.text_types.specs.Each.{EachIs}
use Rattle.text_shown.specs.{Same.SameMembers, SameWorlds.SameWorlds}
use Rattle.text_shown.specs.{Shows.interface_of, Shows.items_of, Shows.world_of, Shows.InterfaceTree, Shows.ShowsFiles, ShowsWorlds.WorldTree}

-- Two interfaces have the same documentation, gates and name, and the same members.
pub record SameInterface (here : PackageHead) (shown stated : InterfaceTree) : Type 0 where
  pub docs : shown.docs ≡ stated.docs
  pub gates : shown.gates ≡ stated.gates
  pub name : shown.name ≡ stated.name
  pub members : SameMembers here shown.members stated.members

-- Two worlds have the same documentation, gates and name, and the same members, but that the one may have bare imports beside.
pub record SameWorld (here : PackageHead) (shown stated : WorldTree) : Type 0 where
  pub docs : shown.docs ≡ stated.docs
  pub gates : shown.gates ≡ stated.gates
  pub name : shown.name ≡ stated.name
  pub members : SameWorlds here shown.members stated.members

-- Items are the same interfaces, in their order, and the same worlds, in theirs.
pub record SameItems (here : PackageHead) (shown stated : List ItemTree) : Type 0 where
  pub interfaces : EachIs (SameInterface here) (filter_map interface_of shown) (filter_map interface_of stated)
  pub worlds : EachIs (SameWorld here) (filter_map world_of shown) (filter_map world_of stated)

-- A package of a `Resolve` that shows files is printed under its name, with the items that the files declare under it.
pub record IsPrinted (files : List FileTree) (p : Package) (shown : PackageTree) : Type 0 where
  pub head : shown.head ≡ shown_head p
  pub items : SameItems (shown_head p) shown.items (items_of files (shown_head p))

-- What is shown of a valid `Resolve` that shows files is what the files declare.
abbrev pub ShowsPackages : Type 0
ShowsPackages = (r : Resolve) → IsValid r → (files : List FileTree) (mains : List PackageId) → ShowsFiles files r mains
    → (id : PackageId) (p : Package) → package_at r id.0 ≡ Some p → IsPrinted files p (shown_package r id)
