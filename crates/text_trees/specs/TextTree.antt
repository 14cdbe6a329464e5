-- The tree of a WIT text, which has more than a tree that is printed: inclusions of worlds, and names for interfaces at the top. It has no name of a package
-- where another text of the folder has it (WIT.md, "Package declaration", "Item: toplevel-use", "Item: include").
use Rattle.std.specs.Prelude.{List, Option}
use Rattle.wit_model.specs.Text.{Text}
use Rattle.print_grammar.specs.Tree.{Gates, Prefix, PathTree, UsedName, MemberTree, WorldMember, PackageHead}

-- What a world of a text has: what a world has, or all that another world has, with other names for some of it (world-items, include-item).
pub data WorldPart : Type 0 where
  Has : WorldMember → WorldPart
  Includes : Prefix → PathTree → List UsedName → WorldPart

-- An item: an interface, a world, or a name for the one that a path means, its last name or another (package-items, toplevel-use-item).
pub data TextItem : Type 0 where
  AnInterface : List Text → Gates → Text → List MemberTree → TextItem
  AWorld : List Text → Gates → Text → List WorldPart → TextItem
  AName : PathTree → Option Text → TextItem

-- A package that is nested in a text: what names it, and items.
pub record NestedTree : Type 0 where
  pub head : PackageHead
  pub items : List TextItem

-- A text: what names its package, if it says so, its items, and the nested packages (wit-file).
pub record TextTree : Type 0 where
  pub head : Option PackageHead
  pub items : List TextItem
  pub nested : List NestedTree
