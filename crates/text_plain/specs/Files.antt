-- Plain files, by the packages of texts. What worlds have stands in a queue, in the order of the worlds.
use Rattle.std.specs.Prelude.{◌≡◌, ◌++◌, List, map, Option, None, Some, Vec}
use Rattle.std.specs.{Global.Global, List.AllZip, List.flat_map}
use Rattle.wit_model.specs.Text.{Text}
use Rattle.print_grammar.specs.Tree.{ItemTree, ItemTree.InterfaceItem, ItemTree.WorldItem}
use Rattle.text_trees.specs.Seen.{cut}
use Rattle.text_trees.specs.TextTree.{TextItem}
use Rattle.text_trees.specs.TreesSeen.{docs_of, gates_of, member_of, world_member_of}
use Rattle.text_plain.specs.FilesSeen.{package_of}
use Rattle.text_trees.specs.declared.tree.{Gates.Gates, MemberTree.MemberTree as CodeInterfaceMember, Span.Span, WorldMember.WorldMember as CodeMember}
use Rattle.text_plain.specs.declared.files.{FileTree.FileTree as CodeFile, PackageTree.PackageTree as CodePackage}
use Rattle.text_plain.specs.declared.{scopes.Scope.Scope, scopes.TextScopes.TextScopes}
use Rattle.text_plain.specs.Moved.{moved_member, routed}
use Rattle.text_plain.specs.Plain.{Expands, ItemsAre, WorldAt, worlds_in}
use Rattle.text_plain.specs.Scopes.{aliases_in, home_of_scope, items_in}

abbrev pub Queue : Type 0
Queue = List (Option (Vec CodeMember Global))

-- A world has this when its inclusions are written out, if that is done.
abbrev pub ExpandsIf : Text → List WorldAt → WorldAt → Option (Vec CodeMember Global) → Type 0
ExpandsIf whole worlds world_ None = Unit {0}
ExpandsIf whole worlds world_ (Some its) = Expands worlds world_ (map (world_member_of whole) its.items)

-- Items come to others, and what is left of the queue is what these worlds have.
pub record Plains (whole : Text) (worlds : List WorldAt) (s : Scope) (items : List TextItem) (old new : List ItemTree) (ws : List WorldAt)
    (left : Queue) : Type 0 where
  pub plain : List ItemTree
  pub more : new ≡ old ++ plain
  pub are : ItemsAre worlds (home_of_scope s) (aliases_in s) items plain
  pub rest : AllZip (ExpandsIf whole worlds) ws left

-- Items of a package are written out, with what a queue has of their worlds.
abbrev pub PlainsAll : Text → Scope → List TextItem → Queue → Queue → List ItemTree → List ItemTree → Type 0
PlainsAll whole s items queue left old new =
    (worlds ws : List WorldAt) → AllZip (ExpandsIf whole worlds) (worlds_in (home_of_scope s) (aliases_in s) items ++ ws) queue
    → Plains whole worlds s items old new ws left

-- The package is this one.
pub record IsPackage (whole : Text) (worlds : List WorldAt) (s : Scope) (it : CodePackage) : Type 0 where
  pub head : (package_of whole it).head ≡ home_of_scope s
  pub items : ItemsAre worlds (home_of_scope s) (aliases_in s) (items_in s) (package_of whole it).items

-- The file is this one.
pub record IsFile (whole : Text) (worlds : List WorldAt) (text : TextScopes) (it : CodeFile) : Type 0 where
  pub main : IsPackage whole worlds text.main it.main
  pub nested : AllZip (IsPackage whole worlds) text.nested.items it.nested.items

-- These are what they are to be, and what is left of the queue is what these worlds have.
pub record Gives {X Y : Type 0} (whole : Text) (worlds : List WorldAt) (R : X → Y → Type 0) (xs : List X) (ys : List Y) (ws : List WorldAt)
    (left : Queue) : Type 0 where
  pub zip : AllZip R xs ys
  pub rest : AllZip (ExpandsIf whole worlds) ws left

-- They are that, with what a queue has of their worlds.
abbrev pub GivesAll : {X Y : Type 0} → Text → (List WorldAt → X → Y → Type 0) → (X → List WorldAt) → List X → List Y → Queue → Queue → Type 0
GivesAll whole R own xs ys queue left =
    (worlds ws : List WorldAt) → AllZip (ExpandsIf whole worlds) (flat_map own xs ++ ws) queue → Gives whole worlds (R worlds) xs ys ws left

-- an interface of a package, with paths in the place of names at the top
abbrev pub interface_at : Scope → Span → Gates → Span → List CodeInterfaceMember → ItemTree
interface_at s docs gates name members =
    InterfaceItem (docs_of s.place.from.now docs) (gates_of s.place.from.now gates) (cut s.place.from.now name)
    (map (moved_member (routed (aliases_in s))) (map (member_of s.place.from.now) members))

-- a world of a package that has this
abbrev pub world_at : Scope → Span → Gates → Span → List CodeMember → ItemTree
world_at s docs gates name members =
    WorldItem (docs_of s.place.from.now docs) (gates_of s.place.from.now gates) (cut s.place.from.now name) (map (world_member_of s.place.whole.now) members)
