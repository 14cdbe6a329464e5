-- Texts as files of packages: inclusions of worlds written out, names at the top put in, and each with the name of its package (WIT.md, "Item: include",
-- "Item: toplevel-use", "Package declaration").
use Rattle.std.specs.Prelude.{◌≡◌, ◌++◌, ◌∷◌, ◌&&◌, Bool, true, false, ℕ, nat_eq, List, [], map, Option, None, Some, unwrap_or, Contains, if◌then◌else◌}
use Rattle.std.specs.{Bool.beq, List.AllZip, List.filter_map, List.flat_map, List.list_any, Option.option_map, Option.option_map_or}
use Rattle.text_tokens.specs.Documentation.{docs_in}
use Rattle.wit_model.specs.Text.{Text, text_eq}
use Rattle.print_grammar.specs.Tree.{PathTree, PathTree.Local, PathTree.Full, UsedName, ExternTree, ExternTree.Path, ExternTree.NamedFunction, ExternTree.NamedPath, ExternTree.NamedInterface}
use Rattle.print_grammar.specs.Tree.{WorldMember, ItemTree, ItemTree.InterfaceItem, ItemTree.WorldItem, PackageHead, PackageTree, FileTree}
use Rattle.print_grammar.specs.Tree.WorldMember.{WorldUse, WorldType, WorldImport, WorldExport}
use Rattle.text_trees.specs.TextTree.{NestedTree, TextItem, TextTree, WorldPart, TextItem.AnInterface, TextItem.AWorld, TextItem.AName, WorldPart.Has, WorldPart.Includes}
use Rattle.text_plain.specs.Moved.{moved_member, moved_world_member, renamed, routed, same_head, seen_from}

-- ---- names at the top

-- the last name of a path
abbrev pub last_name : PathTree → Text
last_name (Local name) = name
last_name (Full namespace name interface version) = interface

-- the name of an item at the top, and the path for which it stands
abbrev pub alias_of : TextItem → Option (Text × PathTree)
alias_of (AnInterface docs gates name members) = None
alias_of (AWorld docs gates name parts) = None
alias_of (AName path own) = Some (unwrap_or own (last_name path), path)

-- the names at the top of a package, with their paths
abbrev pub aliases_of : List TextItem → List (Text × PathTree)
aliases_of items = filter_map alias_of items

-- ---- worlds

-- an inclusion: the path of a world, and other names for some of what it has
pub record Inclusion : Type 0 where
  pub path : PathTree
  pub names : List UsedName

-- what a world has of its own
abbrev pub own_member : WorldPart → Option WorldMember
own_member (Has it) = Some it
own_member (Includes prefix path names) = None

-- what it includes
abbrev pub inclusion_of : WorldPart → Option Inclusion
inclusion_of (Has it) = None
inclusion_of (Includes prefix path names) = Some (record { path = path; names = names })

-- A world of the texts: its package's name, its own, what it has of its own, and what it includes, with paths in the place of names at the top.
pub record WorldAt : Type 0 where
  pub home : PackageHead
  pub name : Text
  pub members : List WorldMember
  pub inclusions : List Inclusion

-- an inclusion with a path in the place of a name at the top
abbrev pub routed_inclusion : List (Text × PathTree) → Inclusion → Inclusion
routed_inclusion aliases it = record it { path = routed aliases it.path }

-- a world of a package with these names at the top
abbrev pub world_with : PackageHead → List (Text × PathTree) → Text → List WorldPart → WorldAt
world_with home aliases name parts =
    record {
      home = home;
      name = name;
      members = map (moved_world_member (λ n. n) (routed aliases)) (filter_map own_member parts);
      inclusions = map (routed_inclusion aliases) (filter_map inclusion_of parts);
    }

-- the name of the package that a path means, from another
abbrev pub home_of : PackageHead → PathTree → PackageHead
home_of here (Local name) = record here { docs = [] }
home_of here (Full namespace name interface version) = record { docs = []; namespace = namespace; name = name; version = version }

-- What stands in a package: its package's name, and its own.
pub record Named : Type 0 where
  pub home : PackageHead
  pub name : Text

-- whether two are the same
abbrev pub same_named : Named → Named → Bool
same_named a b = same_head a.home b.home && text_eq a.name b.name

-- what a path means, from a package
abbrev pub named_by : PackageHead → PathTree → Named
named_by here path = record { home = home_of here path; name = last_name path }

-- what names a world
abbrev pub named_world : WorldAt → Named
named_world world_ = record { home = record world_.home { docs = [] }; name = world_.name }

-- From a package, a path means this world of the texts.
pub record IsWorldOf (worlds : List WorldAt) (here : PackageHead) (path : PathTree) (world_ : WorldAt) : Type 0 where
  pub there : Contains worlds world_
  pub named : same_named (named_by here path) (named_world world_) ≡ true

-- ---- what is included

-- An interface that a world imports or exports by itself: whether it exports it, and which one it is.
pub record Standing : Type 0 where
  pub exported : Bool
  pub named : Named

-- whether two are the same
abbrev pub same_standing : Standing → Standing → Bool
same_standing a b = beq a.exported b.exported && same_named a.named b.named

-- the interface that is imported, or exported, by itself
abbrev pub standing_by : Bool → PackageHead → ExternTree → Option Standing
standing_by exported here (Path path) = Some (record { exported = exported; named = named_by here path })
standing_by exported here (NamedFunction name s) = None
standing_by exported here (NamedPath name path) = None
standing_by exported here (NamedInterface name members) = None

-- the interface that is imported or exported by itself, if what a world of a package has is that
abbrev pub standing_of : PackageHead → WorldMember → Option Standing
standing_of here (WorldImport prefix e) = standing_by false here e
standing_of here (WorldExport prefix e) = standing_by true here e
standing_of here (WorldUse prefix path names) = None
standing_of here (WorldType prefix declared) = None

-- Whether the same interface is imported, or exported, by itself among these: it is then not included once more.
abbrev pub stands_already : PackageHead → List WorldMember → WorldMember → Bool
stands_already here members it = option_map_or (λ own. list_any (same_standing own) (filter_map (standing_of here) members)) (standing_of here it) false

-- what a world has, with one thing besides, unless it stands there already
abbrev pub with_member : PackageHead → List WorldMember → WorldMember → List WorldMember
with_member here members it = if stands_already here members it then members else members ++ it ∷ []

-- what a world has, with what is included besides
abbrev pub merged : PackageHead → List WorldMember → List WorldMember → List WorldMember
merged here members [] = members
merged here members (it ∷ more) = merged here (with_member here members it) more

mutual
  -- What a world of the texts has when its inclusions are written out: its own first, and then what each of the included ones has, in order.
  pub data Expands (worlds : List WorldAt) : WorldAt → List WorldMember → Type 0 where
    expands : {world_ : WorldAt} {all : List WorldMember} → Included worlds world_.home world_.inclusions world_.members all → Expands worlds world_ all

  -- What a world of a package has when these inclusions come to it.
  pub data Included (worlds : List WorldAt) : PackageHead → List Inclusion → List WorldMember → List WorldMember → Type 0 where
    no_more : {here : PackageHead} {all : List WorldMember} → Included worlds here [] all all
    one_more : {here : PackageHead} {inclusion : Inclusion} {rest : List Inclusion} {members its all : List WorldMember} (other : WorldAt)
        → IsWorldOf worlds here inclusion.path other → Expands worlds other its
        → Included worlds here rest
        (merged here members (map (moved_world_member (renamed inclusion.names) (seen_from other.home here)) its)) all
        → Included worlds here (inclusion ∷ rest) members all

-- ---- packages and files

-- the worlds of a package with these items
abbrev pub worlds_in : PackageHead → List (Text × PathTree) → List TextItem → List WorldAt
worlds_in home aliases items = filter_map world_in items
  where
    world_in : TextItem → Option WorldAt
    world_in (AnInterface docs gates name members) = None
    world_in (AWorld docs gates name parts) = Some (world_with home aliases name parts)
    world_in (AName path own) = None

-- Items of a package are these: interfaces and worlds, with paths in the place of names at the top, and with inclusions written out.
pub data ItemsAre (worlds : List WorldAt) (home : PackageHead) (aliases : List (Text × PathTree)) : List TextItem → List ItemTree → Type 0 where
  no_items : ItemsAre worlds home aliases [] []
  an_interface : {docs : List Text} {gates : _} {name : Text} {members : List _} {items : List TextItem} {plain : List ItemTree}
      → ItemsAre worlds home aliases items plain
      → ItemsAre worlds home aliases (AnInterface docs gates name members ∷ items)
      (InterfaceItem docs gates name (map (moved_member (routed aliases)) members) ∷ plain)
  a_world : {docs : List Text} {gates : _} {name : Text} {parts : List WorldPart} {all : List WorldMember} {items : List TextItem} {plain : List ItemTree}
      → Expands worlds (world_with home aliases name parts) all → ItemsAre worlds home aliases items plain
      → ItemsAre worlds home aliases (AWorld docs gates name parts ∷ items) (WorldItem docs gates name all ∷ plain)
  a_name : {path : PathTree} {own : Option Text} {items : List TextItem} {plain : List ItemTree} → ItemsAre worlds home aliases items plain
      → ItemsAre worlds home aliases (AName path own ∷ items) plain

-- A nested package is this one.
pub record NestedIs (worlds : List WorldAt) (tree : NestedTree) (plain : PackageTree) : Type 0 where
  pub head : plain.head ≡ tree.head
  pub items : ItemsAre worlds tree.head (aliases_of tree.items) tree.items plain.items

-- A text of a folder, by the number of the folder.
pub record FolderText : Type 0 where
  pub folder : ℕ
  pub tree : TextTree

-- the name of a package that a text says, if it is one of this folder
abbrev pub head_in : ℕ → FolderText → Option PackageHead
head_in folder t = if nat_eq t.folder folder then t.tree.head else None

-- the names of packages that texts of a folder say
abbrev pub heads_in : ℕ → List FolderText → List PackageHead
heads_in folder texts = filter_map (head_in folder) texts

-- the first of these
abbrev pub first_of : List PackageHead → Option PackageHead
first_of [] = None
first_of (head ∷ heads) = Some head

-- a package's name that another text says: its documentation stands there, and here is that of an empty gap
abbrev pub without_docs : PackageHead → PackageHead
without_docs head = record head { docs = docs_in [] }

-- the name of a text's package: its own, or else the first of its folder
abbrev pub head_or : Option PackageHead → Option PackageHead → Option PackageHead
head_or (Some head) first = Some head
head_or None first = option_map without_docs first

abbrev pub head_of_text : List FolderText → FolderText → Option PackageHead
head_of_text texts t = head_or t.tree.head (first_of (heads_in t.folder texts))

-- A text is this file.
pub record FileIs (texts : List FolderText) (worlds : List WorldAt) (t : FolderText) (file : FileTree) : Type 0 where
  pub head : head_of_text texts t ≡ Some file.main.head
  pub items : ItemsAre worlds file.main.head (aliases_of t.tree.items) t.tree.items file.main.items
  pub nested : AllZip (NestedIs worlds) t.tree.nested file.nested

-- the worlds of a text's own package, if it has a name
abbrev pub own_worlds : FolderText → Option PackageHead → List WorldAt
own_worlds t None = []
own_worlds t (Some head) = worlds_in head (aliases_of t.tree.items) t.tree.items

-- the worlds of a nested package
abbrev pub nested_worlds : NestedTree → List WorldAt
nested_worlds n = worlds_in n.head (aliases_of n.items) n.items

-- the worlds of a text
abbrev pub worlds_of_text : List FolderText → FolderText → List WorldAt
worlds_of_text texts t = own_worlds t (head_of_text texts t) ++ flat_map nested_worlds t.tree.nested

-- Texts are these files.
abbrev pub FilesAre : List FolderText → List FileTree → Type 0
FilesAre texts files = AllZip (FileIs texts (flat_map (worlds_of_text texts) texts)) texts files
