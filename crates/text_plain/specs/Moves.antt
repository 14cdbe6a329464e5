-- How trees come into the whole text, in which all texts stand one after the other: which text their spans are of, and which names and paths are put in.
use Rattle.std.specs.Prelude.{◌≡◌, ◌+◌, ◌<◌, ◌≤◌, ◌^◌, List, [], map, Option, None, Some, option_map, take, drop, length}
use Rattle.std.specs.Borrow.{Bor}
use Rattle.indexmap.specs.IndexMap.{IndexMap}
use Rattle.keyed_hash.specs.declared.KeyedHash.{KeyedHash}
use Rattle.wit_model.specs.Text.{Text}
use Rattle.print_grammar.specs.Tree.{PathTree, PathTree.Local, PathTree.Full, UsedName, PackageHead}
use Rattle.text_trees.specs.{Seen.cut, TreesSeen.head_of, TreesSeen.path_of}
use Rattle.text_trees.specs.declared.tree.{PathTree.PathTree as CodePath, Span.Span}
use Rattle.text_plain.specs.declared.moving.Moving.{Moving}
use Rattle.text_plain.specs.Moved.{renamed, routed}

-- tables of names and of paths, in the whole text
abbrev pub Names : Type 0
Names = IndexMap (Bor Text) Span KeyedHash

abbrev pub Routes : Type 0
Routes = IndexMap (Bor Text) CodePath KeyedHash

-- the text that spans are of
abbrev pub text_from : Moving → Text
text_from moving = moving.from.now

-- the whole text
abbrev pub text_to : Moving → Text
text_to moving = moving.whole.now

-- The text stands in the whole one from its base on.
abbrev pub StandsWithin : Moving → Type 0
StandsWithin moving = take (length (text_from moving)) (drop moving.base (text_to moving)) ≡ text_from moving

-- The text stands in the whole one, and the whole one has no more bytes than spans can count.
pub record Fits (moving : Moving) : Type 0 where
  pub stands : StandsWithin moving
  pub within : moving.base + length (text_from moving) ≤ length (text_to moving)
  pub short : length (text_to moving) < 2 ^ 32

-- the names of a table, each with the one in whose place it stands, where there is a table
abbrev pub table_names : Text → Option (Bor Names) → List UsedName
table_names whole None = []
table_names whole (Some table) = map (λ entry. record { other = entry.0.now; own = Some (cut whole entry.1) }) table.now.entries

-- the names of a table, each with the path for which it stands, where there is a table
abbrev pub table_routes : Text → Option (Bor Routes) → List (Text × PathTree)
table_routes whole None = []
table_routes whole (Some table) = map (λ entry. (entry.0.now, path_of whole entry.1)) table.now.entries

-- other names, each with the one in whose place it stands
abbrev pub names_of : Moving → List UsedName
names_of moving = table_names (text_to moving) moving.names

-- names that stand for paths
abbrev pub routes_of : Moving → List (Text × PathTree)
routes_of moving = table_routes (text_to moving) moving.routes

-- a path of another package, by that package's name
abbrev pub by_home : Option PackageHead → PathTree → PathTree
by_home None path = path
by_home (Some home) (Local name) = Full home.namespace home.name name home.version
by_home (Some home) (Full namespace name interface version) = Full namespace name interface version

-- what becomes of a name
abbrev pub on_name : Moving → Text → Text
on_name moving = renamed (names_of moving)

-- what becomes of a path
abbrev pub on_path : Moving → PathTree → PathTree
on_path moving path = by_home (option_map (head_of (text_to moving)) moving.home) (routed (routes_of moving) path)
