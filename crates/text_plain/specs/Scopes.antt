-- Packages of texts, each with the names at its top.
use Rattle.std.specs.Prelude.{◌≡◌, ℕ, nat_eq, List, [], map, Some}
use Rattle.std.specs.{Borrow.Bor, List.AllZip, Map.lookup, Option.option_map}
use Rattle.wit_model.specs.Text.{Text}
use Rattle.print_grammar.specs.Tree.{PackageHead, PathTree}
use Rattle.text_trees.specs.TextTree.{TextItem}
use Rattle.text_trees.specs.TextTreesSeen.{documented_head, text_item_of}
use Rattle.text_trees.specs.TreesSeen.{head_of, path_of}
use Rattle.text_trees.specs.declared.tree.{PackageHead.PackageHead as CodeHead, PathTree.PathTree as CodePath}
use Rattle.text_plain.specs.declared.moving.Moving.{Moving}
use Rattle.text_plain.specs.declared.{whole.Place.Place, scopes.Heading.Heading, scopes.Scope.Scope, scopes.TextScopes.TextScopes}
use Rattle.text_plain.specs.Moves.{Fits, on_name, on_path, text_from, text_to}
use Rattle.text_plain.specs.Places.{IsPlaced}
use Rattle.text_plain.specs.Plain.{FolderText, aliases_of, first_of, head_of_text, heads_in}

-- what names a package, with its documentation
abbrev pub heading_of : Text → Heading → PackageHead
heading_of whole it = documented_head whole it.docs it.head

-- names, each with the path for which it stands
abbrev pub routes_seen : Text → List (Bor (List ℕ) × CodePath) → List (Text × PathTree)
routes_seen whole entries = map (λ e. (e.0.now, path_of whole e.1)) entries

-- what names the package of a scope
abbrev pub home_of_scope : Scope → PackageHead
home_of_scope s = heading_of s.place.whole.now s.heading

-- the names at its top
abbrev pub aliases_in : Scope → List (Text × PathTree)
aliases_in s = routes_seen s.place.whole.now s.routes.entries

-- its items
abbrev pub items_in : Scope → List TextItem
items_in s = map (text_item_of s.place.from.now) s.items.now.items

-- Trees come so into the whole text: from a place of it, with these names and these paths in the place of others.
pub record MovesBy (place : Place) (names : Text → Text) (paths : PathTree → PathTree) (moving : Moving) : Type 0 where
  pub fits : Fits moving
  pub from_is : text_from moving ≡ place.from.now
  pub to_is : text_to moving ≡ place.whole.now
  pub names_are : on_name moving ≡ names
  pub paths_are : on_path moving ≡ paths

-- what names a package, without documentation
abbrev pub bare_head : PackageHead → PackageHead
bare_head head = record head { docs = [] }

-- Each folder's first name of a package stands in the table.
abbrev pub AreHeadsOf : Text → List FolderText → List (ℕ × CodeHead) → Type 0
AreHeadsOf whole texts entries =
    (folder : ℕ) → option_map (head_of whole) (lookup (nat_eq folder) entries) ≡ option_map bare_head (first_of (heads_in folder texts))

-- The scope is that of a package with this name and these items.
pub record IsScope (whole : Text) (home : PackageHead) (items : List TextItem) (s : Scope) : Type 0 where
  pub place : IsPlaced whole s.place
  pub home_is : home_of_scope s ≡ home
  pub aliases : aliases_in s ≡ aliases_of items
  pub items_are : items_in s ≡ items

-- The scopes are those of a text.
pub record IsTextScope (texts : List FolderText) (whole : Text) (t : FolderText) (scopes : TextScopes) : Type 0 where
  pub home : PackageHead
  pub head : head_of_text texts t ≡ Some home
  pub main : IsScope whole home t.tree.items scopes.main
  pub nested : AllZip (λ n s. IsScope whole n.head n.items s) t.tree.nested scopes.nested.items

-- The scopes are those of the texts.
abbrev pub AreTextScopes : Text → List FolderText → List TextScopes → Type 0
AreTextScopes whole texts scopes = AllZip (IsTextScope texts whole) texts scopes
