-- The worlds of texts, by number, and what paths mean.
use Rattle.std.specs.Prelude.{◌≡◌, ◌⊎◌, ℕ, true, List, ◌∷◌, ◌++◌, map, Some, Contains, slice_get}
use Rattle.std.specs.List.{flat_map}
use Rattle.wit_model.specs.Text.{Text}
use Rattle.text_trees.specs.Seen.{cut}
use Rattle.text_trees.specs.TextTreesSeen.{part_of}
use Rattle.text_trees.specs.TreesSeen.{path_of}
use Rattle.text_trees.specs.declared.tree.PathTree.{PathTree as CodePath}
use Rattle.text_plain.specs.declared.{keys.Key.Key, scopes.Scope.Scope, scopes.TextScopes.TextScopes, worlds.WorldSource.WorldSource, worlds.Worlds.Worlds}
use Rattle.text_plain.specs.{Keys.named_there, Moved.routed, Places.IsPlaced}
use Rattle.text_plain.specs.Plain.{WorldAt, named_by, named_world, same_named, world_with, worlds_in}
use Rattle.text_plain.specs.Scopes.{aliases_in, home_of_scope, items_in}

-- a world
abbrev pub world_seen : WorldSource → WorldAt
world_seen w =
    world_with (home_of_scope w.scope.now) (aliases_in w.scope.now) (cut w.scope.now.place.from.now w.name)
    (map (part_of w.scope.now.place.from.now) w.parts.now.items)

-- the worlds of a scope
abbrev pub worlds_of_scope : Scope → List WorldAt
worlds_of_scope s = worlds_in (home_of_scope s) (aliases_in s) (items_in s)

-- the scopes of a text
abbrev pub scopes_in : TextScopes → List Scope
scopes_in text = text.main ∷ text.nested.items

-- the worlds of texts
abbrev pub worlds_of_scopes : List TextScopes → List WorldAt
worlds_of_scopes texts = flat_map (λ text. flat_map worlds_of_scope (scopes_in text)) texts

-- Scopes have their places in the whole text.
abbrev pub ArePlacedScopes : Text → List Scope → Type 0
ArePlacedScopes whole scopes = (n : ℕ) (s : Scope) → slice_get scopes n ≡ Some s → IsPlaced whole s.place

-- So have those of texts.
abbrev pub ArePlacedTexts : Text → List TextScopes → Type 0
ArePlacedTexts whole texts = (n : ℕ) (text : TextScopes) → slice_get texts n ≡ Some text → ArePlacedScopes whole (scopes_in text)

-- The world of this number has this name.
pub record IsNamed (worlds : List WorldSource) (key : Key) (n : ℕ) : Type 0 where
  pub world_ : WorldSource
  pub stands : slice_get worlds n ≡ Some world_
  pub named : named_there key ≡ named_world (world_seen world_)

-- Worlds have their places in the whole text, and the table has numbers of theirs.
pub record IsWorlds (w : Worlds) : Type 0 where
  pub placed : (n : ℕ) (it : WorldSource) → slice_get w.worlds.items n ≡ Some it → IsPlaced w.whole.now it.scope.now.place
  pub numbers : (key : Key) (n : ℕ) → Contains w.numbers.entries (key, n) → IsNamed w.worlds.items key n

-- At most this number, under this key, has come to the table.
abbrev pub NumbersFirst : List (Key × ℕ) → Key → ℕ → List (Key × ℕ) → Type 0
NumbersFirst old key number new = (k : Key) (n : ℕ) → Contains new (k, n) → Contains old (k, n) ⊎ ((k ≡ key) × (n ≡ number))

-- These worlds are added.
pub record AddsWorlds (old : Worlds) (more : List WorldAt) (new : Worlds) : Type 0 where
  pub index : IsWorlds new
  pub same : new.whole.now ≡ old.whole.now
  pub worlds_are : map world_seen new.worlds.items ≡ map world_seen old.worlds.items ++ more

-- In a package of a text, a path means the world of this number.
pub record Means (w : Worlds) (s : Scope) (path : CodePath) (n : ℕ) : Type 0 where
  pub world_ : WorldSource
  pub stands : slice_get w.worlds.items n ≡ Some world_
  pub named : same_named (named_by (home_of_scope s) (routed (aliases_in s) (path_of s.place.from.now path))) (named_world (world_seen world_)) ≡ true
