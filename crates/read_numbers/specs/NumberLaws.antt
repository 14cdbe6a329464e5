-- What was followed stands, in numbers, for what it stands for.
use Rattle.std.specs.Prelude.{List, length, Option}
use Rattle.wit_model.specs.Text.{Text}
use Rattle.plan_meaning.specs.{NumberedViews.place_at, NumberedViews.AreTables, NumberedWorlds.KeyStands, NumberedWorlds.Shows, Shapes.Shape}
use Rattle.read_follow.specs.Functions.{AreApart, FunctionShape}
use Rattle.read_follow.specs.{Places.ArePathsApart, Places.ArePlacesOf, Places.IsKeyIn, Scopes.meant_at, Scopes.world_of, Scopes.IsWorld}
use Rattle.read_follow.specs.declared.{instance_keys.InstanceKey.InstanceKey, scopes.Scope.Scope}
use Rattle.read_numbers.specs.NumberedParts.{numbered_key, numbered_scope, tables_in}
use Rattle.read_follow.specs.Following as following

-- Well-formed tables, in which each type of a function and each path stands once, are so in numbers.
abbrev pub TablesInNumbers : Type 0
TablesInNumbers = (shapes : List Shape) (fs : List FunctionShape) (paths : List (Option Text)) → following.AreTables (length paths) shapes fs → AreApart fs
    → ArePathsApart paths
    → AreTables (tables_in shapes fs paths)

-- Each place is that of its path, or of the scope itself.
abbrev pub PlacesInNumbers : Type 0
PlacesInNumbers = (shapes : List Shape) (fs : List FunctionShape) (paths : List (Option Text)) → ArePlacesOf paths (place_at (tables_in shapes fs paths))

-- A scope shows, in numbers, what it stands for.
abbrev pub ScopesInNumbers : Type 0
ScopesInNumbers = (shapes : List Shape) (fs : List FunctionShape) (paths : List (Option Text)) (scope : Scope) → IsWorld (world_of shapes fs paths scope)
    → Shows (tables_in shapes fs paths) (numbered_scope paths scope) (meant_at (place_at (tables_in shapes fs paths)) (world_of shapes fs paths scope))

-- The place of a path has one, and that of an inline interface has none.
abbrev pub KeysInNumbers : Type 0
KeysInNumbers = (shapes : List Shape) (fs : List FunctionShape) (paths : List (Option Text)) (key : InstanceKey) → IsKeyIn paths key
    → KeyStands (tables_in shapes fs paths) (numbered_key key)
