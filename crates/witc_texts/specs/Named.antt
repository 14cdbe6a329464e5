-- Worlds of a package by their names.
use Rattle.std.specs.Prelude.{◌≡◌, ℕ, List, Option, Some, None, option_and_then}
use Rattle.std.specs.HashMap.{get_by_text}
use Rattle.wit_model.specs.declared.model.{Resolve.Resolve, World.World, WorldId.WorldId}
use Rattle.wit_model.specs.Lookup.{package_at, world_at}

-- the world of this name in the package of this number
abbrev pub world_named : Resolve → ℕ → List ℕ → Option World
world_named r n name = option_and_then (λ p. option_and_then (λ id. world_at r id.0) (get_by_text p.worlds name)) (package_at r n)

-- The number is of the world of this name; or there is none.
abbrev pub NamesWorld : Resolve → ℕ → List ℕ → Option WorldId → Type 0
NamesWorld r n name None = world_named r n name ≡ None
NamesWorld r n name (Some id) = (w : World) × (world_at r id.0 ≡ Some w) × (world_named r n name ≡ Some w)
