-- The package that `witc demo` shows.
use Rattle.std.specs.Prelude.{◌≡◌, ℕ, false, true, List, [], ◌∷◌, codes, None, Some, map, flat_map}
use Rattle.std.specs.{FinMap.from_entries, List.list_all}
use Rattle.wit_model.specs.declared.model.{Package.Package, Resolve.Resolve, World.World, WorldItem.WorldItem, WorldKey.WorldKey}
use Rattle.wit_model.specs.{Lookup.package_at, Meaning.Entry, Meaning.InterfaceMeaning, Meaning.PackageMeaning, Meaning.WorldMeaning, Meaning.function}
use Rattle.wit_model.specs.{Meant.Meant, Meant.entries_meaning, Meant.world_meaning, Text.Text, Uses.interfaces_of_item, Uses.interfaces_of_world}
use Rattle.wit_component.specs.Built.{IsBare, is_bare_item, is_bare_world}

-- a function without parameters and result, and without external id
abbrev pub nullary : Entry InterfaceMeaning
nullary = record { item = function (record { is_async = false; params = []; result = None }); external_id = None }

-- the world `foo`, which imports `host` and exports `guest`
abbrev pub foo : WorldMeaning
foo = record { imports = (codes "host", nullary) ∷ []; exports = (codes "guest", nullary) ∷ [] }

-- the package `a:b` of this world
abbrev pub demo : PackageMeaning
demo = record {
  identity = record { namespace = codes "a"; name = codes "b"; version = None };
  interfaces = [];
  worlds = (codes "foo", foo) ∷ [];
  foreign = from_entries [];
}

-- The items of a world are the one function of this name, in whichever `Resolve`, without documentation and with no stability known.
pub record IsOneFunction (name : Text) (es : List (WorldKey × WorldItem)) : Type 0 where
  pub means : (r : Resolve) → entries_meaning r es ≡ (name, nullary) ∷ []
  pub alone : (r : Resolve) → flat_map (interfaces_of_item r) (map (λ e. e.1) es) ≡ []
  pub bare : list_all is_bare_item (map (λ e. e.1) es) ≡ true

-- The world means `foo`, in whichever `Resolve`, without documentation and with no stability known.
pub record IsFoo (w : World) : Type 0 where
  pub means : (r : Resolve) → world_meaning r w ≡ foo
  pub alone : (r : Resolve) → interfaces_of_world r w ≡ []
  pub bare : is_bare_world w ≡ true

-- The first package of the `Resolve` means the demo's. No documentation stands there, and no stability is known.
pub record HoldsDemo (r : Resolve) : Type 0 where
  pub package_ : Package
  pub stands : package_at r 0 ≡ Some package_
  pub means : Meant r 0 demo
  pub bare : IsBare r
