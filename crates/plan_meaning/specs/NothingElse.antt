-- That a `Resolve` holds what its package, or its world, means, and nothing else.
use Rattle.std.specs.Prelude.{◌≡◌, ℕ, Bool, true, false, ◌&&◌, ◌||◌, ◌==◌, [], ◌∷◌, filter_map, Some, is_some, is_none}
use Rattle.std.specs.List.{Contains, list_any}
use Rattle.wit_model.specs.declared.model.{Resolve.Resolve, Package.Package, Interface.Interface, World.World, TypeDef.TypeDef}
use Rattle.wit_model.specs.{Lookup.package_at, Lookup.interface_at, Lookup.world_at, Lookup.type_at, Valid.functions_of_interface, Valid.functions_of_world}
use Rattle.wit_model.specs.{Parts.kind_numbers, Parts.function_numbers, Meant.is_foreign, Rules.has_items}
use Rattle.wit_model.specs.Uses.{has, item_interface, items_of, worlds_of, reached_by_package, is_shown_in}

-- a part of a type, or of a function
abbrev pub is_part_of : Resolve → ℕ → Bool
is_part_of r n = list_any (λ def. has (kind_numbers def.kind) n) r.types.items
    || (list_any (λ i. list_any (λ f. has (function_numbers f) n) (functions_of_interface i)) r.interfaces.items
    || list_any (λ w. list_any (λ f. has (function_numbers f) n) (functions_of_world w)) r.worlds.items)

-- each type is named, or a part of another or of a function, without an external id
abbrev pub TypesAreUsed : Resolve → Type 0
TypesAreUsed r = (k : ℕ) (def : TypeDef) → type_at r k ≡ Some def → (is_some def.name || (is_part_of r k && is_none def.external_id)) ≡ true

-- each package is the one of this number, or has an interface
abbrev pub PackagesAreUsed : Resolve → ℕ → Type 0
PackagesAreUsed r n = (k : ℕ) (q : Package) → package_at r k ≡ Some q → ((k == n) || has_items q.interfaces.entries) ≡ true

-- Each interface is reached from the package, and each world is one of its. An interface of another package that none of them shows has no functions.
pub record HoldsPackageAlone (r : Resolve) (n : ℕ) (p : Package) : Type 0 where
  pub interfaces : (k : ℕ) (i : Interface) → interface_at r k ≡ Some i → has (reached_by_package r p) k ≡ true
  pub worlds : (k : ℕ) (w : World) → world_at r k ≡ Some w → Contains (worlds_of r p) w
  pub functions : (k : ℕ) (i : Interface) → interface_at r k ≡ Some i → is_foreign r n k ≡ true → is_shown_in r p k ≡ false → i.functions.entries ≡ []
  pub packages : PackagesAreUsed r n
  pub types : TypesAreUsed r

-- There is one world, and each interface is an item of it.
pub record HoldsWorldAlone (r : Resolve) (n : ℕ) (w : World) : Type 0 where
  pub one : r.worlds.items ≡ w ∷ []
  pub interfaces : (k : ℕ) (i : Interface) → interface_at r k ≡ Some i → has (filter_map item_interface (items_of w)) k ≡ true
  pub packages : PackagesAreUsed r n
  pub types : TypesAreUsed r
