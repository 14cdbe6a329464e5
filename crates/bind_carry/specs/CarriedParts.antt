-- What is carried with the owners that are: parts of their types, and types of their functions.
use Rattle.std.specs.Prelude.{◌≡◌, ℕ, Bool, true, false, Some, is_some}
use Rattle.std.specs.List.{list_all}
use Rattle.wit_model.specs.declared.model.{Function.Function, Interface.Interface, Resolve.Resolve, TypeDef.TypeDef, TypeOwner.TypeOwner, World.World}
use Rattle.wit_model.specs.{Lookup.interface_at, Lookup.type_at, Lookup.world_at, Parts.function_numbers, Parts.kind_numbers}
use Rattle.wit_model.specs.Valid.{IsValid, as_interface, as_world, functions_of_interface, functions_of_world}

-- The named types of these owners are carried, interfaces with a name are among them, and a type without a name is carried where all its parts are.
pub record AreCarriedByOwner (r : Resolve) (carried : ℕ → Bool) (owners : TypeOwner → Bool) : Type 0 where
  pub named : (n : ℕ) (def : TypeDef) → type_at r n ≡ Some def → is_some def.name ≡ true → owners def.owner ≡ true → carried n ≡ true
  pub unnamed : (n : ℕ) (def : TypeDef) → type_at r n ≡ Some def → is_some def.name ≡ false → list_all carried (kind_numbers def.kind) ≡ true → carried n ≡ true
  pub with_path : (n : ℕ) (i : Interface) → interface_at r n ≡ Some i → is_some i.name ≡ true → owners (as_interface n) ≡ true

abbrev pub is_function_carried : (ℕ → Bool) → Function → Bool
is_function_carried carried f = list_all carried (function_numbers f)

-- All parts of the named types of these owners are carried, and all types of their functions.
pub record PartsOfOwners (r : Resolve) (carried : ℕ → Bool) (owners : TypeOwner → Bool) : Type 0 where
  pub types : (n : ℕ) (def : TypeDef) → type_at r n ≡ Some def → is_some def.name ≡ true → owners def.owner ≡ true
      → list_all carried (kind_numbers def.kind) ≡ true
  pub of_interfaces : (n : ℕ) (i : Interface) → interface_at r n ≡ Some i → owners (as_interface n) ≡ true
      → list_all (is_function_carried carried) (functions_of_interface i) ≡ true
  pub of_worlds : (n : ℕ) (w : World) → world_at r n ≡ Some w → owners (as_world n) ≡ true
      → list_all (is_function_carried carried) (functions_of_world w) ≡ true

-- In a valid one the second follows from the first.
abbrev pub PartsAreCarried : Type 0
PartsAreCarried = (r : Resolve) (carried : ℕ → Bool) (owners : TypeOwner → Bool) → IsValid r → AreCarriedByOwner r carried owners
    → PartsOfOwners r carried owners
