-- What an interface or a world of valid packages has can be handed in to be printed: its types under their names, and its functions by resource.
use Rattle.std.specs.{Prelude.◌≡◌, Prelude.true, Prelude.List, Prelude.Some, Prelude.Vec, Borrow.Bor, List.Contains, List.list_all}
use Rattle.std.specs.declared.alloc.Global.{Global}
use Rattle.wit_model.specs.{Lookup.interface_at, Lookup.world_at, Valid.IsValid}
use Rattle.wit_model.specs.declared.model.{Function.Function, Interface.Interface, InterfaceId.InterfaceId, Resolve.Resolve, TypeId.TypeId, WorldId.WorldId}
use Rattle.wit_model.specs.declared.model.World.{World}
use Rattle.print_items.specs.Shown.{Listed, imported_functions, listed_functions, listed_imports, listed_types}
use Rattle.print_packages.specs.GivenTypes.{Functions, are_functions_of, behind}
use Rattle.print_uses.specs.UseGroups.{is_listed_type}
use Rattle.wit_model.specs.declared.model.TypeOwner.TheVariants as owner

-- each of these is a type of the interface, under its name
abbrev pub AreItsTypes : Interface → List Listed → Type 0
AreItsTypes i given = (t : Listed) → Contains given t → Contains (listed_types i) t

-- each of these is a function of the interface, whatever it stands under
abbrev pub AreItsFunctions : Interface → Functions → Type 0
AreItsFunctions i entries = (under : TypeId × Vec (Bor Function) Global) → Contains entries under → (f : Function) → Contains (behind under.1) f
    → Contains (listed_functions i) f

-- types of an interface are listed types of it
abbrev pub TypesCanBeGiven : Type 0
TypesCanBeGiven = (r : Resolve) (id : InterfaceId) (i : Interface) → IsValid r → interface_at r id.0 ≡ Some i → (given : List Listed) → AreItsTypes i given
    → list_all (is_listed_type r (owner.Interface id)) given ≡ true

-- functions of an interface are such functions of it
abbrev pub FunctionsCanBeGiven : Type 0
FunctionsCanBeGiven = (r : Resolve) (id : InterfaceId) (i : Interface) → IsValid r → interface_at r id.0 ≡ Some i → (entries : Functions)
    → AreItsFunctions i entries
    → are_functions_of r (owner.Interface id) entries ≡ true

-- ---- worlds

-- each of these is a type that the world imports, under its name
abbrev pub AreTypesOfWorld : World → List Listed → Type 0
AreTypesOfWorld w given = (t : Listed) → Contains given t → Contains (listed_imports w) t

-- each of these is a function that the world imports, whatever it stands under
abbrev pub AreFunctionsOfWorld : World → Functions → Type 0
AreFunctionsOfWorld w entries = (under : TypeId × Vec (Bor Function) Global) → Contains entries under → (f : Function) → Contains (behind under.1) f
    → Contains (imported_functions w) f

-- types of a world are listed types of it
abbrev pub WorldTypesCanBeGiven : Type 0
WorldTypesCanBeGiven = (r : Resolve) (id : WorldId) (w : World) → IsValid r → world_at r id.0 ≡ Some w → (given : List Listed) → AreTypesOfWorld w given
    → list_all (is_listed_type r (owner.World id)) given ≡ true

-- functions that a world imports are such functions of it
abbrev pub WorldFunctionsCanBeGiven : Type 0
WorldFunctionsCanBeGiven = (r : Resolve) (id : WorldId) (w : World) → IsValid r → world_at r id.0 ≡ Some w → (entries : Functions)
    → AreFunctionsOfWorld w entries
    → are_functions_of r (owner.World id) entries ≡ true
