-- Which aliases stand in the component type of an interface: of types that are met, once for each, by the instance of their interface.
use Rattle.std.specs.Prelude.{ℕ, ◌≡◌, ◌⊎◌, nat_eq, List, [], ◌∷◌, ◌++◌, map, Some, None, String, slice_get}
use Rattle.std.specs.List.{Contains, IsDistinct}
use Rattle.std.specs.declared.alloc.Global.{Global}
use Rattle.wit_model.specs.{Text.text_of, Lookup.interface_at, Lookup.type_at}
use Rattle.wit_model.specs.declared.model.{Resolve.Resolve, TypeDef.TypeDef, Interface.Interface, InterfaceId.InterfaceId}
use Rattle.comp_bytes.specs.Raw.{Alias, Declaration, Declarations}
use Rattle.encode_reach.specs.Reach.{reached_in_order}
use Rattle.encode_types.specs.{Aliases.IsMetElsewhere, Known.Aliased, Known.Around, Known.known_slot}
use Rattle.wit_encode.specs.Instance.{whole_interface, types_alone_of}
use Rattle.wit_model.specs.declared.model.TypeOwner.TheVariants as owner

-- ---- what stands there

-- the alias that a declaration is, if it is one
abbrev pub alias_in : Declaration → List Alias
alias_in (Declaration.alias_of a) = a ∷ []
alias_in _ = []

-- the aliases among declarations at the first level, in order
abbrev pub aliases_declared : Declarations → List Alias
aliases_declared Declarations.no_more = []
aliases_declared (Declarations.declares d rest) = alias_in d ++ aliases_declared rest
aliases_declared (Declarations.component inner rest) = aliases_declared rest
aliases_declared (Declarations.instance inner rest) = aliases_declared rest

-- an alias in its raw form: of an instance's export
abbrev pub export_alias : Aliased → Alias
export_alias a = Alias.of_export a.instance a.name

-- ---- what is asked for

-- a type of another interface is met from the types of interface i
pub record IsMetByTypes (r : Resolve) (i n : ℕ) : Type 0 where
  pub def : Interface
  pub there : interface_at r i ≡ Some def
  pub met : IsMetElsewhere r (Some (record { 0 = i })) (types_alone_of def) n

-- a type of another interface is met from the types or the functions of interface i
pub record IsMetByWhole (r : Resolve) (i n : ℕ) : Type 0 where
  pub def : Interface
  pub there : interface_at r i ≡ Some def
  pub met : IsMetElsewhere r (Some (record { 0 = i })) (whole_interface def) n

-- a type of another interface is met from the types of one of these
abbrev pub IsMetAmong : Resolve → List ℕ → ℕ → Type 0
IsMetAmong r interfaces n = (i : ℕ) × Contains interfaces i × IsMetByTypes r i n

-- what the component type of interface i asks for: it holds the types of each interface that i reaches, and i whole
abbrev pub IsAskedFor : Resolve → ℕ → ℕ → Type 0
IsAskedFor r i n = IsMetAmong r (reached_in_order r i) n ⊎ IsMetByWhole r i n

-- A named type of one of these interfaces, by the instance of its interface: that has the interface's place among them.
pub record IsAliasAmong (r : Resolve) (interfaces : List ℕ) (a : Aliased) : Type 0 where
  pub def : TypeDef
  pub name : String Global
  pub interface : InterfaceId
  pub there : type_at r a.number.0 ≡ Some def
  pub named_ : def.name ≡ Some name
  pub owned : def.owner ≡ owner.Interface interface
  pub text : a.name ≡ text_of name
  pub instance : slice_get interfaces a.instance ≡ Some interface.0

-- The aliases are those of some types, no type twice, each by the instance of its interface, and P holds of each type number.
pub record HasAliases (r : Resolve) (interfaces : List ℕ) (P : ℕ → Type 0) (outer : Declarations) : Type 0 where
  pub made : List Aliased
  pub are : aliases_declared outer ≡ map export_alias made
  pub once : IsDistinct nat_eq (map (λ a. a.number.0) made)
  pub each : (a : Aliased) → Contains made a → IsAliasAmong r interfaces a
  pub asked : (a : Aliased) → Contains made a → P a.number.0

-- ---- between two imports

-- The aliases, whose type numbers are listed.
pub record HasAliased (r : Resolve) (interfaces : List ℕ) (P : ℕ → Type 0) (around : Around) : Type 0 where
  pub has : HasAliases r interfaces P around.declared
  pub known : (a : Aliased) → Contains has.made a → known_slot around.known a.number.0 ≡ None → ⊥

-- those that the types of these interfaces ask for, which have been imported
abbrev pub HasImportAliases : Resolve → Around → List ℕ → Type 0
HasImportAliases r around interfaces = HasAliased r interfaces (IsMetAmong r interfaces) around
