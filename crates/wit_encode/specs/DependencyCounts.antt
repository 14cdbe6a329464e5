-- What the component type of an interface defines: nothing beside instance types, and in each of them every key of a function and every
-- unnamed kind once.
use Rattle.std.specs.Prelude.{ℕ, ◌≡◌, true, List, [], ◌∷◌, ◌++◌, count_by, Some}
use Rattle.std.specs.List.{AllZip}
use Rattle.indexmap.specs.IndexMap.{values}
use Rattle.wit_model.specs.Lookup.{interface_at}
use Rattle.wit_model.specs.declared.model.{Resolve.Resolve, Interface.Interface}
use Rattle.comp_bytes.specs.Raw.{Declaration, Declarations, from_list}
use Rattle.encode_reach.specs.Reach.{reached_in_order}
use Rattle.encode_types.specs.Distinct.{is_value_type, is_function_type, DefinesTypes}
use Rattle.wit_encode.specs.{DependencyAliases.HasAliases, DependencyAliases.IsAskedFor, Worlds.instances_declared, WorldCounts.DefinesInterface}
use Rattle.wit_encode.specs.{Instance.DeclaresFew, Instance.IsInstance, Instance.count_declared, Instance.stands_inside, Places.StandInOrder, Places.are_beside}

-- An instance type shows the types of its interface in order, and no function. It defines what these types ask for, each once, and no type of a
-- function. It has no more declarations than these types take: so no more outer aliases than types of other interfaces that are met.
pub record DefinesTypesOf (r : Resolve) (i : ℕ) (declared : Declarations × Declarations) : Type 0 where
  pub def : Interface
  pub there : interface_at r i ≡ Some def
  pub declarations : List Declaration
  pub is : declared.1 ≡ from_list declarations
  pub ordered : IsInstance r declared.0 (record { 0 = i }) declarations []
  pub function_types : count_by is_function_type declarations ≡ 0
  pub value_types : DefinesTypes r (Some (record { 0 = i })) (stands_inside r (record { 0 = i }) declared.0 declarations) (values def.types) []
      (from_list declarations)
  pub few : DeclaresFew r (Some (record { 0 = i })) (values def.types) [] declarations
  pub places : StandInOrder declarations

-- no type is defined beside the instance types
pub record DefinesNothing (outer : Declarations) : Type 0 where
  pub value_types : count_declared is_value_type outer ≡ 0
  pub function_types : count_declared is_function_type outer ≡ 0

-- There are instance types of these interfaces, in order, each just before the import or export of its instance, and nothing else is defined.
pub record DefinesImports (r : Resolve) (outer : Declarations) (interfaces : List ℕ) : Type 0 where
  pub beside : DefinesNothing outer
  pub inside : AllZip (DefinesTypesOf r) interfaces (instances_declared outer)
  pub places : are_beside 0 outer ≡ true

-- Behind those of what interface n reaches there is its own. Aliases stand there of types that these and the interface itself meet, no type twice,
-- each by the one instance of its interface. Each instance type stands just before the import or export of its instance.
pub record DefinesComponent (r : Resolve) (n : ℕ) (outer : Declarations) : Type 0 where
  pub beside : DefinesNothing outer
  pub imports : List (Declarations × Declarations)
  pub own : Declarations × Declarations
  pub are : instances_declared outer ≡ imports ++ own ∷ []
  pub reached : AllZip (DefinesTypesOf r) (reached_in_order r n) imports
  pub exported : DefinesInterface r n own
  pub aliases : HasAliases r (reached_in_order r n) (IsAskedFor r n) outer
  pub places : are_beside 0 outer ≡ true
