-- What a plan is gathered from: the views in numbers of all that is exported at the top, and the numbers of the types that are kept
-- (Component Model WIT.md, "Package Format").
use Rattle.std.specs.Prelude.{◌≡◌, ℕ, ◌<◌, ◌+◌, Bool, true, false, ◌&&◌, ◌==◌, nat_lt, if◌then◌else◌, List, [], ◌∷◌, length, filter_map, Option, Some, None, option_map, slice_get}
use Rattle.std.specs.List.{AllByRecursion, AllZip, Contains, list_all}
use Rattle.wit_model.specs.{Text.Text, Tree.Form, Lookup.is_async, Rules.each_from, Rules.is_id, Names.path_in, Names.read_path}
use Rattle.comp_meaning.specs.{Follow.Scope, Reads.Member, Reads.package_with, Reads.world_with}
use Rattle.plan_meaning.specs.{Shapes.node_shape, Renumbering.IsPart, Renumbering.AreKept}
use Rattle.plan_meaning.specs.Plan.{Plan, PlannedKind, PlannedType, PlannedFunction, PlannedInterface, PlannedKey, PlannedItem, PlannedWorld, PlannedPackage, package_in, interface_in, world_in, type_in, path_of_planned, kind_numbers}
use Rattle.plan_meaning.specs.{PlanMeaning.key_text, PlanMeaning.plan_meaning, PlanMeaning.plan_world_meaning, NumberedRules.Fact, NumberedRules.is_form}
use Rattle.plan_meaning.specs.NumberedViews.{FunctionShape, Tables, path_text, place_at, function_at, AreTables, NumberedType, NumberedFunction, NumberedView, NumberedSight}
use Rattle.plan_meaning.specs.NumberedWorlds.{NumberedKey, path, label, implementing, NumberedShown, instance, function, declares, NumberedSeen, NumberedScope, Shows, sights_of_scope}
use Rattle.plan_meaning.specs.NumberedMembers.{Homes, HomesStand, is_of_package, NumberedPart, world, interface, NumberedMember, sights_of_members, IsMember, are_package, is_one_world, IsKnownSight}
use Rattle.plan_meaning.specs.Plan as plan

-- the functions of the first view of the place that shows functions
abbrev pub functions_seen : ℕ → List NumberedSight → List (Text × NumberedFunction)
functions_seen p [] = []
functions_seen p (s ∷ rest) = if s.place == p && s.whole then s.view.functions else functions_seen p rest

-- the interfaces at the top, each with its place and its view, and the worlds, by their labels
abbrev pub interfaces_listed : List NumberedMember → List (Text × (ℕ × NumberedView))
interfaces_listed [] = []
interfaces_listed (m ∷ ms) = listed m.part (interfaces_listed ms)
  where
    listed : NumberedPart → List (Text × (ℕ × NumberedView)) → List (Text × (ℕ × NumberedView))
    listed (world w) rest = rest
    listed (interface p v imports) rest = (m.label, (p, v)) ∷ rest

abbrev pub worlds_listed : List NumberedMember → List (Text × NumberedScope)
worlds_listed [] = []
worlds_listed (m ∷ ms) = listed m.part (worlds_listed ms)
  where
    listed : NumberedPart → List (Text × NumberedScope) → List (Text × NumberedScope)
    listed (world w) rest = (m.label, w) ∷ rest
    listed (interface p v imports) rest = rest

module _ (t : Tables) (kept : List ℕ) (p : Plan) where
  -- ---- types

  -- the part of the plan that a part of the tables becomes
  pub record Becomes (old new : ℕ) : Type 0 where
    pub part : IsPart kept old new
    pub range : new < 14 + length p.types

  abbrev pub BecomesIfGiven : Option ℕ → Option ℕ → Type 0
  BecomesIfGiven None None = Unit {0}
  BecomesIfGiven (Some old) (Some new) = Becomes old new
  BecomesIfGiven _ _ = ⊥

  -- The kind of a type that declares this part: another name for the part that it becomes, or its form over those that its parts become.
  pub data DeclaresKind (d : Option ℕ) (kind : PlannedKind) : Type 0 where
    a_resource : d ≡ None → kind ≡ plan.resource → DeclaresKind d kind
    a_name : (old new : ℕ) → d ≡ Some old → is_form t old ≡ false → Becomes old new → kind ≡ plan.alias new → DeclaresKind d kind
    a_form : (old n : ℕ) (form : Form) (olds news : List ℕ) → d ≡ Some old → old ≡ 14 + n → slice_get t.shapes n ≡ Some (node_shape form olds)
        → AllZip Becomes olds news → kind ≡ plan.formed form news → DeclaresKind d kind

  -- the type of this number, by what it declares
  pub record TypeBecomes (d : Option ℕ) (external_id : Option Text) (n : ℕ) : Type 0 where
    pub type_ : PlannedType
    pub stands : type_in p n ≡ Some type_
    pub kind : DeclaresKind d type_.kind
    pub same_id : type_.external_id ≡ external_id

  abbrev pub TypeListed : NumberedType → Text × ℕ → Type 0
  TypeListed x e = (e.0 ≡ x.name) × TypeBecomes x.declared x.external_id e.1

  -- ---- functions and interfaces

  abbrev pub ParamBecomes : Text × ℕ → Text × ℕ → Type 0
  ParamBecomes x y = (y.0 ≡ x.0) × Becomes x.1 y.1

  pub record FunctionBecomes (f : FunctionShape) (external_id : Option Text) (g : PlannedFunction) : Type 0 where
    pub waits : is_async g.kind ≡ f.is_async
    pub params : AllZip ParamBecomes f.params g.params
    pub result : BecomesIfGiven f.result g.result
    pub same_id : g.external_id ≡ external_id

  abbrev pub FunctionListed : Text × NumberedFunction → Text × PlannedFunction → Type 0
  FunctionListed f e = (e.0 ≡ f.0) × FunctionBecomes (function_at t f.1.signature) f.1.external_id e.1

  -- an interface by a view of it, with these functions
  pub record InterfaceBecomes (v : NumberedView) (fs : List (Text × NumberedFunction)) (i : PlannedInterface) : Type 0 where
    pub types : AllZip TypeListed v.types i.types
    pub functions : AllZip FunctionListed fs i.functions

  -- the interface of this number
  pub record InterfaceAt (v : NumberedView) (fs : List (Text × NumberedFunction)) (n : ℕ) : Type 0 where
    pub interface : PlannedInterface
    pub stands : interface_in p n ≡ Some interface
    pub becomes : InterfaceBecomes v fs interface

  -- ---- worlds

  -- an interface under its path, or an inline one by its view
  abbrev pub InstanceBecomes : NumberedKey → NumberedView → ℕ → Type 0
  InstanceBecomes (path q) v n = plan.path_at p n ≡ Some (path_text t q)
  InstanceBecomes (implementing l q) v n = plan.path_at p n ≡ Some (path_text t q)
  InstanceBecomes (label l q) v n = (plan.path_at p n ≡ None) × InterfaceAt v v.functions n

  abbrev pub ItemBecomes : NumberedShown → Option Text → PlannedItem → Type 0
  ItemBecomes (instance key v) external_id (plan.interface n id) = (id ≡ external_id) × InstanceBecomes key v n
  ItemBecomes (function m) external_id (plan.function g) = FunctionBecomes (function_at t m) external_id g
  ItemBecomes (declares d) external_id (plan.declares n) = TypeBecomes d external_id n
  ItemBecomes _ _ _ = ⊥

  abbrev pub SeenBecomes : NumberedSeen → PlannedKey × PlannedItem → Type 0
  SeenBecomes s e = (key_text p e.0 ≡ s.key) × ItemBecomes s.shown s.external_id e.1

  pub record WorldBecomes (w : NumberedScope) (x : PlannedWorld) : Type 0 where
    pub imports : AllZip SeenBecomes w.imports x.imports
    pub exports : AllZip SeenBecomes w.exports x.exports

  -- the world of this number
  pub record WorldAt (w : NumberedScope) (n : ℕ) : Type 0 where
    pub world : PlannedWorld
    pub stands : world_in p n ≡ Some world
    pub becomes : WorldBecomes w world

  -- ---- interfaces that are seen

  -- an interface with a path, by the first view that shows functions, or by one that shows none if there's no other
  abbrev pub SightBecomes : List NumberedSight → NumberedSight → Text × PlannedInterface → Type 0
  SightBecomes seen s x = (path_text t s.place ≡ x.0) × InterfaceBecomes s.view (functions_seen s.place seen) x.1

  -- the types that are kept stand behind their parts
  pub record Keeps : Type 0 where
    pub types : AreKept (place_at t) t.shapes kept p
    pub fall : each_from (λ j x. list_all (λ k. nat_lt k j) (kind_numbers x.kind)) 0 p.types ≡ true

  -- an interface at the top by its view, with the functions of the first view that shows some
  pub record InterfacesListed (seen : List NumberedSight) (x : Text × (ℕ × NumberedView)) (e : Text × ℕ) : Type 0 where
    pub name : e.0 ≡ x.0
    pub there : InterfaceAt x.1.1 (functions_seen x.1.0 seen) e.1

  pub record WorldsListed (x : Text × NumberedScope) (e : Text × ℕ) : Type 0 where
    pub name : e.0 ≡ x.0
    pub there : WorldAt x.1 e.1

-- the interfaces of a plan by their paths: those of other packages, and all
abbrev pub under_path : Plan → PlannedInterface → Option (Text × PlannedInterface)
under_path p i = option_map (λ path. (path, i)) (path_of_planned p i)

abbrev pub foreign_interface : Plan → PlannedInterface → Option (Text × PlannedInterface)
foreign_interface p i = if is_id p.main i.package_ then None else under_path p i

-- Some views that pass the test, one of each place at least
pub record AreChosen (test : NumberedSight → Bool) (seen chosen : List NumberedSight) : Type 0 where
  pub among : (s : NumberedSight) → Contains chosen s → Contains seen s × (test s ≡ true)
  pub each : (s : NumberedSight) → Contains seen s → test s ≡ true → (c : NumberedSight) × Contains chosen c × (c.place ≡ s.place)

-- an interface of another package than this
abbrev pub is_foreign : Homes → ℕ → NumberedSight → Bool
is_foreign h n s = if is_of_package h n s.place then false else true

-- ---- gathered

-- The plan is gathered from the members of a package.
pub record IsGathered (t : Tables) (h : Homes) (n : ℕ) (ms : List NumberedMember) (p : Plan) : Type 0 where
  pub kept : List ℕ
  pub keeps : Keeps t kept p
  pub main : PlannedPackage
  pub stands : package_in p p.main ≡ Some main
  pub identity : slice_get h.packages n ≡ Some main.identity
  pub interfaces : AllZip (InterfacesListed t kept p (sights_of_members t ms)) (interfaces_listed ms) main.interfaces
  pub worlds : AllZip (WorldsListed t kept p) (worlds_listed ms) main.worlds
  pub chosen : List NumberedSight
  pub chosen_are : AreChosen (is_foreign h n) (sights_of_members t ms) chosen
  pub foreign : AllZip (SightBecomes t kept p (sights_of_members t ms)) chosen (filter_map (foreign_interface p) p.interfaces)

-- The plan is gathered from one world of this name.
pub record IsGatheredWorld (t : Tables) (h : Homes) (n : ℕ) (name : Text) (w : NumberedScope) (p : Plan) : Type 0 where
  pub kept : List ℕ
  pub keeps : Keeps t kept p
  pub main : PlannedPackage
  pub stands : package_in p p.main ≡ Some main
  pub identity : slice_get h.packages n ≡ Some main.identity
  pub world : PlannedWorld
  pub first : world_in p 0 ≡ Some world
  pub named : world.name ≡ name
  pub becomes : WorldBecomes t kept p w world
  pub chosen : List NumberedSight
  pub chosen_are : AreChosen (λ s. true) (sights_of_scope t w) chosen
  pub shown : AllZip (SightBecomes t kept p (sights_of_scope t w)) chosen (filter_map (under_path p) p.interfaces)

-- ---- laws

-- A plan that is gathered from a package's members means what they mean.
abbrev pub GatheredPackageIsMeant : Type 0
GatheredPackageIsMeant = (t : Tables) → AreTables t → (h : Homes) → HomesStand t h
    → (known : ℕ → Fact) (n : ℕ) (ms : List NumberedMember) (members : List Member) → AllZip (IsMember t h) ms members
    → AllByRecursion (IsKnownSight t known) (sights_of_members t ms) → are_package t h known n ms ≡ true → (p : Plan) (g : IsGathered t h n ms p)
    → plan_meaning p ≡ package_with g.main.identity members

-- A plan that is gathered from one world means what that means.
abbrev pub GatheredWorldIsMeant : Type 0
GatheredWorldIsMeant = (t : Tables) → AreTables t → (h : Homes) → HomesStand t h → (known : ℕ → Fact) (n : ℕ) (name : Text) (w : NumberedScope) (scope : Scope)
    → Shows t w scope
    → AllByRecursion (IsKnownSight t known) (sights_of_scope t w) → is_one_world t h known n name w ≡ true → (p : Plan) (g : IsGatheredWorld t h n name w p)
    → read_path (path_in g.main.identity name) ≡ Some (g.main.identity, name) → plan_world_meaning p ≡ world_with g.main.identity name scope
