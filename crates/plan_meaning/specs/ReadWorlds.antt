-- The worlds of a plan as they are read: then their imports and exports stand under keys that differ, and their types under rising numbers
-- (WIT.md, "Worlds"; Binary.md, "Import and Export Definitions").
use Rattle.std.specs.Prelude.{◌≡◌, ◌<◌, ℕ, ◌+◌, Bool, true, false, not, ◌&&◌, ◌||◌, nat_lt, List, [], ◌∷◌, map, Option, Some, slice_get}
use Rattle.std.specs.{List.AllByRecursion, List.list_all, Cmp.Lexicographic.pointwise}
use Rattle.wit_model.specs.declared.model.TypeOwner.{TypeOwner}
use Rattle.wit_model.specs.{Text.Text, Names.is_label, Lookup.resource_of, Rules.each_from, Valid.as_interface, Valid.as_world}
use Rattle.plan_meaning.specs.{Shapes.named_shape, KeptTypes.TypesAreKept, KeptOwners.AreOwned, ReadFunctions.Beside, ReadFunctions.IsReadFunction}
use Rattle.plan_meaning.specs.Plan.{Plan, PlannedFunction, PlannedInterface, PlannedKey, PlannedItem, PlannedWorld, interface_in, world_in, world_types}
use Rattle.plan_meaning.specs.{PlanRules.are_rising, PlanRules.import_stands, PlanRules.export_stands, PlanRules.keys_differ, GatheredPlan.TypeBecomes}
use Rattle.plan_meaning.specs.NumberedViews.{Tables, path_text, same_shown, PartsOf, AreTables, NumberedView}
use Rattle.plan_meaning.specs.NumberedWorlds.{HasPath, NumberedShown, instance, function, declares, path, label, implementing, NumberedSeen, NumberedScope, is_world}
use Rattle.plan_meaning.specs.Plan as plan

-- An import or an export of a world, the item that it becomes, and how many types the table has once it is followed.
pub record ReadItem : Type 0 where
  pub seen : NumberedSeen
  pub entry : PlannedKey × PlannedItem
  pub count : ℕ

abbrev pub is_type_seen : NumberedShown → Bool
is_type_seen (declares d) = true
is_type_seen _ = false

-- each type comes into the table behind all that is followed before
abbrev pub types_follow : List ReadItem → Bool
types_follow [] = true
types_follow (x ∷ xs) = list_all (λ y. not (is_type_seen y.seen.shown) || nat_lt x.count y.count) xs && types_follow xs

module _ (t : Tables) (kept : List ℕ) (p : Plan) (b : Beside) (views : ℕ → NumberedView) (o : TypeOwner) (home : ℕ) where
  -- The interface of this number is that of the place, whose types this view shows as the view does by which it is read.
  pub record IsInterfaceOf (q : ℕ) (v : NumberedView) (m : ℕ) : Type 0 where
    pub owned : b.owners q ≡ as_interface m
    pub interface : PlannedInterface
    pub there : interface_in p m ≡ Some interface
    pub agrees : pointwise same_shown (views q).types v.types ≡ true

  -- a function under its name, of whose numbers each stood in the table
  pub record IsReadUnder (key : Text) (count : ℕ) (g : PlannedFunction) : Type 0 where
    pub read : IsReadFunction t kept p b o g
    pub named : g.name ≡ key
    pub parts : PartsOf (λ k. k < 14 + count) read.shape
    pub resource : (n k : ℕ) → resource_of g.kind ≡ Some n → slice_get kept n ≡ Some k → k < count

  -- a type of the world under its name, the last in the table
  pub record IsTypeUnder (key : Text) (count : ℕ) (d : Option ℕ) (external_id : Option Text) (n : ℕ) : Type 0 where
    pub number : ℕ
    pub stands : slice_get kept n ≡ Some number
    pub shape : slice_get t.shapes number ≡ Some (named_shape home key)
    pub becomes : TypeBecomes t kept p d external_id n
    pub last : count ≡ number + 1

  -- What the item is: an interface under its path, or under a label inline or as an implementation, a function, or a type.
  pub data IsReadItem (x : ReadItem) : Type 0 where
    by_path : (q m : ℕ) (v : NumberedView) (id : Option Text) → HasPath t q → x.seen.shown ≡ instance (path q) v → x.seen.key ≡ path_text t q
        → x.entry ≡ (plan.path_of m, plan.interface m id) → IsInterfaceOf q v m → IsReadItem x
    by_label : (q m : ℕ) (v : NumberedView) (id : Option Text) → x.seen.shown ≡ instance (label x.seen.key q) v → is_label x.seen.key ≡ true
        → x.entry ≡ (plan.label x.seen.key, plan.interface m id) → IsInterfaceOf q v m → IsReadItem x
    implementing_path : (q m : ℕ) (v : NumberedView) (id : Option Text) → HasPath t q → x.seen.shown ≡ instance (implementing x.seen.key q) v
        → is_label x.seen.key ≡ true
        → x.entry ≡ (plan.label x.seen.key, plan.interface m id) → IsInterfaceOf q v m → IsReadItem x
    a_function : (m : ℕ) (g : PlannedFunction) → x.seen.shown ≡ function m → x.entry ≡ (plan.label x.seen.key, plan.function g)
        → IsReadUnder x.seen.key x.count g → IsReadItem x
    a_type : (d : Option ℕ) (n : ℕ) → x.seen.shown ≡ declares d → x.entry ≡ (plan.label x.seen.key, plan.declares n)
        → IsTypeUnder x.seen.key x.count d x.seen.external_id n → IsReadItem x

-- The world of this number is read in a place of its own, by what it shows: that obeys the rules on worlds, and exports no type.
pub record IsReadWorld (t : Tables) (kept : List ℕ) (p : Plan) (b : Beside) (views : ℕ → NumberedView) (m : ℕ) (w : PlannedWorld) : Type 0 where
  pub scope : NumberedScope
  pub owned : b.owners scope.home ≡ as_world m
  pub imports : List ReadItem
  pub exports : List ReadItem
  pub imports_seen : map (λ (x : ReadItem). x.seen) imports ≡ scope.imports
  pub exports_seen : map (λ (x : ReadItem). x.seen) exports ≡ scope.exports
  pub imports_listed : map (λ (x : ReadItem). x.entry) imports ≡ w.imports
  pub exports_listed : map (λ (x : ReadItem). x.entry) exports ≡ w.exports
  pub imports_read : AllByRecursion (IsReadItem t kept p b views (as_world m) scope.home) imports
  pub exports_read : AllByRecursion (IsReadItem t kept p b views (as_world m) scope.home) exports
  pub follow : types_follow imports ≡ true
  pub no_types : list_all (λ (s : NumberedSeen). not (is_type_seen s.shown)) scope.exports ≡ true
  pub obeys : is_world t b.known scope ≡ true

abbrev pub WorldsAreRead : Tables → List ℕ → Plan → Beside → (ℕ → NumberedView) → Type 0
WorldsAreRead t kept p b views = (m : ℕ) (w : PlannedWorld) → world_in p m ≡ Some w → IsReadWorld t kept p b views m w

-- the tests of a plan on each world by itself
pub record WorldTests (p : Plan) : Type 0 where
  pub imports_stand : each_from (λ n w. list_all (import_stands p n) w.imports) 0 p.worlds ≡ true
  pub exports_stand : list_all (λ w. list_all (export_stands p) w.exports) p.worlds ≡ true
  pub keys_differ : list_all (λ w. keys_differ w.imports && keys_differ w.exports) p.worlds ≡ true
  pub world_types_rise : list_all (λ w. are_rising (world_types w)) p.worlds ≡ true

abbrev pub ReadWorldsPass : Type 0
ReadWorldsPass = (t : Tables) → AreTables t → (kept : List ℕ) (p : Plan) → TypesAreKept t kept p → (b : Beside) → AreOwned t kept p b.owners
    → (views : ℕ → NumberedView)
    → WorldsAreRead t kept p b views → WorldTests p
