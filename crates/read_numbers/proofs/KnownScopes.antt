-- What is known of the parts of scopes.
use Rattle.std.proofs.Common.{rules as std_rules, ◌≡◌, refl, ℕ, zero, suc, Bool, true, List, [], ◌∷◌, map, length, Option, Some, slice_get}
use Rattle.std.specs.{List.AllByRecursion, List.flat_map, Option.option_map_or}
use Rattle.wit_model.specs.Text.{Text}
use Rattle.plan_meaning.specs.{NumberedMembers.IsKnownSight, NumberedRules.IsKnown, Shapes.Shape, Shapes.shape_trees, Shapes.IsTable}
use Rattle.plan_meaning.specs.NumberedViews.{function_at, AllOf, AreTables, FunctionPasses, FunctionShape as NumberedFunctionShape, IsOutsidePart, NumberedFunction, NumberedSight, NumberedType, NumberedView, PartsOf, Tables, TypePasses, ViewPasses}
use Rattle.plan_meaning.specs.NumberedWorlds.{instance, function, declares, place_of_key, sights_of_instance, sights_of_scope, HasPath, ItemStands, NumberedInstance, NumberedScope, NumberedSeen, NumberedShown, ScopeStands}
use Rattle.read_rules.specs.declared.tables.Fact.{Fact}
use Rattle.read_follow.specs.{Facts.FactsHold, Functions.FunctionShape}
use Rattle.read_numbers.specs.{FactLaws.known_by, PlacedNumbers.IsMetPart, PlacedNumbers.IsPlacedItem, PlacedNumbers.IsPlacedScope, PlacedNumbers.IsPlacedView}
use Rattle.read_numbers.specs.{Facts.followed_fact, KnownScopes.ScopesAreKnown, KnownScopes.ViewsAreKnown, NumberedParts.tables_in}
use Rattle.read_numbers.proofs.{KnownNumbers.facts_in_numbers, MetNumbers.met_parts_are_seen, PlacedMembers.places_are_kept, TableNumbers.tables_in_numbers}
use Rattle.base_lemmas.proofs.Elements.{all_both}

-- ---- parts that pass more

module _ (P Q : ℕ → Type 0) (more : (k : ℕ) → P k → Q k) where
  given_more : (o : Option ℕ) → AllOf P o → AllOf Q o
  given_more x h = search std_rules

  params_more : (ps : List (Text × ℕ)) → AllByRecursion (λ (p : Text × ℕ). P p.1) ps → AllByRecursion (λ (p : Text × ℕ). Q p.1) ps
  params_more [] h = tt
  params_more (p ∷ ps) h = (more p.1 h.0, params_more ps h.1)

  parts_more : (f : NumberedFunctionShape) → PartsOf P f → PartsOf Q f
  parts_more f h = (params_more f.params h.0, given_more f.result h.1)

  types_more : (xs : List NumberedType) → AllByRecursion (TypePasses P) xs → AllByRecursion (TypePasses Q) xs
  types_more [] h = tt
  types_more (x ∷ xs) h = (given_more x.declared h.0, types_more xs h.1)

  functions_more : (t : Tables) (fs : List (Text × NumberedFunction)) → AllByRecursion (FunctionPasses t P) fs → AllByRecursion (FunctionPasses t Q) fs
  functions_more t [] h = tt
  functions_more t (f ∷ fs) h = ((h.0.0, parts_more (function_at t f.1.signature) h.0.1), functions_more t fs h.1)

  view_more : (t : Tables) (v : NumberedView) → ViewPasses t P v → ViewPasses t Q v
  view_more t v h = record { types = types_more v.types h.types; functions = functions_more t v.functions h.functions }

-- ---- what is known

module _ (shapes : List Shape) (fs : List FunctionShape) (paths : List (Option Text)) (table : IsTable shapes) (tables : AreTables (tables_in shapes fs paths)) (facts : List Fact)
    (many : length facts ≡ length shapes) (hold : FactsHold (map followed_fact facts) (λ place. shape_trees place shapes)) where
  abbrev t : Tables
  t = tables_in shapes fs paths

  part_known : (p k : ℕ) → IsMetPart t p k → IsKnown t (known_by facts) p k
  part_known p k met = facts_in_numbers shapes fs paths table facts many hold p k met.0 (met_parts_are_seen t tables p k met).0

  view_known : (p : ℕ) (v : NumberedView) → IsPlacedView t p v → ViewPasses t (IsKnown t (known_by facts) p) v
  view_known p v h = view_more (IsMetPart t p) (IsKnown t (known_by facts) p) (part_known p) t v h.parts

  pub sight_known : (p : ℕ) → HasPath t p → (v : NumberedView) → IsPlacedView t p v → (whole : Bool) → IsKnownSight t (known_by facts) (record { place = p; view = v; whole = whole })
  sight_known p path v h whole = (
    record { path = path.0; home = path.1; parts = view_more (IsMetPart t p) (IsOutsidePart t) (λ k met. (met.0, (met_parts_are_seen t tables p k met).1 path)) t v h.parts },
    view_known p v h,
  )

  item_known : (home : ℕ) (s : NumberedShown) → IsPlacedItem t home s → ItemStands t (known_by facts) home s
  item_known home (instance k v) h = (h.0, view_known (place_of_key k) v h.1)
  item_known home (function n) h = parts_more (IsMetPart t home) (IsKnown t (known_by facts) home) (part_known home) (function_at t n) h.1
  item_known home (declares d) h = given_more (IsMetPart t home) (IsKnown t (known_by facts) home) (part_known home) d h

  items_known : (home : ℕ) (ss : List NumberedSeen) → AllByRecursion (λ (s : NumberedSeen). IsPlacedItem t home s.shown) ss
      → AllByRecursion (λ (s : NumberedSeen). ItemStands t (known_by facts) home s.shown) ss
  items_known home [] h = tt
  items_known home (s ∷ ss) h = (item_known home s.shown h.0, items_known home ss h.1)

  abbrev sights : NumberedInstance → Option Text → List NumberedSight
  sights i o = option_map_or (λ (path : Text). record { place = i.place; view = i.view; whole = true } ∷ []) o []

  instance_known : (i : NumberedInstance) → IsPlacedView t i.place i.view → AllByRecursion (IsKnownSight t (known_by facts)) (sights_of_instance t i)
  instance_known i h = search (std_rules, sight_known)

  instances_known : (is : List NumberedInstance) → ((j : ℕ) (i : NumberedInstance) → slice_get is j ≡ Some i → IsPlacedView t i.place i.view)
      → AllByRecursion (IsKnownSight t (known_by facts)) (flat_map (sights_of_instance t) is)
  instances_known [] h = tt
  instances_known (i ∷ is) h = all_both (IsKnownSight t (known_by facts)) (sights_of_instance t i) (flat_map (sights_of_instance t) is) (instance_known i (h zero i refl))
      (instances_known is (λ j k e. h (suc j) k e))

  pub scope_known : (w : NumberedScope) → IsPlacedScope t w → ScopeStands t (known_by facts) w × AllByRecursion (IsKnownSight t (known_by facts)) (sights_of_scope t w)
  scope_known w h = search (std_rules, items_known, instances_known)

pub scopes_are_known : ScopesAreKnown
scopes_are_known pieces x f facts known m w at =
    let tables = tables_in_numbers x.table x.functions x.places f.followed.tables f.followed.functions_apart f.followed.paths_apart in
    scope_known x.table x.functions x.places f.followed.tables.table tables facts known.many known.hold w ((places_are_kept pieces x f).each m w at)

pub views_are_known : ViewsAreKnown
views_are_known pieces x f facts known place path v h whole = search (std_rules, tables_in_numbers, sight_known)
