-- A plan that is gathered from views in numbers means what they mean.
use Rattle.std.proofs.Common.{rules as std_rules, ◌≡◌, refl, sym, ap, subst, ◌∙◌, ℕ, ◌+◌, arith, Bool, true, false, not, ◌&&◌, ◌==◌, cond, List, [], ◌∷◌, ◌++◌, map, filter_map, Option, Some, None, option_map, slice_get, rules}
use Rattle.std.proofs.lemmas.List.Elements.{Contains-append_right}
use Rattle.std.specs.{Prelude.option_and_then, Option.option_map_or, FinMap.from_entries}
use Rattle.std.specs.List.{AllByRecursion, AllZip, Contains, filter, flat_map}
use Rattle.wit_model.specs.Text.{Text, TextMap, text_eq}
use Rattle.wit_model.specs.{Tree.Form, Tree.Tree, Tree.TypeDeclaration, Tree.children, Meant.no_type, Meant.no_interface, Meant.no_world}
use Rattle.wit_model.specs.{Meaning.FunctionMeaning, Meaning.TypeMeaning, Meaning.InterfaceMeaning, Meaning.WorldMeaning, Meaning.Item}
use Rattle.wit_model.proofs.Elements.{contains-flat}
use Rattle.comp_meaning.specs.{Follow.Scope, Follow.View, Follow.provided, SameLaws.named_meaning}
use Rattle.comp_meaning.specs.Reads.{Part, Member, Sight, seen_meaning, is_of, package_with}
use Rattle.plan_meaning.specs.{Shapes.node_shape, Shapes.part_tree, Gathering.AreEnough, NumberedRules.Fact}
use Rattle.plan_meaning.specs.Plan.{Plan, PlannedKind, PlannedFunction, PlannedInterface, PlannedKey, PlannedItem, PlannedWorld, declared_as, trees_in}
use Rattle.plan_meaning.specs.PlanMeaning.{type_meaning_in, function_meaning, interface_meaning_in, world_meaning_in, foreign_entry, shown_entry, plan_meaning, plan_world_meaning}
use Rattle.plan_meaning.specs.NumberedViews.{FunctionShape, Tables, path_text, place_at, tree_at, signature_over, function_at, AreTables, NumberedFunction, NumberedView, view_of, declaration_of, shown_type, shown_function, NumberedSight, sight_of, IsSight, agree_in_numbers}
use Rattle.plan_meaning.specs.NumberedWorlds.{path, label, implementing, NumberedShown, instance, function, declares, NumberedSeen, shown_of, seen_of, NumberedScope, Shows, sights_of_scope, HasPath}
use Rattle.plan_meaning.specs.NumberedMembers.{Homes, HomesStand, is_of_package, NumberedPart, world, interface, NumberedMember, sights_of_members, sights_of_part, ShowsPart, IsMember, are_interfaces, are_package, package_shown, world_shown, IsKnownSight}
use Rattle.plan_meaning.specs.GatheredPlan.{functions_seen, interfaces_listed, worlds_listed, Becomes, BecomesIfGiven, DeclaresKind, a_resource, a_name, a_form, TypeBecomes, ParamBecomes, FunctionBecomes, FunctionListed, InterfaceBecomes, InterfaceAt, ItemBecomes, SeenBecomes, WorldBecomes, SightBecomes, Keeps, InterfacesListed, WorldsListed, under_path, foreign_interface, AreChosen, is_foreign, IsGathered, GatheredPackageIsMeant, GatheredWorldIsMeant}
use Rattle.plan_meaning.proofs.{Gathering.functions_mean_one, Gathering.one_view_is_enough, NumberedWorlds.path_number, NumberedWorlds.sights_in_numbers}
use Rattle.plan_meaning.proofs.NumberedMembers.{only_sights, of_package, all_sights, agree_same, interfaces_same, packages_in_numbers, one_world_in_numbers}
use Rattle.plan_meaning.proofs.{Renumbering.trees_are_kept, ShapeLaws.node_tree, ShapeLaws.part_behind, ShapeLaws.tree_at_number}
use Rattle.base_lemmas.proofs.{Bools.left_of as first_true, Bools.right_of as second_true, Lists.map_of_map}
use Rattle.base_lemmas.proofs.Elements.{all_at, contains-later, contains-map, contains-one, filter_keeps, filter_kept, map_from, zip_map}
use Rattle.comp_meaning.specs.Reads as reads
use Rattle.plan_meaning.specs.Plan as plan
use Rattle.plan_meaning.specs.PlanMeaning as planned

-- ---- lists

filter_mapped : {X Y Z : Type 0} (g : X → Option Z) (h : X → Option Y) (f : Y → Z) → ((x : X) → g x ≡ option_map f (h x)) → (xs : List X) → filter_map g xs ≡ map f (filter_map h xs)
filter_mapped g h f same [] = refl
filter_mapped g h f same (x ∷ xs) = search (std_rules, filter_mapped g h f same xs)

module _ (t : Tables) (tables : AreTables t) (kept : List ℕ) (p : Plan) (keeps : Keeps t kept p) where
  -- ---- types

  pub part_kept : (old new : ℕ) → Becomes t kept p old new → part_tree (trees_in p) new ≡ tree_at t old
  part_kept old new b = trees_are_kept (place_at t) t.shapes kept p tables.shapes keeps.types keeps.fall old new b.part b.range

  pub parts_kept : (olds news : List ℕ) → AllZip (Becomes t kept p) olds news → map (part_tree (trees_in p)) news ≡ map (tree_at t) olds
  parts_kept = zip_map (Becomes t kept p) (tree_at t) (part_tree (trees_in p)) part_kept

  pub form_tree : (old n : ℕ) (form : Form) (olds : List ℕ) → old ≡ 14 + n → slice_get t.shapes n ≡ Some (node_shape form olds) → tree_at t old ≡ Tree.node form (children (map (tree_at t) olds))
  form_tree old n form olds is there = search (std_rules, part_behind, tree_at_number (place_at t) t.shapes tables.shapes n (node_shape form olds) there, node_tree)

  declared_kept : (d : Option ℕ) (kind : PlannedKind) → DeclaresKind t kept p d kind → declared_as (trees_in p) kind ≡ declaration_of t d
  declared_kept d kind (a_resource e k) = ap (declared_as (trees_in p)) k ∙ sym (ap (declaration_of t) e)
  declared_kept d kind (a_name old new e no_form b k) = ap (declared_as (trees_in p)) k ∙ (ap TypeDeclaration.type_ (part_kept old new b) ∙ sym (ap (declaration_of t) e))
  declared_kept d kind (a_form old n form olds news e is there z k) = search (std_rules, parts_kept, form_tree)

  type_kept : (d : Option ℕ) (id : Option Text) (n : ℕ) → TypeBecomes t kept p d id n → type_meaning_in p n ≡ record { declaration = declaration_of t d; external_id = id }
  type_kept d id n b = ap (λ o. option_map_or (planned.type_meaning p) o no_type) b.stands ∙ λ i. record { declaration = declared_kept d b.type_.kind b.kind i; external_id = b.same_id i }

  -- ---- functions and interfaces

  abbrev over : (ℕ → Tree) → Text × ℕ → Text × Tree
  over trees x = (x.0, trees x.1)

  result_kept : (a b : Option ℕ) → BecomesIfGiven t kept p a b → option_map (part_tree (trees_in p)) b ≡ option_map (tree_at t) a
  result_kept None None h = refl
  result_kept (Some a) (Some b) h = ap Some (part_kept a b h)
  result_kept _ _ h = absurd h

  signature_kept : (f : FunctionShape) (id : Option Text) (g : PlannedFunction) → FunctionBecomes t kept p f id g → planned.signature_of p g ≡ signature_over (tree_at t) f
  signature_kept f id g b =
      let params = zip_map (ParamBecomes t kept p) (over (tree_at t)) (over (part_tree (trees_in p))) (λ x y h i. (h.0 i, part_kept x.1 y.1 h.1 i)) f.params g.params b.params in
      λ i. record { is_async = b.waits i; params = params i; result = result_kept f.result g.result b.result i }

  function_kept : (f : FunctionShape) (id : Option Text) (g : PlannedFunction) → FunctionBecomes t kept p f id g
      → function_meaning p g ≡ record { signature = signature_over (tree_at t) f; external_id = id }
  function_kept f id g b = λ i. record { signature = signature_kept f id g b i; external_id = b.same_id i }

  interface_kept : (v : NumberedView) (fs : List (Text × NumberedFunction)) (x : PlannedInterface) → InterfaceBecomes t kept p v fs x
      → planned.interface_meaning p x ≡ reads.meaning_of_view (view_of t v) (map (shown_function t) fs)
  interface_kept v fs x b =
      let functions = zip_map (FunctionListed t kept p) (shown_function t) (λ e. (e.0, function_meaning p e.1))
      (λ f e h i. (h.0 i, function_kept (function_at t f.1.signature) f.1.external_id e.1 h.1 i)) fs x.functions b.functions in
      λ i. record {
        types = (zip_map _ _ _ (λ x e h i. (h.0 i, type_kept x.declared x.external_id e.1 h.1 i)) v.types x.types b.types ∙ sym (map_of_map named_meaning (shown_type t) v.types)) i;
        functions = from_entries (functions i);
      }

  interface_there : (v : NumberedView) (fs : List (Text × NumberedFunction)) (n : ℕ) → InterfaceAt t kept p v fs n
      → interface_meaning_in p n ≡ reads.meaning_of_view (view_of t v) (map (shown_function t) fs)
  interface_there v fs n b = ap (λ o. option_map_or (planned.interface_meaning p) o no_interface) b.stands ∙ interface_kept v fs b.interface b.becomes

  -- ---- worlds

  item_kept : (s : NumberedShown) (id : Option Text) (x : PlannedItem) → ItemBecomes t kept p s id x → planned.item_meaning p x ≡ reads.item_of (shown_of t s)
  item_kept (instance (path q) v) id (plan.interface n other) h = ap (λ o. option_map_or Item.interface o (Item.inline (interface_meaning_in p n))) h.1
  item_kept (instance (implementing l q) v) id (plan.interface n other) h = ap (λ o. option_map_or Item.interface o (Item.inline (interface_meaning_in p n))) h.1
  item_kept (instance (label l q) v) id (plan.interface n other) h = search (std_rules, interface_there v v.functions n h.1.1)
  item_kept (function m) id (plan.function g) h = ap Item.function (signature_kept (function_at t m) id g h)
  item_kept (declares d) id (plan.declares n) h = ap (λ (x : TypeMeaning). Item.declares x.declaration) (type_kept d id n h)
  item_kept _ id _ h = absurd h

  id_kept : (s : NumberedShown) (id : Option Text) (x : PlannedItem) → ItemBecomes t kept p s id x → planned.item_external_id p x ≡ id
  id_kept y id z h = search std_rules

  entries_kept : (ss : List NumberedSeen) (es : List (PlannedKey × PlannedItem)) → AllZip (SeenBecomes t kept p) ss es → planned.entries_meaning p es ≡ map reads.entry (map (seen_of t) ss)
  entries_kept [] [] z = refl
  entries_kept (s ∷ ss) (e ∷ es) z = search (std_rules, item_kept, id_kept, entries_kept ss es z.1)
  entries_kept _ _ z = absurd z

  world_kept : (w : NumberedScope) (x : PlannedWorld) → WorldBecomes t kept p w x → (scope : Scope) → Shows t w scope → planned.world_meaning p x ≡ reads.meaning_of_scope scope
  world_kept w x b scope shows = search (std_rules, entries_kept)

  -- ---- interfaces that are seen

  functions_alike : (q : ℕ) → HasPath t q → (seen : List NumberedSight) → AllByRecursion (IsSight t) seen
      → reads.functions_of (path_text t q) (map (sight_of t) seen) ≡ map (shown_function t) (functions_seen q seen)
  functions_alike q at [] all = refl
  functions_alike q at (s ∷ seen) all = by (text_eq (path_text t q) (path_text t s.place) && s.whole) (s.place == q && s.whole)
      (ap (λ b. b && s.whole) (path_number t tables q s.place at (all.0.path, all.0.home))) (functions_alike q at seen all.1)
    where
      by : (a b : Bool) → a ≡ b → reads.functions_of (path_text t q) (map (sight_of t) seen) ≡ map (shown_function t) (functions_seen q seen)
          → cond a (map (shown_function t) s.view.functions) (reads.functions_of (path_text t q) (map (sight_of t) seen)) ≡ map (shown_function t) (cond b s.view.functions (functions_seen q seen))
      by true true e more = refl
      by false false e more = more
      by _ _ e more = absurd cc

  -- the interface of a view that shows functions
  whole_kept : (seen : List NumberedSight) → AllByRecursion (IsSight t) seen → reads.all_agree (map (sight_of t) seen) ≡ true → reads.are_interfaces (map (sight_of t) seen) ≡ true
      → (s : NumberedSight) → Contains seen s → s.whole ≡ true
      → (n : ℕ) → InterfaceAt t kept p s.view (functions_seen s.place seen) n → interface_meaning_in p n ≡ reads.meaning_of_view (view_of t s.view) (view_of t s.view).functions
  whole_kept seen all agrees obey s c whole n b =
      let is = all_at (IsSight t) seen all s c in
      let functions : ◌≡◌ {A = TextMap FunctionMeaning} (from_entries (map (shown_function t) (functions_seen s.place seen))) (from_entries (view_of t s.view).functions) =
      ap from_entries (sym (functions_alike s.place (is.path, is.home) seen all)) ∙ functions_mean_one (map (sight_of t) seen) agrees obey (sight_of t s) (contains-map (sight_of t) seen s c) whole in
      interface_there s.view (functions_seen s.place seen) n b ∙ λ i. record { types = map named_meaning (view_of t s.view).types; functions = functions i }

  -- ---- interfaces and worlds at the top

  module _ (h : Homes) where
    abbrev interface_entry : Text × ℕ → Text × InterfaceMeaning
    interface_entry e = (e.0, interface_meaning_in p e.1)

    abbrev world_entry : Text × ℕ → Text × WorldMeaning
    world_entry e = (e.0, world_meaning_in p e.1)

    module _ (seen : List NumberedSight) (sights : AllByRecursion (IsSight t) seen) (agrees : reads.all_agree (map (sight_of t) seen) ≡ true) (obey : reads.are_interfaces (map (sight_of t) seen) ≡ true) where
      interfaces_kept : (ms : List NumberedMember) → ((m : NumberedMember) → Contains ms m → (s : NumberedSight) → Contains (sights_of_part t m.part) s → Contains seen s) → (members : List Member)
          → AllZip (IsMember t h) ms members
          → (es : List (Text × ℕ)) → AllZip (InterfacesListed t kept p seen) (interfaces_listed ms) es → map interface_entry es ≡ flat_map reads.interfaces_of members
      interfaces_kept [] among [] z [] listed = refl
      interfaces_kept [] among [] z (e ∷ es) listed = absurd listed
      interfaces_kept (m ∷ ms) among (x ∷ members) z es listed =
          by m.part x.part z.0.part (λ s c. among m (0, omega arith, refl) s c) es listed (interfaces_kept ms (λ r c. among r (contains-later m ms r c)) members z.1)
        where
          by : (a : NumberedPart) (b : Part) → ShowsPart t h m a b → ((s : NumberedSight) → Contains (sights_of_part t a) s → Contains seen s)
              → (es : List (Text × ℕ)) → AllZip (InterfacesListed t kept p seen) (interfaces_listed (record { label = m.label; package_ = m.package_; part = a } ∷ ms)) es
              → ((fs : List (Text × ℕ)) → AllZip (InterfacesListed t kept p seen) (interfaces_listed ms) fs → map interface_entry fs ≡ flat_map reads.interfaces_of members)
              → map interface_entry es ≡ reads.interfaces_of (record { label = x.label; package_ = x.package_; part = b }) ++ flat_map reads.interfaces_of members
          by (world w) (Part.world scope) is own es listed more = more es listed
          by (interface q v imports) (Part.interface view views) is own [] listed more = absurd listed
          by (interface q v imports) (Part.interface view views) is own (e ∷ es) listed more =
              let s : NumberedSight = record { place = q; view = v; whole = true } in
              λ i. (
                (listed.0.name ∙ sym z.0.label) i,
                (whole_kept seen sights agrees obey s (own s (Contains-append_right (map (λ (i : ℕ × NumberedView). record { place = i.0; view = i.1; whole = false }) imports) (s ∷ []) s
                    (contains-one s))) refl e.1 listed.0.there ∙ ap (λ (y : View). reads.meaning_of_view y y.functions) (sym is.shown)) i,
              ) ∷ more es listed.1 i
          by _ _ is own es listed more = absurd is
      interfaces_kept _ among _ z es listed = absurd z

    worlds_kept : (ms : List NumberedMember) (members : List Member) → AllZip (IsMember t h) ms members → (es : List (Text × ℕ)) → AllZip (WorldsListed t kept p) (worlds_listed ms) es
        → map world_entry es ≡ flat_map reads.worlds_of_member members
    worlds_kept [] [] z [] listed = refl
    worlds_kept [] [] z (e ∷ es) listed = absurd listed
    worlds_kept (m ∷ ms) (x ∷ members) z es listed = by m.part x.part z.0.part es listed (worlds_kept ms members z.1)
      where
        by : (a : NumberedPart) (b : Part) → ShowsPart t h m a b → (es : List (Text × ℕ))
            → AllZip (WorldsListed t kept p) (worlds_listed (record { label = m.label; package_ = m.package_; part = a } ∷ ms)) es
            → ((fs : List (Text × ℕ)) → AllZip (WorldsListed t kept p) (worlds_listed ms) fs → map world_entry fs ≡ flat_map reads.worlds_of_member members)
            → map world_entry es ≡ reads.worlds_of_member (record { label = x.label; package_ = x.package_; part = b }) ++ flat_map reads.worlds_of_member members
        by (interface q v imports) (Part.interface view views) is es listed more = more es listed
        by (world w) (Part.world scope) is [] listed more = absurd listed
        by (world w) (Part.world scope) is (e ∷ es) listed more =
            let there = listed.0.there in
            λ i. ((listed.0.name ∙ sym z.0.label) i, (ap (λ o. option_map_or (planned.world_meaning p) o no_world) there.stands ∙ world_kept w there.world there.becomes scope is) i)
            ∷ more es listed.1 i
        by _ _ is es listed more = absurd is
    worlds_kept _ _ z es listed = absurd z

  -- an interface of the plan, under its path
  abbrev entry_of : Text × PlannedInterface → Text × InterfaceMeaning
  entry_of x = (x.0, planned.interface_meaning p x.1)

  module _ (seen : List NumberedSight) (all : AllByRecursion (IsSight t) seen) where
    abbrev seen_all : List Sight
    seen_all = map (sight_of t) seen

    sight_kept : (s : NumberedSight) → IsSight t s → (x : Text × PlannedInterface) → SightBecomes t kept p seen s x → entry_of x ≡ seen_meaning seen_all (sight_of t s)
    sight_kept s is x b =
        λ i. (sym b.0 i, (interface_kept s.view (functions_seen s.place seen) x.1 b.1 ∙ ap (reads.meaning_of_view (view_of t s.view)) (sym (functions_alike s.place (is.path, is.home) seen all))) i)

    chosen_kept : (chosen : List NumberedSight) → ((s : NumberedSight) → Contains chosen s → Contains seen s) → (xs : List (Text × PlannedInterface)) → AllZip (SightBecomes t kept p seen) chosen xs
        → map entry_of xs ≡ map (seen_meaning seen_all) (map (sight_of t) chosen)
    chosen_kept [] among [] z = refl
    chosen_kept (s ∷ chosen) among (x ∷ xs) z =
        λ i. sight_kept s (all_at (IsSight t) seen all s (among s (0, omega arith, refl))) x z.0 i ∷ chosen_kept chosen (λ r c. among r (contains-later s chosen r c)) xs z.1 i
    chosen_kept _ among _ z = absurd z

    module _ (test : NumberedSight → Bool) (shown : List Sight) (agree : reads.all_agree seen_all ≡ true)
        (into : (s : Sight) → Contains shown s → (x : NumberedSight) × Contains seen x × (test x ≡ true) × (sight_of t x ≡ s))
        (back : (x : NumberedSight) → Contains seen x → test x ≡ true → Contains shown (sight_of t x)) where
      enough : (chosen : List NumberedSight) → AreChosen test seen chosen → AreEnough (map (sight_of t) chosen) shown
      enough chosen are = record { among = among; each = each }
        where
          among : (s : Sight) → Contains (map (sight_of t) chosen) s → Contains shown s
          among s c =
              let from = map_from (sight_of t) chosen s c in
              let there = are.among from.0 from.1 in
              subst (Contains shown) from.2 (back from.0 there.0 there.1)

          each : (s : Sight) → Contains shown s → (r : Sight) × Contains (map (sight_of t) chosen) r × (r.path ≡ s.path)
          each s c =
              let from = into s c in
              let found = are.each from.0 from.1 from.2 in
              (sight_of t found.0, contains-map (sight_of t) chosen found.0 found.1, ap (path_text t) found.2 ∙ ap (λ (r : Sight). r.path) from.3)

      gathered : (chosen : List NumberedSight) → AreChosen test seen chosen → (xs : List (Text × PlannedInterface)) → AllZip (SightBecomes t kept p seen) chosen xs
          → ◌≡◌ {A = TextMap InterfaceMeaning} (from_entries (map entry_of xs)) (from_entries (map (seen_meaning seen_all) shown))
      gathered chosen are xs z = ap from_entries (chosen_kept chosen (λ s c. (are.among s c).0) xs z)
          ∙ one_view_is_enough seen_all (map (sight_of t) chosen) shown agree (λ s c. let from = into s c in subst (Contains seen_all) from.3 (contains-map _ _ _ from.1)) (enough chosen are)

-- ---- the entries of a plan

abbrev meant_entry : Plan → Text × PlannedInterface → Text × InterfaceMeaning
meant_entry p y = (y.0, planned.interface_meaning p y.1)

-- ---- a package

module _ (t : Tables) (tables : AreTables t) (h : Homes) (stand : HomesStand t h) (known : ℕ → Fact) (n : ℕ) (ms : List NumberedMember) (members : List Member) (z : AllZip (IsMember t h) ms members)
    (all : AllByRecursion (IsKnownSight t known) (sights_of_members t ms)) (are : are_package t h known n ms ≡ true) (p : Plan) (g : IsGathered t h n ms p) where
  abbrev seen : List NumberedSight
  seen = sights_of_members t ms

  sights : AllByRecursion (IsSight t) seen
  sights = only_sights t known seen all

  both_hold : (agree_in_numbers seen && are_interfaces t known seen) ≡ true
  both_hold = search rules

  agree : reads.all_agree (map (sight_of t) seen) ≡ true
  agree = agree_same t tables h stand known seen all ∙ first_true (agree_in_numbers seen) (are_interfaces t known seen) both_hold

  obey : reads.are_interfaces (map (sight_of t) seen) ≡ true
  obey = interfaces_same t tables h stand known seen all ∙ second_true (agree_in_numbers seen) (are_interfaces t known seen) both_hold

  foreign_same : (s : NumberedSight) → Contains seen s → not (is_of g.main.identity (path_text t s.place)) ≡ is_foreign h n s
  foreign_same s c =
      let is = all_at (IsSight t) seen sights s c in
      ap not (of_package t tables h stand n g.main.identity g.identity s.place (is.path, is.home)) ∙ by (is_of_package h n s.place)
    where
      by : (b : Bool) → not b ≡ cond b false true
      by true = refl
      by false = refl

  abbrev is_other : Sight → Bool
  is_other s = not (is_of g.main.identity s.path)

  into : (s : Sight) → Contains (filter is_other (map (sight_of t) seen)) s → (x : NumberedSight) × Contains seen x × (is_foreign h n x ≡ true) × (sight_of t x ≡ s)
  into s c =
      let passed = filter_kept is_other (map (sight_of t) seen) s c in
      let from = map_from (sight_of t) seen s passed.0 in
      (from.0, from.1, sym (foreign_same from.0 from.1) ∙ (ap is_other from.2 ∙ passed.1), from.2)

  back : (x : NumberedSight) → Contains seen x → is_foreign h n x ≡ true → Contains (filter is_other (map (sight_of t) seen)) (sight_of t x)
  back x c foreign = filter_keeps is_other (map (sight_of t) seen) (sight_of t x) (contains-map (sight_of t) seen x c) (foreign_same x c ∙ foreign)

  foreign_means : ◌≡◌ {A = TextMap InterfaceMeaning} (from_entries (filter_map (foreign_entry p) p.interfaces))
      (from_entries (map (seen_meaning (flat_map reads.sights members)) (filter is_other (flat_map reads.sights members))))
  foreign_means = ap from_entries (filter_mapped (foreign_entry p) (foreign_interface p) (meant_entry p) (λ x. search std_rules) p.interfaces)
      ∙ (gathered t tables g.kept p g.keeps seen sights (is_foreign h n) (filter is_other (map (sight_of t) seen)) agree into back g.chosen g.chosen_are (filter_map (foreign_interface p) p.interfaces)
      g.foreign ∙ ap (λ ss. from_entries (map (seen_meaning ss) (filter is_other ss))) (sym (all_sights t tables h stand ms members z)))

  package_means : planned.package_meaning p g.main ≡ package_shown g.main.identity members
  package_means = λ i. record {
    identity = g.main.identity;
    interfaces = interfaces_kept t tables g.kept p g.keeps h seen sights agree obey ms (λ m c s among. contains-flat (λ (x : NumberedMember). sights_of_part t x.part) ms m s c among) members z
        g.main.interfaces g.interfaces i;
    worlds = worlds_kept t tables g.kept p g.keeps h ms members z g.main.worlds g.worlds i;
    foreign = foreign_means i;
  }

  package_is_meant : plan_meaning p ≡ package_with g.main.identity members
  unfolding plan_meaning
  package_is_meant = search (std_rules, package_means, packages_in_numbers t tables h stand known n g.main.identity g.identity ms members z all)

pub gathered_package_is_meant : GatheredPackageIsMeant
gathered_package_is_meant t tables h stand known n ms members z all are p g = package_is_meant t tables h stand known n ms members z all are p g

-- ---- one world

pub gathered_world_is_meant : GatheredWorldIsMeant
unfolding plan_world_meaning
gathered_world_is_meant t tables h stand known n name w scope shows all are p g reads_ = ap (option_and_then (λ k. option_map (planned.world_package p k) (plan.world_in p 0))) g.stands
    ∙ (ap (option_map (planned.world_package p g.main)) g.first
    ∙ (ap Some (λ i. record { identity = g.main.identity; name = g.named i; world = world_kept t tables g.kept p g.keeps w g.world g.becomes scope shows i; shown = shown_means i })
    ∙ sym (one_world_in_numbers t tables h stand known n g.main.identity g.identity name reads_ w scope shows all ∙ ap (λ b. provided b (world_shown g.main.identity name scope)) are)))
  where
    sights : AllByRecursion (IsSight t) (sights_of_scope t w)
    sights = only_sights t known (sights_of_scope t w) all

    agree : reads.all_agree (map (sight_of t) (sights_of_scope t w)) ≡ true
    agree = agree_same t tables h stand known (sights_of_scope t w) all ∙ first_true _ _ are

    shown_means : ◌≡◌ {A = TextMap InterfaceMeaning} (from_entries (filter_map (shown_entry p) p.interfaces))
        (from_entries (map (seen_meaning (flat_map reads.of_instance scope.instances)) (flat_map reads.of_instance scope.instances)))
    shown_means = ap from_entries (filter_mapped (shown_entry p) (under_path p) (meant_entry p) (λ x. search std_rules) p.interfaces)
        ∙ (gathered t tables g.kept p g.keeps (sights_of_scope t w) sights (λ s. true) (map (sight_of t) (sights_of_scope t w)) agree
        (λ s c. let from = map_from (sight_of t) (sights_of_scope t w) s c in (from.0, from.1, refl, from.2)) (λ x c passes. contains-map (sight_of t) (sights_of_scope t w) x c) g.chosen g.chosen_are
        (filter_map (under_path p) p.interfaces) g.shown ∙ ap (λ ss. from_entries (map (seen_meaning ss) ss)) (sym (sights_in_numbers t w scope shows)))
