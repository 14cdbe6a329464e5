-- A function that a view shows is one that was read, where its values are.
use Rattle.std.proofs.Common.{rules as std_rules, ◌≡◌, refl, sym, ◌∙◌, ℕ, ◌<◌, arith, min, Bool, true, false, List, length, Option, Some, None, slice_get, ap, subst, zero, ◌+◌, ◌⊎◌, inl, inr, filter_map, [], ◌∷◌, map, ◌||◌, cond}
use Rattle.std.proofs.lemmas.{Option.slice_get_within, Option.same_Some as same-some, Slice.Zip.AllZip-long as zip_length, List.Elements.Contains-append_cases}
use Rattle.std.proofs.lemmas.Slice.Eq.{bytes_eq-Decides}
use Rattle.std.specs.List.{list_any, AllByRecursion, AllZip, Contains, cons_option, flat_map}
use Rattle.wit_model.specs.declared.model.{FunctionKind.FunctionKind, TypeId.TypeId, TypeOwner.TypeOwner}
use Rattle.wit_model.specs.{Lookup.is_async, Text.Text, Text.text_eq, Tree.Tree, Tree.levels, Tree.TypeDeclaration}
use Rattle.comp_meaning.specs.{Rules.are_labels, Rules.are_parts, Rules.form_labels, Rules.distinct, Follow.instance_place}
use Rattle.plan_meaning.specs.FollowedNumbers.{IsMetFrom, IsCalledIn, IsNameOf, IsShownIn, IsViewIn}
use Rattle.plan_meaning.specs.Plan.{Plan, PlannedFunction, PlannedKind, PlannedItem, PlannedKey, PlannedWorld, item_function, items_of}
use Rattle.plan_meaning.specs.{ReadFunctions.Beside, ReadFunctions.IsReadFunction, NumberedWorlds.seen_of, NumberedWorlds.shown_of, PlanRules.world_functions}
use Rattle.plan_meaning.specs.{NumberedMembers.Homes, NumberedMembers.home_at, Shapes.named_shape}
use Rattle.plan_meaning.specs.GatheredPlan.{DeclaresKind, FunctionBecomes, a_form, a_name, a_resource}
use Rattle.plan_meaning.specs.KeptFunctions.{IsKindOf, IsResource, a_constructor, a_method, a_static, an_async_method, an_async_static, of_none}
use Rattle.plan_meaning.specs.NumberedRules.{Fact, IsKnown, IsSeenFrom, begins_with_self, most_counted, nowhere, is_no_part}
use Rattle.plan_meaning.specs.NumberedViews.{FunctionShape, IsPart, NumberedFunction, PartsOf, Tables, function_at, place_at, signature_at, tree_at, NumberedType, value, NumberedSight, declaration_of, shown_type, view_of}
use Rattle.plan_meaning.proofs.NumberedRules.{function_same}
use Rattle.plan_parts.specs.Interfaces.{IsPlannedFunction, AreResources, slot_part}
use Rattle.plan_parts.proofs.FunctionLaws.{functions_become, kinds_are_named}
use Rattle.read_exports.specs.declared.members.Member.{Member}
use Rattle.plan_types.specs.Showings.{NumberedShowing, showings_of_members, signatures_of_part, signatures_of_seen, signatures_of_shown}
use Rattle.plan_types.specs.PlannedTypes.{PlansType}
use Rattle.plan_package.specs.{PlanWhole.PlansWhole, PlanWhole.owners_in, PlanWhole.places_in, PlanWhole.shown_first, Views.views_of_members}
use Rattle.plan_package.specs.WholeWorlds.{PlansItem, a_function, a_type, an_instance, types_seen, types_shown}
use Rattle.plan_laws.specs.{Owners.homes_in, Owners.owners_of, WholeFunctions.WorldFunctionsAreRead, WholeTypes.IsRuledInput, WholeTypes.TypesAreWhole}
use Rattle.plan_laws.specs.{ShownNames.IsInput, FirstViews.told, ShownRules.ViewObeys, WholeFunctions.beside_tables}
use Rattle.plan_laws.proofs.Owned.{planned_name, seen_from, name_met, kept_number}
use Rattle.plan_laws.proofs.Sources.{owner_met, Side, partner_back, side_good, side_shows, world_in as world_of, IsWorldIn}
use Rattle.plan_laws.proofs.ShownRules.{signature_of, IsItemAmong, IsResourceIn, item_obeys, import_named, function_obeys}
use Rattle.plan_laws.proofs.{WorldKeys.world_member as world_there, WorldKeys.by_imports, WorldKeys.view_apart, MetNames.flat_cases, MetNames.name_same}
use Rattle.plan_laws.proofs.{ViewsAgree.IsFrom, ViewsAgree.of_import, ViewsAgree.of_view, ViewsAgree.shown_from, ViewsAgree.views_tell, ShownAlike.shown_alike}
use Rattle.base_lemmas.proofs.Lists.{within_there as slice_there}
use Rattle.base_lemmas.proofs.Elements.{all_at, contains-later, contains-one, get-contains, last_of as one-contained, map_from as from_map, contains-map}
use Rattle.plan_type_laws.proofs.{PartPlaces.parts_weaker, PartPlaces.slot_number, FirstFound.firsts_found}
use Rattle.wit_model.proofs.Elements.{contains-flat, contains-get, none-in}
use Rattle.read_rules.specs.declared.scopes.{Scope.Scope, Seen.Seen, Shown.Shown}
use Rattle.read_rules.specs.{Scopes.numbered_seen, Scopes.numbered_shown, Tables.given_text}
use Rattle.read_exports.specs.Members.{numbered_members}
use Rattle.comp_meaning.specs.Reads as reads
use Rattle.comp_meaning.specs.Rules as rules
use Rattle.plan_meaning.specs.Plan as plan
use Rattle.comp_meaning.specs.Follow as follow
use Rattle.read_exports.specs.declared.members.Part.TheVariants as parts
use Rattle.read_rules.specs.declared.scopes.Shown.TheVariants as shown

-- ---- A function of a plan is one that was read, where its resources are types of the plan.

-- ---- what is told of a part by its tree

module _ (t : Tables) (q : ℕ) where
  abbrev labels_good : Tree → Bool
  labels_good (Tree.node form ts) = are_labels (form_labels form)
  labels_good _ = true

  abbrev parts_good : Tree → Bool
  parts_good (Tree.node form ts) = are_parts (place_at t q) ts
  parts_good _ = true

  abbrev pub told_of : ℕ → Fact
  told_of k = record {
    levels = min most_counted (levels (tree_at t k));
    names = nowhere;
    is_plain = rules.is_part (place_at t q) (tree_at t k);
    has_plain_parts = parts_good (tree_at t k);
    has_good_labels = labels_good (tree_at t k);
  }

  pub is_told : (k : ℕ) → IsPart t k → IsSeenFrom t q k → IsKnown t told_of q k
  is_told k part seen = search std_rules

-- ---- kinds, whatever is known of the parts

module _ (t : Tables) (a b : ℕ → Fact) (kept : List ℕ) (p : Plan) (o : TypeOwner) (q : ℕ) where
  same_resource : (name : Text) (n : ℕ) → IsResource t a kept p o q name n → IsResource t b kept p o q name n
  same_resource name n is = record { shape = is.shape; stands = is.stands; shape_is = is.shape_is; type_ = is.type_; there = is.there; named = is.named; kind = is.kind; owned = is.owned }

  same_begins : (r : Text) (ps : List (Text × ℕ)) → begins_with_self t a q r ps ≡ true → begins_with_self t b q r ps ≡ true
  same_begins r x h = search std_rules

  pub same_kind : (name : Text) (f : FunctionShape) (kind : FunctionKind) → IsKindOf t a kept p o q name f kind → IsKindOf t b kept p o q name f kind
  same_kind name f kind (of_none label none) = of_none label none
  same_kind name f kind (a_constructor id r is res named gives) = a_constructor id r is (same_resource r id.0 res) named (search std_rules)
  same_kind name f kind (a_method id r is res named begins) = a_method id r is (same_resource r id.0 res) named (same_begins r f.params begins)
  same_kind name f kind (an_async_method id r is res named begins) = an_async_method id r is (same_resource r id.0 res) named (same_begins r f.params begins)
  same_kind name f kind (a_static id r is res named) = a_static id r is (same_resource r id.0 res) named
  same_kind name f kind (an_async_static id r is res named) = an_async_static id r is (same_resource r id.0 res) named

-- ---- functions

module _ (t : Tables) (h : Homes) (ms : List Member) (members : List reads.Member) (input : IsInput t h ms members) (main : ℕ) (p : Plan) (planned : PlansWhole t h.packages (home_at h) main ms p) where
  pub as_many : length p.types ≡ length planned.kept
  as_many = zip_length (PlansType t planned.kept (shown_first ms) (owners_in ms)) planned.kept p.types planned.types

  -- a name that is kept and is first shown as a resource is one of the plan
  pub resource_at : (known : ℕ → Fact) (q j n : ℕ) (r : Text) → slice_get planned.kept j ≡ Some n → slice_get t.shapes n ≡ Some (named_shape q r)
      → ((y : NumberedShowing) → shown_first ms n ≡ Some y → y.declared ≡ None) → IsResource t known planned.kept p (owners_of ms q) q r j
  resource_at known q j n r stands at none =
      let low : j < length p.types = (let within = slice_get_within planned.kept j n stands in let many = as_many in omega (arith, within, many)) in
      let found = slice_there p.types j low in
      let is = planned_name t h ms members input main p planned j n found.0 q r found.1 stands at in
      record {
        shape = n;
        stands = stands;
        shape_is = at;
        type_ = found.0;
        there = found.1;
        named = is.named;
        kind = resource_kind is.showing.declared found.0.kind (none is.showing is.first) is.kind;
        owned = is.owned ∙ owner_met (places_in ms) (homes_in ms) q (name_met t h ms members input main p planned j n q r stands at);
      }
    where
      resource_kind : (d : Option ℕ) (kind : PlannedKind) → d ≡ None → DeclaresKind t planned.kept p d kind → kind ≡ plan.resource
      resource_kind d kind e (a_resource is k) = k
      resource_kind d kind e (a_name old new is no_form becomes k) = let wrong : None ≡ Some old = sym e ∙ is in absurd cc
      resource_kind d kind e (a_form old m form olds news is at_m there zip k) = let wrong : None ≡ Some old = sym e ∙ is in absurd cc

  -- the function of a place, which may stand there behind these resources
  module _ (b : Beside) (q : ℕ) (find : Text → Option TypeId) (resources : List Text) (found : (r : Text) → list_any (text_eq r) resources ≡ true → (id : TypeId) × (find r ≡ Some id))
      (are : (r : Text) (id : TypeId) → find r ≡ Some id → IsResource t (told_of t q) planned.kept p (b.owners q) q r id.0) (f : Text × NumberedFunction) (e : Text × PlannedFunction)
      (made : IsPlannedFunction t planned.kept find f e)
      (met : PartsOf (IsMetFrom t q) (function_at t f.1.signature)) (obeys : rules.is_function (place_at t q) resources f.0 (signature_at t f.1.signature) ≡ true) where
    abbrev shape : FunctionShape
    shape = function_at t f.1.signature

    kind_is : IsKindOf t (told_of t q) planned.kept p (b.owners q) q f.0 shape e.1.kind × (is_async e.1.kind ≡ shape.is_async)
    kind_is = kinds_are_named t (told_of t q) planned.kept p (b.owners q) q find resources found are f.0 shape e.1.kind
        (sym (function_same t input.tables.shapes (told_of t q) q resources f.0 shape
        (parts_weaker (IsMetFrom t q) (IsKnown t (told_of t q) q) (λ k m. is_told t q k m.range (seen_from t h ms members input main p planned q k m)) shape met)) ∙ obeys) made.kind

    pub function_becomes : FunctionBecomes t planned.kept p shape f.1.external_id e.1
    function_becomes = functions_become t planned.kept p as_many shape f.1.external_id e.1 made.parts kind_is.1 made.same_id

    pub read_function : PartsOf (λ k. b.marks k ≡ false) shape → IsReadFunction t planned.kept p b (b.owners q) e.1
    read_function values =
        let signature = signature_of (place_at t q) resources f.0 (signature_at t f.1.signature) obeys in
        record {
          place = q;
          name = f.0;
          shape = shape;
          external_id = f.1.external_id;
          owned = refl;
          kept_function = record {
            becomes = function_becomes;
            named = made.named;
            kind = same_kind t (told_of t q) b.known planned.kept p (b.owners q) q f.0 shape e.1.kind kind_is.0;
            place = place_at t q;
            obeys = signature;
          };
          seen = parts_weaker (IsMetFrom t q) (IsSeenFrom t q) (λ k m. seen_from t h ms members input main p planned q k m) shape met;
          obeys = signature;
          values = values;
        }

-- ---- The functions of a whole plan are those that were read.

-- ---- lists

abbrev second : PlannedKey × PlannedItem → PlannedItem
second e = e.1

all_filtered : {X Y : Type 0} (P : Y → Type 0) (f : X → Option Y) (xs : List X) → ((x : X) → Contains xs x → (y : Y) → f x ≡ Some y → P y) → AllByRecursion P (filter_map f xs)
all_filtered P f [] each = tt
all_filtered {X = X} {Y = Y} P f (x ∷ xs) each = by (f x) refl (all_filtered P f xs (λ z c y e. each z (contains-later x xs z c) y e))
  where
    by : (o : Option Y) → f x ≡ o → AllByRecursion P (filter_map f xs) → AllByRecursion P (filter_map f (x ∷ xs))
    by None e rest = subst (AllByRecursion P) (ap (λ o. cons_option o (filter_map f xs)) (sym e)) rest
    by (Some y) e rest = subst (AllByRecursion P) (ap (λ o. cons_option o (filter_map f xs)) (sym e)) (each x (zero, omega arith, refl) y e, rest)

pub nothing_declared : (d : Option ℕ) → is_no_part d ≡ true → d ≡ None
nothing_declared x h = search std_rules

module _ (t : Tables) (h : Homes) (ms : List Member) (members : List reads.Member) (ruled : IsRuledInput t h ms members) (main : ℕ) (p : Plan) (planned : PlansWhole t h.packages (home_at h) main ms p) (whole : TypesAreWhole t planned.kept ms p) (known : ℕ → Fact) where
  -- what a type is shown as first is shown
  first_from : (n : ℕ) (y : NumberedShowing) → shown_first ms n ≡ Some y → (IsFrom t h ms members ruled.input ruled.placed.apart) y × (y.part ≡ 14 + n)
  first_from n y first = let found = (firsts_found (showings_of_members ms)).0 n y first in (shown_from t h ms members ruled.input ruled.placed.apart y found.0, found.1)

  -- ---- a world

  module _ (m : Member) (c : Contains ms m) (w : Scope) (is_world : m.part ≡ parts.World w) where
    abbrev is : IsWorldIn t h ms members ruled.input w
    is = world_of t h ms members ruled.input m c w is_world

    -- the name of an import in the table
    import_number : (s : Seen) → Contains w.imports.now s → (part : ℕ) (d : Option ℕ) → s.shown ≡ shown.Declares part d → (n : ℕ) × (part ≡ 14 + n) × IsNameOf t w.home s.key.now d n
    import_number = import_named t ruled.input.tables h ms members ruled.input m c w is_world

    -- a type that it imports is first shown so
    first_import : (s : Seen) → Contains w.imports.now s → (part : ℕ) (d : Option ℕ) → s.shown ≡ shown.Declares part d → (n : ℕ) → part ≡ 14 + n → (y : NumberedShowing) → shown_first ms n ≡ Some y
        → y.declared ≡ d
    first_import s among part d e n number y first = let from = first_from n y first in by from.0 from.1
      where
        by : (IsFrom t h ms members ruled.input ruled.placed.apart) y → y.part ≡ 14 + n → y.declared ≡ d
        by (of_view sight in_views good x in_types shows) at =
            let stands = all_at (IsShownIn t sight.place) sight.view.types good.types x in_types in
            let own = import_number s among part d e in
            let same : stands.number ≡ own.0 = omega (arith, own.1, number, slot_number t x.slot stands.number stands.slot, ap (λ (z : NumberedShowing). z.part) shows, at) in
            let here = name_same t.shapes sight.place w.home x.name s.key.now stands.number own.0 stands.name.named own.2.named same in
            absurd (view_apart t h ms members ruled.input ruled.placed.apart sight in_views m c w is_world here.0)
        by (of_import m2 c2 w2 is2 s2 among2 e2) at = by_imports t h ms members ruled.input ruled.placed.apart m2 c2 w2 is2 s2 among2 y.part y.declared e2 m c w is_world s among part d e
            (at ∙ sym number)

    -- the resources that it imports are types of the plan
    module _ (b : Beside) (owned : b.owners ≡ owners_of ms) (find : Text → Option TypeId) (have : AreResources planned.kept (flat_map types_seen w.imports.now) find) where
      type_seen : (s : Seen) (x : NumberedType) → Contains (types_seen s) x → (part : ℕ) × (d : Option ℕ) × (s.shown ≡ shown.Declares part d) × (slot_part x.slot ≡ part) × (x.declared ≡ d)
          × (x.name ≡ s.key.now)
      type_seen s x among = by s.shown (given_text s.external_id) among
        where
          by : (k : Shown) (id : Option Text) → Contains (types_shown s.key.now id k) x → (part : ℕ) × (d : Option ℕ) × (k ≡ shown.Declares part d) × (slot_part x.slot ≡ part) × (x.declared ≡ d)
              × (x.name ≡ s.key.now)
          by (shown.Declares part d) id there = search (std_rules, one-contained)
          by _ id there = none-in x there

      resource_is : (r : Text) (id : TypeId) → find r ≡ Some id → IsResource t (told_of t w.home) planned.kept p (owners_of ms w.home) w.home r id.0
      resource_is r id found =
          let at = have.among r id found in
          let from = flat_cases types_seen w.imports.now at.1 (get-contains (flat_map types_seen w.imports.now) at.0 at.1 at.2) in
          let seen = type_seen from.0 at.1 from.2 in
          let number = import_number from.0 from.1 seen.0 seen.1 seen.2 in
          resource_at t h ms members ruled.input main p planned (told_of t w.home) w.home id.0 number.0 r (kept_number planned.kept (slot_part at.1.slot) number.0 id.0 (seen.3 ∙ number.1) at.5)
          (number.2.named ∙ ap (λ (x : Text). Some (named_shape w.home x)) (sym seen.5 ∙ at.4))
          (λ y first. first_import from.0 from.1 seen.0 seen.1 seen.2 number.0 number.1 y first ∙ (sym seen.4 ∙ nothing_declared at.1.declared at.3))

      -- each resource among the imports is found
      resource_found : (r : Text) → IsResourceIn (map (seen_of t) (map numbered_seen w.imports.now)) r → (id : TypeId) × (find r ≡ Some id)
      resource_found r among =
          let outer = from_map (seen_of t) (map numbered_seen w.imports.now) among.seen among.among in
          let from = from_map numbered_seen w.imports.now outer.0 outer.1 in
          let same : seen_of t (numbered_seen from.0) ≡ among.seen = ap (seen_of t) from.2 ∙ outer.2 in
          by from.0 from.1 from.0.shown refl (ap (λ (s : follow.Seen). s.shown) same ∙ among.shown) (ap (λ (s : follow.Seen). s.key) same ∙ sym among.named)
        where
          by : (s : Seen) → Contains w.imports.now s → (x : Shown) → s.shown ≡ x → shown_of t (numbered_shown x) ≡ follow.Shown.declares TypeDeclaration.resource → s.key.now ≡ r → (id : TypeId)
              × (find r ≡ Some id)
          by s in_it (shown.Declares part None) e is name =
              let x : NumberedType = record { name = s.key.now; declared = None; external_id = given_text s.external_id; slot = value part } in
              let here : Contains (types_seen s) x = subst (λ k. Contains (types_shown s.key.now (given_text s.external_id) k) x) (sym e) (contains-one x) in
              let at = contains-get (flat_map types_seen w.imports.now) x (contains-flat types_seen w.imports.now s x in_it here) in
              let found = have.found at.0 x at.1 refl in
              (found.0, sym (ap find name) ∙ found.1)
          by s in_it _ e is name = let wrong : ⊥ = cc in absurd wrong

      -- ---- a function

      module _ (s : Seen) (f : ℕ) (g : PlannedFunction) (called : IsCalledIn t w.home f)
          (item : IsItemAmong (map (seen_of t) (map numbered_seen w.imports.now)) s.key.now (follow.Shown.function (signature_at t f)))
          (made : IsPlannedFunction t planned.kept find (s.key.now, record { signature = f; external_id = given_text s.external_id }) (s.key.now, g)) where
        resource_own : (r : Text) (id : TypeId) → find r ≡ Some id → IsResource t (told_of t w.home) planned.kept p (b.owners w.home) w.home r id.0
        resource_own r id found = subst (λ (os : ℕ → TypeOwner). IsResource t (told_of t w.home) planned.kept p (os w.home) w.home r id.0) (sym owned) (resource_is r id found)

        rule : rules.is_function (place_at t w.home) item.resources s.key.now (signature_at t f) ≡ true
        rule = ap (λ place. rules.is_function place item.resources s.key.now (signature_at t f)) (ap instance_place is.good.home) ∙ item.is

        function_read : PartsOf (λ k. b.marks k ≡ false) (function_at t f) → IsReadFunction t planned.kept p b (b.owners w.home) g
        function_read values = read_function t h ms members ruled.input main p planned b w.home find item.resources (λ r any. resource_found r (item.from r any)) resource_own
            (s.key.now, record { signature = f; external_id = given_text s.external_id }) (s.key.now, g) made called.parts rule values

        function_made : FunctionBecomes t planned.kept p (function_at t f) (given_text s.external_id) g
        function_made = function_becomes t h ms members ruled.input main p planned b w.home find item.resources (λ r any. resource_found r (item.from r any)) resource_own
            (s.key.now, record { signature = f; external_id = given_text s.external_id }) (s.key.now, g) made called.parts rule

      -- a function that it imports or exports may stand behind its resources
      may_stand : (s : Seen) → Side w s → (f : ℕ) → s.shown ≡ shown.Function f → IsItemAmong (map (seen_of t) (map numbered_seen w.imports.now)) s.key.now (follow.Shown.function (signature_at t f))
      may_stand s side f e = subst (λ (x : Shown). IsItemAmong (map (seen_of t) (map numbered_seen w.imports.now)) s.key.now (shown_of t (numbered_shown x))) e
          (item_obeys t ruled.input.tables h ms members ruled.input w (world_of t h ms members ruled.input m c w is_world) s side)

      -- what a function that it imports or exports becomes
      pub seen_becomes : (s : Seen) → Side w s → (f : ℕ) → s.shown ≡ shown.Function f → (g : PlannedFunction)
          → IsPlannedFunction t planned.kept find (s.key.now, record { signature = f; external_id = given_text s.external_id }) (s.key.now, g)
          → FunctionBecomes t planned.kept p (function_at t f) (given_text s.external_id) g
      seen_becomes s side f shows g made = function_made s f g (side_good w t is.good s side (shown.Function f) shows) (may_stand s side f shows) made

      module _ (marks_are : b.marks ≡ whole.marks.marks) where
        values_of : (f : ℕ) → Contains (signatures_of_part (parts.World w)) f → PartsOf (λ k. b.marks k ≡ false) (function_at t f)
        values_of f among = subst (λ (marks : ℕ → Bool). PartsOf (λ k. marks k ≡ false) (function_at t f)) (sym marks_are)
            (all_at _ _ whole.marks.values f (contains-flat (λ (x : Member). signatures_of_part x.part) ms m f c (subst (λ a. Contains (signatures_of_part a) f) (sym is_world) among)))

        abbrev ItemRead : PlannedKey × PlannedItem → Type 0
        ItemRead e = (g : PlannedFunction) → item_function e.1 ≡ Some g → IsReadFunction t planned.kept p b (b.owners w.home) g

        -- the item of an import or an export
        item_read : (s : Seen) → Side w s → (e : PlannedKey × PlannedItem) → PlansItem t planned.kept (places_in ms) find s e → ItemRead e
        item_read s side e (an_instance key v shown_is made) g function = let wrong : None ≡ Some g = sym (ap (λ (x : PlannedKey × PlannedItem). item_function x.1) made.is) ∙ function in absurd cc
        item_read s side e (a_type part d n shown_is made kept) g function = let wrong : None ≡ Some g = sym (ap (λ (x : PlannedKey × PlannedItem). item_function x.1) made) ∙ function in absurd cc
        item_read s side e (a_function n shown_is key_is made) g function =
            let same : made.function ≡ g = same-some made.function g (sym (ap item_function made.is) ∙ function) in
            let there : Contains (signatures_of_seen s) n = subst (λ (x : Shown). Contains (signatures_of_shown x) n) (sym shown_is) (contains-one n) in
            subst (IsReadFunction t planned.kept p b (b.owners w.home)) same (function_read s n made.function (side_good w t is.good s side (shown.Function n) shown_is)
            (may_stand s side n shown_is) made.planned (values_of n (side_shows w signatures_of_seen s n side there)))

        pub world_read : (x : PlannedWorld) → AllZip (PlansItem t planned.kept (places_in ms) find) w.imports.now x.imports
            → AllZip (PlansItem t planned.kept (places_in ms) find) w.exports.now x.exports → AllByRecursion (IsReadFunction t planned.kept p b (b.owners w.home)) (world_functions x)
        world_read x imports exports = all_filtered (IsReadFunction t planned.kept p b (b.owners w.home)) item_function (items_of x) (λ i among g e. by i g e (Contains-append_cases _ _ i among))
          where
            by : (i : PlannedItem) (g : PlannedFunction) → item_function i ≡ Some g → Contains (map second x.imports) i ⊎ Contains (map second x.exports) i
                → IsReadFunction t planned.kept p b (b.owners w.home) g
            by i g e (inl there) =
                let entry = from_map second x.imports i there in
                let from = partner_back (PlansItem t planned.kept (places_in ms) find) w.imports.now x.imports imports entry.0 entry.1 in
                item_read from.0 (inl from.1) entry.0 from.2 g (ap item_function entry.2 ∙ e)
            by i g e (inr there) =
                let entry = from_map second x.exports i there in
                let from = partner_back (PlansItem t planned.kept (places_in ms) find) w.exports.now x.exports exports entry.0 entry.1 in
                item_read from.0 (inr from.1) entry.0 from.2 g (ap item_function entry.2 ∙ e)

-- a world that is exported

pub world_functions_are_read : WorldFunctionsAreRead
world_functions_are_read t h ms members ruled main p planned whole known w among x made =
    let there = world_there ms w among in
    world_read t h ms members ruled main p planned whole known there.0 there.1 w.1 there.2 (beside_tables known whole.marks.marks ms) refl made.find made.resources refl x made.imports made.exports

-- ---- what the page is for

-- a name of a resource is that of a type which is declared as one
resource_listed : (t : Tables) (xs : List NumberedType) (r : Text) → list_any (text_eq r) (rules.resources_of (map (shown_type t) xs)) ≡ true → (x : NumberedType) × Contains xs x × (x.declared ≡ None)
    × (r ≡ x.name)
resource_listed t [] r any = let wrong : false ≡ true = any in absurd cc
resource_listed t (x ∷ xs) r any = by x.declared refl any (λ more. let found = resource_listed t xs r more in (found.0, contains-later x xs found.0 found.1, found.2, found.3))
  where
    which : (b : Bool) → text_eq r x.name ≡ b → x.declared ≡ None → (b || list_any (text_eq r) (rules.resources_of (map (shown_type t) xs))) ≡ true
        → (list_any (text_eq r) (rules.resources_of (map (shown_type t) xs)) ≡ true → (z : NumberedType) × Contains (x ∷ xs) z × (z.declared ≡ None) × (r ≡ z.name)) → (z : NumberedType)
        × Contains (x ∷ xs) z × (z.declared ≡ None) × (r ≡ z.name)
    which true e none h later = (x, (zero, omega arith, refl), none, (bytes_eq-Decides r x.name).0 e)
    which false e none h later = later h

    by : (d : Option ℕ) → x.declared ≡ d
        → list_any (text_eq r) (cond (rules.declares_a_resource (declaration_of t d)) (x.name ∷ rules.resources_of (map (shown_type t) xs)) (rules.resources_of (map (shown_type t) xs))) ≡ true
        → (list_any (text_eq r) (rules.resources_of (map (shown_type t) xs)) ≡ true → (z : NumberedType) × Contains (x ∷ xs) z × (z.declared ≡ None) × (r ≡ z.name)) → (z : NumberedType)
        × Contains (x ∷ xs) z × (z.declared ≡ None) × (r ≡ z.name)
    by None e h later = which (text_eq r x.name) refl e h later
    by (Some k) e h later = later h

module _ (t : Tables) (h : Homes) (ms : List Member) (members : List reads.Member) (ruled : IsRuledInput t h ms members) (main : ℕ) (p : Plan) (planned : PlansWhole t h.packages (home_at h) main ms p)
    (first : NumberedSight) (first_in : Contains (views_of_members (numbered_members ms)) first) (good : IsViewIn t first.place first.view)
    (names : distinct (map (λ (x : NumberedType). x.name) first.view.types) ≡ true) (find : Text → Option TypeId) (have : AreResources planned.kept first.view.types find) where
  view_resource : (r : Text) (id : TypeId) → find r ≡ Some id → IsResource t (told_of t first.place) planned.kept p (owners_of ms first.place) first.place r id.0
  view_resource r id found =
      let at = have.among r id found in
      let in_types = get-contains first.view.types at.0 at.1 at.2 in
      let is = all_at (IsShownIn t first.place) first.view.types good.types at.1 in_types in
      let stands = kept_number planned.kept (slot_part at.1.slot) is.number id.0 (slot_number t at.1.slot is.number is.slot) at.5 in
      resource_at t h ms members ruled.input main p planned (told_of t first.place) first.place id.0 is.number r stands (is.name.named ∙ ap (λ (x : Text). Some (named_shape first.place x)) at.4)
      (λ y shown. let is_first = (firsts_found (showings_of_members ms)).0 is.number y shown in
      shown_alike t h ms members ruled.input ruled.placed.apart ruled.agree first first_in names at.1 in_types is.number is.name.named y is_first.0 is_first.1 ∙ nothing_declared at.1.declared at.3)

  -- a resource of another view of the place is found
  view_finds : (s : NumberedSight) → Contains (views_of_members (numbered_members ms)) s → s.place ≡ first.place → (r : Text)
      → list_any (text_eq r) (rules.resources_of (view_of t s.view).types) ≡ true → (id : TypeId) × (find r ≡ Some id)
  view_finds s s_in same r any =
      let listed = resource_listed t s.view.types r any in
      let from = from_map told first.view.types (told listed.0) (subst (λ es. Contains es (told listed.0))
      (views_tell t h ms members ruled.input ruled.placed.apart ruled.agree s first s_in first_in same) (contains-map told s.view.types listed.0 listed.1)) in
      let at = contains-get first.view.types from.0 from.1 in
      let found = have.found at.0 from.0 at.1 (ap is_no_part (ap (λ (z : Text × (Option ℕ × Option Text)). z.1.0) from.2 ∙ listed.2)) in
      (found.0, ap find (listed.3 ∙ sym (ap (λ (z : Text × (Option ℕ × Option Text)). z.0) from.2)) ∙ found.1)

  -- a function of another view of the place
  module _ (b : Beside) (s : NumberedSight) (s_in : Contains (views_of_members (numbered_members ms)) s) (same : s.place ≡ first.place) (s_good : IsViewIn t s.place s.view) (obeys : ViewObeys t s)
      (owned : b.owners first.place ≡ owners_of ms first.place) (f : Text × NumberedFunction) (f_in : Contains s.view.functions f) where
    met : PartsOf (IsMetFrom t first.place) (function_at t f.1.signature)
    met = (subst (λ q. IsCalledIn t q f.1.signature) same (all_at (λ (g : Text × NumberedFunction). IsCalledIn t s.place g.1.signature) s.view.functions s_good.functions f f_in)).parts

    view_rule : rules.is_function (place_at t first.place) (rules.resources_of (view_of t s.view).types) f.0 (signature_at t f.1.signature) ≡ true
    view_rule = search (std_rules, function_obeys)

    view_resource_is : (r : Text) (id : TypeId) → find r ≡ Some id → IsResource t (told_of t first.place) planned.kept p (b.owners first.place) first.place r id.0
    view_resource_is r id found = subst (λ o. IsResource t (told_of t first.place) planned.kept p o first.place r id.0) (sym owned) (view_resource r id found)

    pub view_function : PartsOf (λ k. b.marks k ≡ false) (function_at t f.1.signature) → (e : Text × PlannedFunction) → IsPlannedFunction t planned.kept find f e
        → IsReadFunction t planned.kept p b (b.owners first.place) e.1
    view_function values e made = read_function t h ms members ruled.input main p planned b first.place find (rules.resources_of (view_of t s.view).types) (view_finds s s_in same) view_resource_is f e
        made met view_rule values

    pub view_becomes : (e : Text × PlannedFunction) → IsPlannedFunction t planned.kept find f e → FunctionBecomes t planned.kept p (function_at t f.1.signature) f.1.external_id e.1
    view_becomes e made = function_becomes t h ms members ruled.input main p planned b first.place find (rules.resources_of (view_of t s.view).types) (view_finds s s_in same) view_resource_is f e
        made met view_rule
