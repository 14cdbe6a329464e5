-- The interfaces that worlds import and export, by the numbers of their places: no inline one is an item twice.
use Rattle.std.proofs.Common.{rules as std_rules, ◌≡◌, refl, sym, ap, subst, ◌∙◌, ℕ, zero, suc, ◌+◌, ◌<◌, arith, Bool, true, false, not, ◌||◌, nat_lt, if◌then◌else◌, List, [], ◌∷◌, ◌++◌, length, length-append, map, Option, Some, None, append_assoc, slice_get, inl, inr, ◌&&◌, ◌==◌, cond, filter, filter_map, option_to_list}
use Rattle.std.proofs.lemmas.{Bool.lt-ltb, Bool.and_from as both, Bool.eq-eqb, Bool.eqb-true, Bool.not-true as not_true, Slice.Zip.AllZip-long as zip_length}
use Rattle.std.proofs.{lemmas.Option.slice_get_within, lemmas.Option.same_Some as same-some, lemmas.Slice.Eq.bytes_eq-Decides, Math.ListN.length-map}
use Rattle.std.proofs.lemmas.List.Elements.{Contains-append_left, Contains-append_right, filter-append, filter_map-append}
use Rattle.std.specs.List.{AllByRecursion, AllZip, list_any, Contains, list_all, cons_option, flat_map}
use Rattle.wit_model.{specs.Text.Text, specs.Text.text_eq, specs.Lookup.resource_of, specs.Valid.as_world, specs.Uses.has, specs.Names.is_label}
use Rattle.plan_meaning.specs.{GatheredPlan.BecomesIfGiven, GatheredPlan.FunctionBecomes, GatheredPlan.ParamBecomes, ReadPlaces.inline_shown}
use Rattle.plan_meaning.specs.{NumberedRules.Fact, ReadFunctions.Beside, ReadFunctions.FunctionsAreRead, ReadFunctions.IsReadFunction}
use Rattle.plan_meaning.specs.{NumberedMembers.Homes, NumberedMembers.NumberedMember, NumberedMembers.home_at, PlanRules.world_functions, PlanRules.has_name}
use Rattle.plan_meaning.specs.NumberedViews.{AllOf, FunctionShape, PartsOf, Tables, function_at}
use Rattle.plan_meaning.specs.NumberedWorlds.{NumberedSeen, NumberedShown, are_imports, is_item, is_resource_seen, resources_seen, KeyStands, NumberedScope, ScopeStands, is_world, place_of_key, are_once}
use Rattle.plan_meaning.specs.Plan.{Plan, PlannedFunction, PlannedItem, PlannedKey, PlannedWorld, items_of, world_in, item_interface, item_function}
use Rattle.plan_meaning.specs.ReadWorlds.{ReadItem, is_type_seen, types_follow, IsInterfaceOf, IsReadItem, IsReadUnder, IsReadWorld, by_path, implementing_path, by_label}
use Rattle.plan_meaning.specs.KeptFunctions.{IsKindOf, IsResource, a_constructor, a_method, a_static, an_async_method, an_async_static, of_none}
use Rattle.plan_meaning.specs.{Shapes.named_shape, FollowedNumbers.IsMetFrom}
use Rattle.plan_meaning.proofs.{Lists.no_true, NumberedWorlds.worlds_in_numbers, ReadLists.never}
use Rattle.plan_parts.specs.Functions.{KeptIfGiven, KeptParam, TakesAndGives}
use Rattle.plan_type_laws.proofs.{KeptKinds.one_old, PartPlaces.parts_weaker}
use Rattle.base_lemmas.proofs.Bools.{left_of as first_true, right_of as second_true, or_true}
use Rattle.base_lemmas.proofs.Elements.{all_by_number, all_at, contains-map, contains-one, get-contains, zip_at_right as zip_get, zip-append as zip_both}
use Rattle.base_lemmas.proofs.Lists.{front_at as at_front, get_back as unmapped_get, mapped_get, within_there as slice_there}
use Rattle.plan_laws.proofs.{WorldKeys.keys_differ, WorldKeys.planned_worlds_stand, WorldKeys.world_member, WholeTypes.packages_are_ruled}
use Rattle.plan_laws.proofs.Sources.{all_given, one_owner, Side, side_good, side_is, IsWorldIn, world_in as world_of}
use Rattle.wit_model.specs.declared.model.TypeId.{TypeId}
use Rattle.wit_model.proofs.Elements.{contains-filter_map}
use Rattle.plan_parts.proofs.FunctionLaws.{IsNamedAfter, constructor_after, method_after, resource_among, static_after}
use Rattle.read_exports.specs.Members.{numbered_member, numbered_members, numbered_part}
use Rattle.read_exports.specs.declared.members.{Member.Member, Part.Part}
use Rattle.read_rules.specs.{Scopes.numbered_key, Scopes.numbered_scope, Scopes.numbered_seen, Scopes.numbered_shown, Tables.given_text, Views.numbered_view}
use Rattle.read_rules.specs.declared.{scopes.InstanceKey.InstanceKey, scopes.Scope.Scope, scopes.Seen.Seen, views.View.View, scopes.Shown.Shown}
use Rattle.plan_package.specs.PlanWhole.{PlansWhole, places_in}
use Rattle.plan_package.specs.WholeWorlds.{PlansFunction, PlansInstance, PlansItem, PlansWorld, a_function, a_type, an_instance, worlds_in, world_in_part}
use Rattle.plan_laws.specs.{FirstViews.ViewsAreOrdered, Owners.owners_of}
use Rattle.plan_laws.specs.{ViewedInterfaces.views_read, Whole.IsPackageInput, Whole.PartIsKnown, WorldItems.WorldIsPlanned, WorldItems.WorldsAreApart}
use Rattle.plan_laws.specs.WholeWorlds.{IsCounted, IsLastType, IsReadAs, IsUnderKey, PlannedWorldsAreRead, WorldIsFollowed, WorldsAreFollowed, WorldsAreReadAs}
use Rattle.plan_type_laws.specs.ShownMarks.{has_no_path, places_of_part, places_of_seen, places_of_shown}
use Rattle.plan_types.specs.PlannedTypes.{number_in}
use Rattle.plan_package.proofs.ReadPackageLaws.{number_at as number_there}
use Rattle.plan_meaning.specs.NumberedWorlds as worlds
use Rattle.comp_meaning.specs.Reads as reads
use Rattle.plan_meaning.specs.Plan as plan
use Rattle.plan_meaning.specs.ReadWorlds as read
use Rattle.read_exports.specs.declared.members.Part.TheVariants as parts
use Rattle.read_rules.specs.declared.scopes.InstanceKey.TheVariants as keys
use Rattle.read_rules.specs.declared.scopes.Shown.TheVariants as shown

-- ---- What a world imports, behind the resources that it imports before, and items as they are read.

-- ---- resources that are imported before

-- a resource among what is seen
pub record IsSeenResource (ss : List NumberedSeen) (r : Text) : Type 0 where
  pub number : ℕ
  pub seen : NumberedSeen
  pub at : slice_get ss number ≡ Some seen
  pub key : seen.key ≡ r
  pub declared : Option ℕ
  pub shown : seen.shown ≡ worlds.declares declared

declares_it : (x : NumberedShown) → is_resource_seen x ≡ true → (d : Option ℕ) × (x ≡ worlds.declares d)
declares_it x h = search std_rules

pub seen_resource : (ss : List NumberedSeen) (r : Text) → list_any (text_eq r) (resources_seen ss) ≡ true → IsSeenResource ss r
seen_resource [] r any = no_true any
seen_resource (s ∷ ss) r any = by (is_resource_seen s.shown) refl any (λ more. let is = seen_resource ss r more in
    record { number = suc is.number; seen = is.seen; at = is.at; key = is.key; declared = is.declared; shown = is.shown })
  where
    which : (b : Bool) → text_eq r s.key ≡ b → is_resource_seen s.shown ≡ true → (b || list_any (text_eq r) (resources_seen ss)) ≡ true
        → (list_any (text_eq r) (resources_seen ss) ≡ true → IsSeenResource (s ∷ ss) r) → IsSeenResource (s ∷ ss) r
    which true e is h more = let its = declares_it s.shown is in record { number = zero; seen = s; at = refl; key = sym ((bytes_eq-Decides r s.key).0 e); declared = its.0; shown = its.1 }
    which false e is h more = more h

    by : (b : Bool) → is_resource_seen s.shown ≡ b → list_any (text_eq r) (if b then s.key ∷ resources_seen ss else resources_seen ss) ≡ true
        → (list_any (text_eq r) (resources_seen ss) ≡ true → IsSeenResource (s ∷ ss) r) → IsSeenResource (s ∷ ss) r
    by true e h more = which (text_eq r s.key) refl e h more
    by false e h more = more h

module _ (t : Tables) (known : ℕ → Fact) (home : ℕ) where
  -- an import that may stand behind the resources of some that are before it
  pub record IsItemBehind (all : List NumberedSeen) (n : ℕ) (s : NumberedSeen) : Type 0 where
    pub before : List NumberedSeen
    pub is : is_item t known home (resources_seen before) s.key s.shown ≡ true
    pub there : (i : ℕ) (x : NumberedSeen) → slice_get before i ≡ Some x → (i < n) × (slice_get all i ≡ Some x)

  pub items_behind : (all earlier ss : List NumberedSeen) → all ≡ earlier ++ ss → are_imports t known home earlier ss ≡ true → (j : ℕ) (s : NumberedSeen) → slice_get ss j ≡ Some s
      → IsItemBehind all (length earlier + j) s
  items_behind all earlier [] same ok j s e = let wrong : None ≡ Some s = e in absurd cc
  items_behind all earlier (y ∷ ss) same ok zero s e = record {
    before = earlier;
    is = subst (λ (x : NumberedSeen). is_item t known home (resources_seen earlier) x.key x.shown ≡ true) (same-some y s e) (first_true _ _ ok);
    there = λ i x at. ((let low = slice_get_within _ i x at in omega (arith, low)), ap (λ zs. slice_get zs i) same ∙ at_front earlier (y ∷ ss) i x at);
  }
  items_behind all earlier (y ∷ ss) same ok (suc j) s e =
      subst (λ n. IsItemBehind all n s) (let l = length-append earlier (y ∷ []) in omega (arith, l)) (items_behind all (earlier ++ y ∷ []) ss (same ∙ sym (append_assoc earlier (y ∷ []) ss))
      (second_true (is_item t known home (resources_seen earlier) y.key y.shown) (are_imports t known home (earlier ++ y ∷ []) ss) ok) j s e)

-- ---- items

-- what is seen, the items that it becomes and the counts, place by place
pub items : List NumberedSeen → List (PlannedKey × PlannedItem) → List ℕ → List ReadItem
items (s ∷ ss) (e ∷ es) (c ∷ cs) = record { seen = s; entry = e; count = c } ∷ items ss es cs
items _ _ _ = []

pub items_seen : (ss : List NumberedSeen) (es : List (PlannedKey × PlannedItem)) (cs : List ℕ) → length es ≡ length ss → length cs ≡ length ss → map (λ (x : ReadItem). x.seen) (items ss es cs) ≡ ss
unfolding items
items_seen [] es cs a b = refl
items_seen (s ∷ ss) [] cs a b = absurd (omega (arith, a))
items_seen (s ∷ ss) (e ∷ es) [] a b = absurd (omega (arith, b))
items_seen (s ∷ ss) (e ∷ es) (c ∷ cs) a b = ap (λ xs. s ∷ xs) (items_seen ss es cs (omega (arith, a)) (omega (arith, b)))

pub items_listed : (ss : List NumberedSeen) (es : List (PlannedKey × PlannedItem)) (cs : List ℕ) → length es ≡ length ss → length cs ≡ length ss → map (λ (x : ReadItem). x.entry) (items ss es cs) ≡ es
unfolding items
items_listed [] [] cs a b = refl
items_listed (s ∷ ss) (e ∷ es) [] a b = absurd (omega (arith, b))
items_listed (s ∷ ss) (e ∷ es) (c ∷ cs) a b = ap (λ xs. e ∷ xs) (items_listed ss es cs (omega (arith, a)) (omega (arith, b)))
items_listed _ _ cs a b = absurd (omega (arith, a))

pub items_at : (ss : List NumberedSeen) (es : List (PlannedKey × PlannedItem)) (cs : List ℕ) (j : ℕ) (x : ReadItem) → slice_get (items ss es cs) j ≡ Some x → (slice_get ss j ≡ Some x.seen)
    × (slice_get es j ≡ Some x.entry) × (slice_get cs j ≡ Some x.count)
unfolding items
items_at (s ∷ ss) (e ∷ es) (c ∷ cs) zero x at = search std_rules
items_at (s ∷ ss) (e ∷ es) (c ∷ cs) (suc j) x at = items_at ss es cs j x at
items_at _ _ _ j x at = let wrong : None ≡ Some x = at in absurd cc

-- each type is behind all that is followed before, where its count is greater
pub types_behind : (xs : List ReadItem) → ((i j : ℕ) (x y : ReadItem) → slice_get xs i ≡ Some x → slice_get xs j ≡ Some y → i < j → is_type_seen y.seen.shown ≡ true → x.count < y.count)
    → types_follow xs ≡ true
types_behind [] more = refl
types_behind (x ∷ xs) more = both _ _ (all_by_number _ _ (λ j y at. by j y at (is_type_seen y.seen.shown) refl))
    (types_behind xs (λ i j a y at_a at_y low. more (suc i) (suc j) a y at_a at_y (omega (arith, low))))
  where
    by : (j : ℕ) (y : ReadItem) → slice_get xs j ≡ Some y → (b : Bool) → is_type_seen y.seen.shown ≡ b → (not b || nat_lt x.count y.count) ≡ true
    by j y at true e = lt-ltb x.count y.count (more zero (suc j) x y refl at (omega arith) e)
    by j y at false e = refl

-- ---- parts of functions

-- what holds of the parts of a function's type holds of those of the type by which it is read
module _ (t : Tables) (kept : List ℕ) (p : Plan) (P : ℕ → Type 0) where
  params_back : (fs ss gs : List (Text × ℕ)) → AllZip (KeptParam kept) fs gs → AllZip (ParamBecomes t kept p) ss gs → AllByRecursion (λ (x : Text × ℕ). P x.1) fs
      → AllByRecursion (λ (x : Text × ℕ). P x.1) ss
  params_back [] (s ∷ ss) [] a b all = absurd b
  params_back [] (s ∷ ss) (g ∷ gs) a b all = absurd a
  params_back (f ∷ fs) (s ∷ ss) [] a b all = absurd a
  params_back (f ∷ fs) (s ∷ ss) (g ∷ gs) a b all = (subst P (one_old kept f.1 s.1 g.1 a.0.1 b.0.1.part) all.0, params_back fs ss gs a.1 b.1 all.1)
  params_back _ _ gs a b all = tt

  result_back : (f s g : Option ℕ) → KeptIfGiven kept f g → BecomesIfGiven t kept p s g → AllOf P f → AllOf P s
  result_back f x g a b all = search std_rules

  pub parts_back : (f shape : FunctionShape) (id : Option Text) (g : PlannedFunction) → TakesAndGives kept f g → FunctionBecomes t kept p shape id g → PartsOf P f → PartsOf P shape
  parts_back f shape id g takes becomes all = search (std_rules, params_back, result_back)

-- ---- what the page is for

-- ---- The worlds of a whole plan are those that were read.

abbrev value : PlannedKey × PlannedItem → PlannedItem
value e = e.1

first_of : (a b c d e : Bool) → (a && b && c && d && e) ≡ true → a ≡ true
first_of x b c d e h = search std_rules

module _ (t : Tables) (h : Homes) (known : ℕ → Fact) (n : ℕ) (ms : List Member) (members : List reads.Member) (given : IsPackageInput t h known n ms members) (ordered : ViewsAreOrdered t ms)
    (worlds_apart : WorldsAreApart ms) (followed : WorldsAreFollowed t ms) (p : Plan) (planned : PlansWhole t h.packages (home_at h) n ms p) (b : Beside) (beside_known : b.known ≡ known)
    (beside_owners : b.owners ≡ owners_of ms) (functions : FunctionsAreRead t planned.kept p b) where
  abbrev kept : List ℕ
  kept = planned.kept

  module _ (m : ℕ) (x : PlannedWorld) (there : world_in p m ≡ Some x) (w : Text × Scope) (at : slice_get (worlds_in ms) m ≡ Some w) (made : PlansWorld t kept (places_in ms) n w x) where
    abbrev scope : NumberedScope
    scope = numbered_scope w.1

    member : (y : Member) × Contains ms y × (y.part ≡ parts.World w.1) × (y.label.now ≡ w.0)
    member = world_member ms w (get-contains (worlds_in ms) m w at)

    world : IsWorldIn t h ms members given.input w.1
    world = world_of t h ms members given.input member.0 member.1 w.1 member.2

    stands : WorldIsPlanned t ms kept p b m w.1
    stands = planned_worlds_stand t h ms members given.input (packages_are_ruled t h known n ms members given).agree ordered worlds_apart n p planned b beside_owners m w at

    was : WorldIsFollowed t scope
    was = all_at (λ (y : Text × Scope). WorldIsFollowed t (numbered_scope y.1)) (worlds_in ms) followed w (get-contains (worlds_in ms) m w at)

    is_known : ScopeStands t known scope
    is_known = subst (λ a. PartIsKnown t known (numbered_part a)) member.2 (all_at _ _ given.scopes (numbered_member member.0) (contains-map _ _ _ member.1))

    obeys : is_world t known scope ≡ true
    obeys = sym (worlds_in_numbers t given.input.tables known scope world.scope is_known world.shows) ∙ world.stands.obeys

    imports_stand : are_imports t known scope.home [] scope.imports ≡ true
    imports_stand = search (std_rules, first_of, obeys)

    -- ---- functions

    abbrev Item : ReadItem → Type 0
    Item = IsReadItem t kept p b (views_read ms) (as_world m) scope.home

    abbrev Under : Text → ℕ → PlannedFunction → Type 0
    Under = IsReadUnder t kept p b (views_read ms) (as_world m) scope.home

    -- a resource of the world has a number below
    abbrev ResourceBelow : Text → ℕ → Type 0
    ResourceBelow key c = (r : Text) → IsNamedAfter key r → (k : ℕ) → slice_get t.shapes k ≡ Some (named_shape scope.home r) → k < c

    function_under : (key : Text) (f c : ℕ) (g : PlannedFunction) → Contains (world_functions x) g → g.name ≡ key → TakesAndGives kept (function_at t f) g → PartsOf (λ k. k < 14 + c) (function_at t f)
        → ResourceBelow key c → Under key c g
    function_under key f c g among named takes parts below = record { read = is_read; named = named; parts = parts_back t _ p _ _ _ _ g takes is_read.kept_function.becomes parts; resource = resource }
      where
        is_read : IsReadFunction t kept p b (as_world m) g
        is_read = all_at (IsReadFunction t kept p b (as_world m)) (world_functions x) (functions.of_worlds m x there) g among

        resource : (i k : ℕ) → resource_of g.kind ≡ Some i → slice_get kept i ≡ Some k → k < c
        resource i k of_kind stands_at = by is_read.kept_function.kind
          where
            found : (id : TypeId) (r : Text) → resource_of g.kind ≡ Some id.0 → IsResource t b.known kept p (as_world m) is_read.place r id.0 → IsNamedAfter is_read.name r → k < c
            found id r is res after = below r (subst (λ z. IsNamedAfter z r) (sym is_read.kept_function.named ∙ named) after) k
                (ap (slice_get t.shapes) (same-some k res.shape (sym stands_at ∙ (ap (slice_get kept) (same-some i id.0 (sym of_kind ∙ is)) ∙ res.stands)))
                ∙ (res.shape_is ∙ ap (λ q. Some (named_shape q r)) (one_owner ms b beside_owners is_read.place scope.home (as_world m) is_read.owned stands.owned)))

            by : IsKindOf t b.known kept p (as_world m) is_read.place is_read.name is_read.shape g.kind → k < c
            by (of_none label none) = let wrong : None ≡ Some i = sym none ∙ of_kind in absurd cc
            by (a_constructor id r is res after gives) = found id r (ap resource_of is) res (constructor_after after)
            by (a_method id r is res after takes_self) = found id r (ap resource_of is) res (method_after after)
            by (an_async_method id r is res after takes_self) = found id r (ap resource_of is) res (method_after after)
            by (a_static id r is res after) = found id r (ap resource_of is) res (static_after after)
            by (an_async_static id r is res after) = found id r (ap resource_of is) res (static_after after)

    -- a resource that a function is named after is imported before it
    imported_below : (j c : ℕ) (s : NumberedSeen) (f : ℕ) → slice_get scope.imports j ≡ Some s → slice_get was.counted.counts j ≡ Some c → s.shown ≡ worlds.function f → ResourceBelow s.key c
    imported_below j c s f at_s at_c shows r after k shape =
        let behind = items_behind t known scope.home scope.imports [] scope.imports refl imports_stand j s at_s in
        let res = seen_resource behind.before r (resource_among t known scope.home s.key (function_at t f) (resources_seen behind.before)
        (subst (λ y. is_item t known scope.home (resources_seen behind.before) s.key y ≡ true) shows behind.is) r after) in
        let earlier = behind.there res.number res.seen res.at in
        let count = slice_there was.counted.counts res.number (omega (arith, was.counted.many, slice_get_within scope.imports res.number res.seen earlier.1)) in
        let last = subst (IsCounted t scope.home was.counted.counts res.number count.0 res.seen.key) res.shown (was.counted.counted res.number count.0 res.seen earlier.1 count.1) in
        omega (
          arith,
          (given.input.tables.shapes.apart last.number k (named_shape scope.home r) (last.shape ∙ ap (λ z. Some (named_shape scope.home z)) res.key) shape),
          was.counted.rising res.number j count.0 c count.1 at_c (let l : res.number < 0 + j = earlier.0 in omega (arith, l)),
          last.last,
        )

    -- ---- instances

    instance_item : (s : Seen) → Side w.1 s → (key : InstanceKey) (v : View) → s.shown ≡ shown.Instance key v → (e : PlannedKey × PlannedItem)
        → PlansInstance (places_in ms) (numbered_key key) (given_text s.external_id) e → (c : ℕ) → Item (record { seen = numbered_seen s; entry = e; count = c })
    instance_item s side key v shows e plans c = by key shows plans (side_good w.1 t world.good s side (shown.Instance key v) shows).0
        (subst (λ y. IsUnderKey t s.key.now (numbered_shown y)) shows (side_is w.1 (λ (y : NumberedSeen). IsUnderKey t y.key y.shown) was.imports was.exports s side))
        (stands.instances s side key v shows plans.number plans.found)
      where
        by : (k : InstanceKey) → s.shown ≡ shown.Instance k v → (made : PlansInstance (places_in ms) (numbered_key k) (given_text s.external_id) e) → KeyStands t (numbered_key k)
            → IsUnderKey t s.key.now (worlds.instance (numbered_key k) (numbered_view v))
            → IsInterfaceOf t kept p b (views_read ms) (as_world m) scope.home (place_of_key (numbered_key k)) (numbered_view v) made.number
            → Item (record { seen = numbered_seen s; entry = e; count = c })
        by (keys.Path q) is made path named of = by_path q made.number (numbered_view v) (given_text s.external_id) path (ap numbered_shown is) named made.is of
        by (keys.Label l q) is made none named of = by_label q made.number (numbered_view v) (given_text s.external_id)
            (ap numbered_shown is ∙ ap (λ z. worlds.instance (worlds.label z q) (numbered_view v)) (sym named.0)) (ap is_label named.0 ∙ named.1)
            (made.is ∙ ap (λ z. (plan.label z, plan.interface made.number (given_text s.external_id))) (sym named.0)) of
        by (keys.Implementing l q) is made path named of = implementing_path q made.number (numbered_view v) (given_text s.external_id) path
            (ap numbered_shown is ∙ ap (λ z. worlds.instance (worlds.implementing z q) (numbered_view v)) (sym named.0)) (ap is_label named.0 ∙ named.1)
            (made.is ∙ ap (λ z. (plan.label z, plan.interface made.number (given_text s.external_id))) (sym named.0)) of

    -- ---- items

    abbrev Plans : Seen → PlannedKey × PlannedItem → Type 0
    Plans = PlansItem t kept (places_in ms) made.find

    function_item : (s : Seen) (f : ℕ) → s.shown ≡ shown.Function f → (e : PlannedKey × PlannedItem) → Contains (items_of x) e.1 → e.0 ≡ plan.label s.key.now
        → PlansFunction t kept made.find s.key.now f (given_text s.external_id) e.1
        → (c : ℕ) → PartsOf (λ k. k < 14 + c) (function_at t f) → ResourceBelow s.key.now c → Item (record { seen = numbered_seen s; entry = e; count = c })
    function_item s f shows e e_in key plans c parts below =
        let g = plans.function in
        let among = contains-filter_map item_function (items_of x) e.1 g e_in (subst (λ i. Contains (option_to_list (item_function i)) g) (sym plans.is) (contains-one g)) in
        read.a_function f g (ap numbered_shown shows) (λ i. (key i, plans.is i)) (function_under s.key.now f c g among plans.planned.named plans.planned.parts parts below)

    import_item : (j : ℕ) (s : Seen) → slice_get w.1.imports.now j ≡ Some s → (e : PlannedKey × PlannedItem) → Contains (items_of x) e.1 → Plans s e → (c : ℕ) → slice_get was.counted.counts j ≡ Some c
        → Item (record { seen = numbered_seen s; entry = e; count = c })
    import_item j s at_s e e_in plans c at_c = by plans
      where
        in_it : Contains w.1.imports.now s
        in_it = get-contains w.1.imports.now j s at_s

        at_scope : slice_get scope.imports j ≡ Some (numbered_seen s)
        at_scope = mapped_get numbered_seen w.1.imports.now j s at_s

        counted : IsCounted t scope.home was.counted.counts j c s.key.now (numbered_shown s.shown)
        counted = was.counted.counted j c (numbered_seen s) at_scope at_c

        by : Plans s e → Item (record { seen = numbered_seen s; entry = e; count = c })
        by (an_instance key v shows instance_plans) = instance_item s (inl in_it) key v shows e instance_plans c
        by (a_function f shows key function_plans) = function_item s f shows e e_in key function_plans c
            (subst (IsCounted t scope.home was.counted.counts j c s.key.now) (ap numbered_shown shows) counted) (imported_below j c (numbered_seen s) f at_scope at_c (ap numbered_shown shows))
        by (a_type part d i shows is part_is) =
            let type_ = stands.types (keys_differ t h ms members given.input given.placed.apart w.1 world) s in_it part d shows i part_is in
            let last : IsLastType t scope.home was.counted.counts j c s.key.now = subst (IsCounted t scope.home was.counted.counts j c s.key.now) (ap numbered_shown shows) counted in
            let one : last.number ≡ type_.0 = given.input.tables.shapes.apart last.number type_.0 (named_shape scope.home s.key.now) last.shape type_.2 in
            read.a_type d i (ap numbered_shown shows) is (record { number = type_.0; stands = type_.1; shape = type_.2; becomes = type_.3; last = last.last ∙ ap (λ k. k + 1) one })

    export_item : (j : ℕ) (s : Seen) → slice_get w.1.exports.now j ≡ Some s → (e : PlannedKey × PlannedItem) → Contains (items_of x) e.1 → Plans s e
        → Item (record { seen = numbered_seen s; entry = e; count = length t.shapes })
    export_item j s at_s e e_in plans = by plans
      where
        in_it : Contains w.1.exports.now s
        in_it = get-contains w.1.exports.now j s at_s

        by : Plans s e → Item (record { seen = numbered_seen s; entry = e; count = length t.shapes })
        by (an_instance key v shows instance_plans) = instance_item s (inr in_it) key v shows e instance_plans (length t.shapes)
        by (a_function f shows key function_plans) = function_item s f shows e e_in key function_plans (length t.shapes)
            (parts_weaker (IsMetFrom t scope.home) (λ k. k < 14 + length t.shapes) (λ k met. met.range) (function_at t f) (side_good w.1 t world.good s (inr in_it) (shown.Function f) shows).parts)
            (λ r after k shape. slice_get_within t.shapes k (named_shape scope.home r) shape)
        by (a_type part d i shows is part_is) = no_true (sym (all_at _ _ world.none s in_it) ∙ ap (λ y. is_type_seen (numbered_shown y)) shows)

    -- ---- the world

    abbrev counts : List ℕ
    counts = map (λ (s : NumberedSeen). length t.shapes) scope.exports

    -- each item of a list, whose items are read as they were followed
    items_read : (cs : List Seen) (es : List (PlannedKey × PlannedItem)) (counts_of : List ℕ) → AllZip Plans cs es → ((e : PlannedKey × PlannedItem) → Contains es e → Contains (items_of x) e.1)
        → ((j : ℕ) (s : Seen) → slice_get cs j ≡ Some s → (e : PlannedKey × PlannedItem) → Contains (items_of x) e.1 → Plans s e → (c : ℕ) → slice_get counts_of j ≡ Some c
        → Item (record { seen = numbered_seen s; entry = e; count = c })) → AllByRecursion Item (items (map numbered_seen cs) es counts_of)
    items_read cs es counts_of zip in_world each = all_given Item (items (map numbered_seen cs) es counts_of) (λ j y e.
        let is = items_at (map numbered_seen cs) es counts_of j y e in
        let from = zip_get Plans cs es zip j y.entry is.1 in
        let seen : numbered_seen from.0 ≡ y.seen = same-some _ _ (sym (mapped_get numbered_seen cs j from.0 from.1) ∙ is.0) in
        subst (λ (z : NumberedSeen). Item (record { seen = z; entry = y.entry; count = y.count })) seen (each j from.0 from.1 y.entry (in_world y.entry (get-contains _ j _ is.1)) from.2 y.count is.2))

    imports_read : AllByRecursion Item (items scope.imports x.imports was.counted.counts)
    imports_read = items_read w.1.imports.now x.imports was.counted.counts made.imports (λ e c. Contains-append_left _ _ _ (contains-map _ _ e c)) import_item

    exports_read : AllByRecursion Item (items scope.exports x.exports counts)
    exports_read = items_read w.1.exports.now x.exports counts made.exports (λ e c. Contains-append_right (map value x.imports) (map value x.exports) e.1 (contains-map value x.exports e c))
        (λ j s at e e_in plans c at_c. let count = unmapped_get (λ (s : NumberedSeen). length t.shapes) scope.exports j c at_c in
        subst (λ (k : ℕ). Item (record { seen = numbered_seen s; entry = e; count = k })) count.2 (export_item j s at e e_in plans))

    follows : types_follow (items scope.imports x.imports was.counted.counts) ≡ true
    follows = types_behind (items scope.imports x.imports was.counted.counts) (λ i j a y at_a at_y low typed.
        let is_y = items_at scope.imports x.imports was.counted.counts j y at_y in
        (subst (IsCounted t scope.home was.counted.counts j y.count y.seen.key) (type_there y.seen.shown typed).1 (was.counted.counted j y.count y.seen is_y.0 is_y.2)).behind i a.count
        (items_at scope.imports x.imports was.counted.counts i a at_a).2 low)
      where
        type_there : (y : NumberedShown) → is_type_seen y ≡ true → (d : Option ℕ) × (y ≡ worlds.declares d)
        type_there (worlds.declares d) e = (d, refl)
        type_there _ e = no_true e

    no_type : list_all (λ (s : NumberedSeen). not (is_type_seen s.shown)) scope.exports ≡ true
    no_type = all_by_number _ _ (λ j y e.
        let c = unmapped_get numbered_seen w.1.exports.now j y e in
        subst (λ (s : NumberedSeen). not (is_type_seen s.shown) ≡ true) c.2 (ap not (all_at _ _ world.none c.0 (get-contains _ j _ c.1))))

    world_read : (y : IsReadWorld t kept p b (views_read ms) m x) × IsReadAs ms m y.scope
    world_read =
        let imports_many : length x.imports ≡ length scope.imports = zip_length Plans w.1.imports.now x.imports made.imports ∙ sym (length-map w.1.imports.now numbered_seen) in
        let exports_many : length x.exports ≡ length scope.exports = zip_length Plans w.1.exports.now x.exports made.exports ∙ sym (length-map w.1.exports.now numbered_seen) in
        let counts_many : length counts ≡ length scope.exports = length-map scope.exports (λ (s : NumberedSeen). length t.shapes) in (
          record {
            scope = scope;
            owned = stands.owned;
            imports = items scope.imports x.imports was.counted.counts;
            exports = items scope.exports x.exports counts;
            imports_seen = items_seen scope.imports x.imports was.counted.counts imports_many was.counted.many;
            exports_seen = items_seen scope.exports x.exports counts exports_many counts_many;
            imports_listed = items_listed scope.imports x.imports was.counted.counts imports_many was.counted.many;
            exports_listed = items_listed scope.exports x.exports counts exports_many counts_many;
            imports_read = imports_read;
            exports_read = exports_read;
            follow = follows;
            no_types = no_type;
            obeys = ap (λ k. is_world t k scope) beside_known ∙ obeys;
          },
          record { world = w; there = at; same = refl },
        )

  -- ---- all worlds

  each_read : (m : ℕ) (x : PlannedWorld) → world_in p m ≡ Some x → (y : IsReadWorld t kept p b (views_read ms) m x) × IsReadAs ms m y.scope
  each_read m x e =
      let from = zip_get (PlansWorld t kept (places_in ms) n) (worlds_in ms) p.worlds planned.worlds m x e in
      world_read m x e from.0 from.1 from.2

  pub worlds_are_read : WorldsAreReadAs t ms kept p b (views_read ms)
  worlds_are_read = record { worlds = λ m x e. (each_read m x e).0; followed = λ m x e. (each_read m x e).1 }

pub planned_worlds_are_read : PlannedWorldsAreRead
planned_worlds_are_read t h known n ms members given ordered apart followed p planned b known_is owned functions = search (std_rules, worlds_are_read)

-- ---- the interfaces that worlds import and export, by the numbers of their places

module _ (places : List ℕ) where
  -- the place has the number
  abbrev pub IsNumbered : ℕ → ℕ → Type 0
  IsNumbered q m = number_in places q ≡ Some m

  -- ---- the items of a world

  -- the places of what is shown and of the rest have the numbers of the item and of the rest
  abbrev AreNumbered : List ℕ → List ℕ → Shown → PlannedItem → Type 0
  AreNumbered ps ns a i = AllZip IsNumbered (places_of_shown (numbered_shown a) ++ ps) (cons_option (item_interface i) ns)

  abbrev item_of : PlannedKey × PlannedItem → PlannedItem
  item_of e = e.1

  module _ (t : Tables) (kept : List ℕ) where
    side : (find : Text → Option TypeId) (ss : List Seen) (es : List (PlannedKey × PlannedItem)) → AllZip (PlansItem t kept places find) ss es
        → AllZip IsNumbered (places_of_seen (map numbered_seen ss)) (filter_map item_interface (map item_of es))
    side find [] [] all = tt
    side find (s ∷ ss) (e ∷ es) all = by all.0 (side find ss es all.1)
      where
        is_numbered : (a : Shown) (i : PlannedItem) → s.shown ≡ a → e.1 ≡ i → AreNumbered (places_of_seen (map numbered_seen ss)) (filter_map item_interface (map item_of es)) a i
            → AreNumbered (places_of_seen (map numbered_seen ss)) (filter_map item_interface (map item_of es)) s.shown e.1
        is_numbered a i is same all = search std_rules

        by : PlansItem t kept places find s e → AllZip IsNumbered (places_of_seen (map numbered_seen ss)) (filter_map item_interface (map item_of es))
            → AreNumbered (places_of_seen (map numbered_seen ss)) (filter_map item_interface (map item_of es)) s.shown e.1
        by (an_instance key v is found) rest = is_numbered (shown.Instance key v) (plan.interface found.number (given_text s.external_id)) is (ap item_of found.is) (found.found, rest)
        by (a_function n is key f) rest = is_numbered (shown.Function n) (plan.function f.function) is f.is rest
        by (a_type part d n is entry part_is) rest = is_numbered (shown.Declares part d) (plan.declares n) is (ap item_of entry) rest
    side find _ _ all = absurd all

    pub items_numbered : (main : ℕ) (w : Text × Scope) (x : PlannedWorld) → PlansWorld t kept places main w x
        → AllZip IsNumbered (places_of_seen (map numbered_seen w.1.imports.now) ++ places_of_seen (map numbered_seen w.1.exports.now)) (filter_map item_interface (items_of x))
    items_numbered main w x is = search (std_rules, filter_map-append, zip_both, side)

  -- ---- numbers of some of the places

  data AreListed : List ℕ → List ℕ → Type 0 where
    none : AreListed [] []
    left_out : (q : ℕ) (qs ns : List ℕ) → AreListed qs ns → AreListed (q ∷ qs) ns
    listed : (q m : ℕ) (qs ns : List ℕ) → IsNumbered q m → AreListed qs ns → AreListed (q ∷ qs) (m ∷ ns)

  listed_both : (qs ns rs ms : List ℕ) → AreListed qs ns → AreListed rs ms → AreListed (qs ++ rs) (ns ++ ms)
  listed_both qs ns rs ms none more = more
  listed_both qs ns rs ms (left_out q a b rest) more = left_out q (a ++ rs) (b ++ ms) (listed_both a b rs ms rest more)
  listed_both qs ns rs ms (listed q m a b is rest) more = listed q m (a ++ rs) (b ++ ms) is (listed_both a b rs ms rest more)

  listed_has : (qs ns : List ℕ) → AreListed qs ns → (m : ℕ) → has ns m ≡ true → (q : ℕ) × (has qs q ≡ true) × IsNumbered q m
  listed_has qs ns none m e = no_true e
  listed_has qs ns (left_out q a b rest) m e = let found = listed_has a b rest m e in (found.0, ap (λ c. (q == found.0) || c) found.1 ∙ or_true (q == found.0), found.2)
  listed_has qs ns (listed q k a b is rest) m e = by (k == m) refl (listed_has a b rest m)
    where
      by : (c : Bool) → (k == m) ≡ c → (has b m ≡ true → (r : ℕ) × (has a r ≡ true) × IsNumbered r m) → (r : ℕ) × (has (q ∷ a) r ≡ true) × IsNumbered r m
      by true f later = (q, ap (λ c. c || has a q) (eq-eqb q q refl), is ∙ ap Some (eqb-true k m f))
      by false f later = let found = later (sym (ap (λ c. c || has b m) f) ∙ e) in (found.0, ap (λ c. (q == found.0) || c) found.1 ∙ or_true (q == found.0), found.2)

  -- places that differ have numbers that do
  listed_once : (qs ns : List ℕ) → AreListed qs ns → are_once qs ≡ true → are_once ns ≡ true
  listed_once qs ns none e = refl
  listed_once qs ns (left_out q a b rest) e = listed_once a b rest (second_true (not (has a q)) (are_once a) e)
  listed_once qs ns (listed q m a b is rest) e = both (not (has b m)) (are_once b) (ap not (absent (has b m) refl)) (listed_once a b rest (second_true (not (has a q)) (are_once a) e))
    where
      absent : (c : Bool) → has b m ≡ c → c ≡ false
      absent false f = refl
      absent true f =
          let found = listed_has a b rest m f in
          never _ (ap (has a) (sym (same-some found.0 q (sym (number_there _ _ m found.2) ∙ number_there _ q m is))) ∙ found.1) (not_true (has a q) (first_true _ _ e))

  -- those that pass a test
  module _ (f g : ℕ → Bool) (tell : (q m : ℕ) → IsNumbered q m → f q ≡ g m) where
    passing : (qs ns : List ℕ) → AllZip IsNumbered qs ns → AreListed (filter f qs) (filter g ns)
    passing [] [] all = none
    passing (q ∷ qs) (m ∷ ns) all = by (f q) (g m) (tell q m all.0) (passing qs ns all.1)
      where
        by : (b c : Bool) → b ≡ c → AreListed (filter f qs) (filter g ns) → AreListed (cond b (q ∷ filter f qs) (filter f qs)) (cond c (m ∷ filter g ns) (filter g ns))
        by true true e rest = listed q m (filter f qs) (filter g ns) all.0 rest
        by false false e rest = rest
        by true false e rest = no_true (sym e)
        by false true e rest = no_true e
    passing _ _ all = absurd all

  -- ---- all worlds

  module _ (t : Tables) (kept : List ℕ) (main : ℕ) (p : Plan) (tell : (q m : ℕ) → IsNumbered q m → has_no_path t q ≡ not (has_name p m)) where
    abbrev own : List ℕ → List ℕ
    own qs = filter (has_no_path t) qs

    own_listed : (ms : List Member) (ws : List PlannedWorld) → AllZip (PlansWorld t kept places main) (worlds_in ms) ws
        → AreListed (own (flat_map (λ (m : NumberedMember). places_of_part m.part) (numbered_members ms))) (flat_map (inline_shown p) ws)
    own_listed [] [] all = none
    own_listed [] (x ∷ ws) all = absurd all
    own_listed (m ∷ ms) ws all = by m.part all (λ vs a. own_listed ms vs a)
      where
        home_too : (b : Bool) (q : ℕ) (qs ns : List ℕ) → AreListed qs ns → AreListed (cond b (q ∷ qs) qs) ns
        home_too true q qs ns more = left_out q qs ns more
        home_too false q qs ns more = more

        of_world : (w : Scope) (vs : List PlannedWorld) → AllZip (PlansWorld t kept places main) ((m.label.now, w) ∷ worlds_in ms) vs
            → ((us : List PlannedWorld) → AllZip (PlansWorld t kept places main) (worlds_in ms) us
            → AreListed (own (flat_map (λ (n : NumberedMember). places_of_part n.part) (numbered_members ms))) (flat_map (inline_shown p) us))
            → AreListed (own (places_of_part (numbered_part (parts.World w)) ++ flat_map (λ (n : NumberedMember). places_of_part n.part) (numbered_members ms))) (flat_map (inline_shown p) vs)
        of_world w [] a more = absurd a
        of_world w (x ∷ vs) a more =
            let shown = places_of_seen (map numbered_seen w.imports.now) ++ places_of_seen (map numbered_seen w.exports.now) in
            let others = flat_map (λ (n : NumberedMember). places_of_part n.part) (numbered_members ms) in
            home_too (has_no_path t w.home) w.home (own (shown ++ others)) (inline_shown p x ++ flat_map (inline_shown p) vs)
            (subst (λ qs. AreListed qs (inline_shown p x ++ flat_map (inline_shown p) vs)) (sym (filter-append (has_no_path t) shown others))
            (listed_both (own shown) (inline_shown p x) (own others) (flat_map (inline_shown p) vs)
            (passing (has_no_path t) (λ n. not (has_name p n)) tell shown (filter_map item_interface (items_of x)) (items_numbered t kept main (m.label.now, w) x a.0)) (more vs a.1)))

        by : (a : Part) → AllZip (PlansWorld t kept places main) (world_in_part m.label.now a ++ worlds_in ms) ws
            → ((us : List PlannedWorld) → AllZip (PlansWorld t kept places main) (worlds_in ms) us
            → AreListed (own (flat_map (λ (n : NumberedMember). places_of_part n.part) (numbered_members ms))) (flat_map (inline_shown p) us))
            → AreListed (own (places_of_part (numbered_part a) ++ flat_map (λ (n : NumberedMember). places_of_part n.part) (numbered_members ms))) (flat_map (inline_shown p) ws)
        by (parts.World w) a more = of_world w ws a more
        by (parts.Interface q v imports) a more = more ws a

    pub inline_once : (ms : List Member) (ws : List PlannedWorld) → AllZip (PlansWorld t kept places main) (worlds_in ms) ws
        → are_once (own (flat_map (λ (m : NumberedMember). places_of_part m.part) (numbered_members ms))) ≡ true → are_once (flat_map (inline_shown p) ws) ≡ true
    inline_once ms ws all once = listed_once (own (flat_map (λ (m : NumberedMember). places_of_part m.part) (numbered_members ms))) (flat_map (inline_shown p) ws) (own_listed ms ws all) once
