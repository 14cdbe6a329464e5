-- Each interface of the plan is read by the first view of its place.
use Rattle.plan_type_laws.proofs.PartPlaces.{slot_number}
use Rattle.std.proofs.Common.{rules as std_rules, ◌≡◌, refl, sym, ap, subst, ◌∙◌, ℕ, suc, ◌<◌, ◌⊎◌, inl, inr, arith, true, List, [], ◌∷◌, ◌++◌, length, map, Option, Some, None, option_map, slice_get}
use Rattle.std.proofs.{lemmas.List.Elements.Contains-append_left, ByRecursion.All-weaker as recursion_weaker, lemmas.Slice.Zip.AllZip-long as zip_length}
use Rattle.std.proofs.lemmas.Option.{slice_get_within}
use Rattle.std.specs.{List.AllZip, List.Contains, List.flat_map, Option.option_map_or}
use Rattle.wit_model.specs.{Text.Text, Names.is_label, Rules.passes, Valid.as_interface}
use Rattle.wit_model.specs.declared.model.TypeOwner.{TypeOwner}
use Rattle.wit_model.proofs.NameLaws.{read_path_is_spelled}
use Rattle.comp_meaning.specs.Follow.{Instance}
use Rattle.read_shown.specs.Scopes.{IsInstanceBefore}
use Rattle.read_shown.proofs.Uses.{use_stands_before}
use Rattle.plan_meaning.specs.{FollowedNumbers.IsShownIn, FollowedNumbers.IsMetFrom, Plan.Plan, Plan.PlannedInterface, Plan.interface_in}
use Rattle.plan_meaning.specs.NumberedWorlds.{DeclaresParts, HasPath, used_by_view}
use Rattle.plan_meaning.specs.{ReadFunctions.Beside, GatheredPlan.DeclaresKind, GatheredPlan.TypeListed, GatheredPlan.functions_seen, Shapes.named_shape}
use Rattle.plan_meaning.specs.NumberedMembers.{Homes, NumberedMember, home_at, sights_of_members}
use Rattle.plan_meaning.specs.NumberedViews.{NumberedSight, NumberedType, Tables, agree_in_numbers, first_at, path_at, path_text, place_at, view_of, IsPart, AllOf}
use Rattle.plan_meaning.specs.ReadInterfaces.{HasName, IsKeptAs, IsNamed, IsNumberOf, IsReadInterface}
use Rattle.plan_meaning.specs.ReadOrder.{InterfacesAreViewed, IsUsedPlace, IsViewedInterface, itself, smaller}
use Rattle.plan_meaning.proofs.NumberedWorlds.{path_is, view_paths, view_uses}
use Rattle.plan_parts.specs.Interfaces.{IsPlannedFunction, slot_part}
use Rattle.read_exports.specs.Members.{numbered_members}
use Rattle.read_exports.specs.declared.members.Member.{Member}
use Rattle.plan_types.specs.{Orders.joined_all, Orders.places_of_part, PlannedTypes.PlansType, PlannedTypes.number_in}
use Rattle.plan_package.specs.{PlanWhole.PlansWhole, PlanWhole.owners_in, PlanWhole.places_in, PlanWhole.shown_first, WholeInterfaces.PlansPlace}
use Rattle.plan_package.specs.{Views.views_of_members, Views.views_of_part, WholeInterfaces.ListsNumber, WholeInterfaces.PlansInterface}
use Rattle.plan_laws.specs.{FirstViews.IsRisingView, FirstViews.ViewsAreOrdered, ViewedInterfaces.views_read, Owners.owners_of, ShownNames.IsInput}
use Rattle.plan_laws.proofs.{ShownAlike.first_split, ShownAlike.number_before, ShownNames.instance_tree, ShownNames.seen_obeys, ShownNames.trees_of_all}
use Rattle.plan_laws.proofs.{ViewsAgree.first_told, ViewsAgree.views_told, ViewsAgree.first_is, Owned.first_there, Owned.kept_number, Owned.planned_name}
use Rattle.plan_laws.proofs.Sources.{if_given, member_view_in, all_joined, number_given, owner_numbered, place_number}
use Rattle.base_lemmas.proofs.Elements.{all_at, contains-map, get-contains, map_from as from_map, zip-kept as zip-weaker, zip_at_right as zip_get}
use Rattle.base_lemmas.proofs.Lists.{append_of_map, get_back as unmapped_get, mapped_get, middle_get, slice_front as front_get, within_there as slice_there}
use Rattle.plan_package.proofs.{PlacedLaws.part_placed as places_of_views, ReadPackageLaws.number_at as number_there}
use Rattle.plan_type_laws.specs.MembersStand.{all_instances}
use Rattle.comp_meaning.specs.Reads as reads
use Rattle.comp_meaning.specs.Rules as rules

-- what stands beside the same elements
zip_beside : {A B C : Type 0} (P : A → B → Type 0) (Q : A → C → Type 0) (R : B → C → Type 0) (xs : List A) → ((x : A) → Contains xs x → (b : B) (c : C) → P x b → Q x c → R b c)
    → (bs : List B) (cs : List C) → AllZip P xs bs → AllZip Q xs cs → AllZip R bs cs
zip_beside P Q R [] each [] [] p q = tt
zip_beside P Q R [] each (b ∷ bs) cs p q = absurd p
zip_beside P Q R (x ∷ xs) each [] cs p q = absurd p
zip_beside P Q R (x ∷ xs) each (b ∷ bs) (c ∷ cs) p q = (
  each x (0, omega arith, refl) b c p.0 q.0,
  zip_beside P Q R xs (λ y at. each y (suc at.0, (let low = at.1 in omega (arith, low)), at.2)) bs cs p.1 q.1,
)
zip_beside _ _ _ _ each _ _ p q = absurd q

pub zip_within : {A B : Type 0} (P Q : A → B → Type 0) (xs : List A) → ((x : A) → Contains xs x → (b : B) → P x b → Q x b) → (bs : List B) → AllZip P xs bs → AllZip Q xs bs
zip_within P Q [] each [] p = tt
zip_within P Q (x ∷ xs) each (b ∷ bs) p = (each x (0, omega arith, refl) b p.0, zip_within P Q xs (λ y at. each y (suc at.0, (let low = at.1 in omega (arith, low)), at.2)) bs p.1)
zip_within _ _ _ each _ p = absurd p

module _ (t : Tables) (h : Homes) (ms : List Member) (members : List reads.Member) (input : IsInput t h ms members) (alone : (q : ℕ) → path_at t q ≡ None → home_at h q ≡ None)
    (agreed : agree_in_numbers (sights_of_members t (numbered_members ms)) ≡ true) (ordered : ViewsAreOrdered t ms)
    (n : ℕ) (p : Plan) (planned : PlansWhole t h.packages (home_at h) n ms p) (b : Beside) (beside_owners : b.owners ≡ owners_of ms) where
  abbrev views : List NumberedSight
  views = views_of_members (numbered_members ms)

  owner_at : (m q : ℕ) → slice_get (places_in ms) m ≡ Some q → b.owners q ≡ as_interface m
  owner_at m q e = ap (λ (o : ℕ → TypeOwner). o q) beside_owners ∙ owner_numbered ms q m (place_number ms m q e)

  places_of_all : (xs : List NumberedMember)
      → map (λ (s : NumberedSight). s.place) (flat_map (λ (m : NumberedMember). views_of_part m.part) xs) ≡ flat_map (λ (m : NumberedMember). places_of_part m.part) xs
  places_of_all [] = refl
  places_of_all (m ∷ xs) = search (std_rules, append_of_map, places_of_views, places_of_all xs)

  -- ---- one interface

  module _ (m q : ℕ) (at : slice_get (places_in ms) m ≡ Some q) (i : PlannedInterface) (there : interface_in p m ≡ Some i) (first : NumberedSight) (is_first : first_at q views ≡ Some first)
      (plans : PlansInterface t planned.kept n (home_at h q) first.view (functions_seen q views) i) where
    among : Contains views first
    among = (first_is q views first is_first).0

    place : first.place ≡ q
    place = (first_is q views first is_first).1

    -- the new number of a type
    type_listed : (x : NumberedType) → Contains first.view.types x → (e : Text × ℕ) → ListsNumber planned.kept x e → (is : IsShownIn t first.place x) → (slice_get planned.kept e.1 ≡ Some is.number)
        × (e.1 < length p.types)
    type_listed x c e lists is =
        let kept_there = kept_number planned.kept (slot_part x.slot) is.number e.1 (slot_number t x.slot is.number is.slot) lists.1 in
        (kept_there, omega (arith, zip_length (PlansType t planned.kept (shown_first ms) (owners_in ms)) planned.kept p.types planned.types, slice_get_within planned.kept e.1 is.number kept_there))

    shown_is : (x : NumberedType) → Contains first.view.types x → IsShownIn t first.place x
    shown_is x c = all_at (IsShownIn t first.place) first.view.types (member_view_in t ms input.numbers first among).types x c

    kept_as : (x : NumberedType) → Contains first.view.types x → (k : ℕ) (e : Text × ℕ) → IsNumberOf t q x k → ListsNumber planned.kept x e → IsKeptAs planned.kept p k e
    kept_as x c k e number lists =
        let is = shown_is x c in
        let listed = type_listed x c e lists is in
        (listed.0 ∙ ap Some (input.tables.shapes.apart is.number k (named_shape q x.name) (is.name.named ∙ ap (λ r. Some (named_shape r x.name)) place) number), listed.1)

    becomes : (x : NumberedType) → Contains first.view.types x → (e : Text × ℕ) → ListsNumber planned.kept x e → TypeListed t planned.kept p x e
    becomes x c e lists =
        let is = shown_is x c in
        let listed = type_listed x c e lists is in
        let type_ = slice_there p.types e.1 listed.1 in
        let name = planned_name t h ms members input n p planned e.1 is.number type_.0 first.place x.name type_.1 listed.0 is.name.named in
        let told = first_told t h ms members input agreed ordered q first is_first x c is name.showing name.first in (
          lists.0,
          record { type_ = type_.0; stands = type_.1; kind = subst (λ d. DeclaresKind t planned.kept p d type_.0.kind) told.0 name.kind; same_id = name.same_id ∙ told.1 },
        )

    rising : IsRisingView t q first.view
    rising = ordered.rising q first is_first

    label : passes is_label i.name ≡ true
    label = by (path_at t q) refl
      where
        by : (o : Option Text) → path_at t q ≡ o → passes is_label i.name ≡ true
        by None e = ap (passes is_label) (plans.name ∙ ap (option_map (λ (x : ℕ × Text). x.1)) (alone q e))
        by (Some path) e =
            let home = input.homes.homes q path e in
            ap (passes is_label) (plans.name ∙ ap (option_map (λ (x : ℕ × Text). x.1)) home.home) ∙ (read_path_is_spelled path home.identity home.name home.reads).label

    obeys : rules.is_interface (place_at t q) (view_of t (record { types = first.view.types; functions = functions_seen q views })) ≡ true
    obeys = seen_obeys t q first.view.types first.view.functions (subst (λ r. rules.is_interface (place_at t r) (view_of t first.view) ≡ true) place (ordered.obey first among)) views
        (λ s c e. views_told t h ms members input agreed ordered first s among c (place ∙ sym e)) ordered.obey

    read : IsReadInterface t planned.kept p b m i
    read = record {
      place = q;
      view = record { types = first.view.types; functions = functions_seen q views };
      numbers = rising.numbers;
      owned = owner_at m q at;
      label = label;
      obeys = obeys;
      shapes = rising.shapes;
      kept_there = zip_beside (IsNumberOf t q) (ListsNumber planned.kept) (IsKeptAs planned.kept p) first.view.types kept_as rising.numbers i.types rising.shapes plans.types;
      names = zip-weaker (ListsNumber planned.kept) HasName (λ x e l. l.0) first.view.types i.types plans.types;
      rise = rising.rise;
      functions = zip-weaker (IsPlannedFunction t planned.kept plans.find) IsNamed (λ f e l. (l.under, l.named)) (functions_seen q views) i.functions plans.functions;
    }

    -- ---- what it uses

    declares_parts : DeclaresParts t first.view
    declares_parts = recursion_weaker (IsShownIn t first.place) (λ (x : NumberedType). AllOf (IsPart t) x.declared)
        (λ x is. if_given (IsMetFrom t first.place) (IsPart t) (λ k met. met.range) x.declared is.name.met) first.view.types (member_view_in t ms input.numbers first among).types

    module _ (r : ℕ) (used : Contains (used_by_view t first.view) r) where
      r_path : HasPath t r
      r_path = all_at (HasPath t) (used_by_view t first.view) (view_paths t input.tables first.view) r used

      path_used : Contains (rules.used_by_view (view_of t first.view)) (path_text t r)
      path_used = subst (λ ps. Contains ps (path_text t r)) (sym (view_uses t input.tables first.view declares_parts)) (contains-map (path_text t) (used_by_view t first.view) r used)

      same_path : (o : Option Text) → o ≡ Some (path_text t r) → o ≡ Some r_path.0
      same_path o e = e ∙ ap Some (path_is t r r_path)

      -- a place before the first view has a smaller number
      used_before : (front back : List NumberedSight) → views ≡ front ++ first ∷ back → ((u : NumberedSight) → Contains front u → u.place ≡ q → ⊥) → (u : NumberedSight) → Contains front u
          → u.place ≡ r → IsUsedPlace b.owners m q r
      used_before front back split new u c same =
          let r_there = subst (Contains (map (λ (s : NumberedSight). s.place) front)) same (contains-map _ _ u c) in
          let all = ap (joined_all []) (sym (places_of_all (numbered_members ms))
          ∙ (ap (map (λ (s : NumberedSight). s.place)) split ∙ (append_of_map _ _ _ ∙ ap (λ x. map (λ (s : NumberedSight). s.place) front ++ x ∷ map (λ (s : NumberedSight). s.place) back) place))) in
          let given = number_given (places_in ms) r (subst (λ ps. Contains ps r) (sym all)
          (all_joined [] (map (λ (s : NumberedSight). s.place) front ++ q ∷ map (λ (s : NumberedSight). s.place) back) r (inr (Contains-append_left _ _ r r_there)))) in
          smaller given.0 (owner_at given.0 r (number_there (places_in ms) r given.0 given.1))
          (number_before (map (λ (s : NumberedSight). s.place) front) (map (λ (s : NumberedSight). s.place) back) q
          (λ d. (let s = from_map (λ (x : NumberedSight). x.place) front q d in new s.0 s.1 s.2)) r given.0 m r_there (subst (λ ps. number_in ps r ≡ Some given.0) all given.1)
          (subst (λ ps. number_in ps q ≡ Some m) all (place_number ms m q at)))

      uses : IsUsedPlace b.owners m q r
      uses =
          let split = first_split q views first is_first in
          let front = split.split.front in
          let trees = trees_of_all t input.tables h input.homes ms members input.shown input.numbers in
          let here : slice_get views (length front) ≡ Some first = ap (λ xs. slice_get xs (length front)) split.split.is ∙ middle_get front first split.split.back in
          let stands = input.stand.views (length front) (instance_tree t input.tables first)
          (subst (λ xs. slice_get xs (length front) ≡ Some (instance_tree t input.tables first)) (sym trees) (mapped_get (instance_tree t input.tables) views (length front) first here)) in
          by front split.split.back split.split.is split.none (all_instances members) trees
          (use_stands_before (all_instances members) (length front) (instance_tree t input.tables first) stands (path_text t r) path_used)
        where
          by : (front back : List NumberedSight) → views ≡ front ++ first ∷ back → ((u : NumberedSight) → Contains front u → u.place ≡ q → ⊥)
              → (instances : List Instance) → instances ≡ map (instance_tree t input.tables) views → (path_at t first.place ≡ Some (path_text t r))
              ⊎ IsInstanceBefore instances (length front) (path_text t r) → IsUsedPlace b.owners m q r
          by front back split new instances trees (inl own) = itself (input.tables.paths r q r_path.0 r_path.1 (ap (path_at t) (sym place) ∙ same_path (path_at t first.place) own))
          by front back split new instances trees (inr earlier) =
              let from = unmapped_get (instance_tree t input.tables) views earlier.number earlier.shown (subst (λ xs. slice_get xs earlier.number ≡ Some earlier.shown) trees earlier.at) in
              let u = from.0 in
              used_before front back split new u (get-contains front earlier.number u
              (sym (front_get front (first ∷ back) earlier.number earlier.below) ∙ (ap (λ xs. slice_get xs earlier.number) (sym split) ∙ from.1)))
              (input.tables.paths u.place r r_path.0 (ap (λ (x : Instance). x.interface) from.2 ∙ same_path earlier.shown.interface earlier.of_path) r_path.1)

    pub viewed : IsViewedInterface t planned.kept p b (views_read ms) m i
    unfolding read
    viewed = record {
      read = read;
      viewed = ap (λ o. record { types = option_map_or (λ (s : NumberedSight). s.view.types) o []; functions = functions_seen q views }) is_first;
      types = zip_within (ListsNumber planned.kept) (TypeListed t planned.kept p) first.view.types becomes i.types plans.types;
      uses = uses;
    }

  pub planned_interfaces_are_viewed : InterfacesAreViewed t planned.kept p b (views_read ms)
  planned_interfaces_are_viewed m i there =
      let found = zip_get (PlansPlace t planned.kept n (home_at h) views) (places_in ms) p.interfaces planned.interfaces m i there in
      let first = first_there t h ms members input n p planned m found.0 found.1 in
      viewed m found.0 found.1 i there first.0 first.1 (found.2 first.0 first.1)
