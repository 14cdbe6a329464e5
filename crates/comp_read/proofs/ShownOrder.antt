-- The order in which views are shown, in numbers and in paths.
use Rattle.std.proofs.Common.{rules as std_rules, ◌≡◌, refl, ap, subst, ◌∙◌, ℕ, suc, ◌+◌, ◌<◌, arith, Bool, true, false, ltb, cond, ◌==◌, List, [], ◌∷◌, ◌++◌, map, Option, Some, None, slice_get, sym, zero, not, ◌&&◌, ◌||◌, unwrap_or, option_map, is_none}
use Rattle.std.proofs.lemmas.{Bool.lt-ltb, Bool.and_from as both, Bool.eqb-true, Bool.not-true, Option.slice_get-map, Option.same_Some as same-some}
use Rattle.std.proofs.lemmas.{List.Folds.find-append, Map.Keys.any_passes_from_place as get_any}
use Rattle.std.specs.List.{AllZip, filter, list_all, AllByRecursion, flat_map, Contains, find, list_any}
use Rattle.std.specs.Option.{option_map_or, option_or}
use Rattle.wit_model.specs.{Names.PackageIdentity, Names.is_label, Names.path_in, Text.Text, Text.text_of, Text.text_eq, Lookup.package_at, Uses.has, Uses.once}
use Rattle.plan_meaning.specs.{Plan.PlannedPackage, Plan.Plan, Built.IsBuilt, Built.planned_package, GatheredPlan.functions_seen}
use Rattle.plan_meaning.specs.{NumberedRules.Fact, NumberedRules.is_interface, FollowedNumbers.AreMembersIn, FollowedNumbers.IsPartIn, FollowedNumbers.IsViewIn}
use Rattle.plan_meaning.specs.NumberedViews.{NumberedSight, Tables, path_at, agree_in_numbers, agrees_with_first, same_types, same_whole, AreTables, NumberedFunction, NumberedView, path_text, shown_function, sight_of, view_of}
use Rattle.plan_meaning.specs.NumberedMembers.{Homes, NumberedMember, home_at, is_of_package, are_interfaces, are_package, is_interface_of, is_named_in, is_one_world, sights_of_members, stands_at_top, world, HomesStand, IsMember, ShowsPart, NumberedPart, interface}
use Rattle.plan_meaning.specs.NumberedWorlds.{NumberedInstance, sights_of_instance, NumberedScope, sights_of_scope, HasPath, are_once}
use Rattle.plan_package.specs.{WholeInterfaces.Home, PlanWhole.places_in, PlanWhole.PlansWhole}
use Rattle.plan_package.specs.WholePackages.{ListsPlace, PlansPackage, another, entries_from, entry_of, the_main, interfaces_in}
use Rattle.plan_laws.proofs.{Sources.IsOnce, Sources.all_once, Sources.none_twice, Owned.found_there}
use Rattle.read_exports.specs.declared.members.{Member.Member, Part.Part}
use Rattle.comp_read.specs.Order.{rise, ListByNumber, OthersListByNumber, OthersRise, PackagesRise, numbers_in, is_under, once_by_path, shown_under}
use Rattle.comp_read.specs.{OwnMembers.StandAsShown, OwnMembers.places_of, ReadInput.AreHomesOf}
use Rattle.plan_package.proofs.ReadPackageLaws.{number_at as number_there}
use Rattle.wit_model.specs.declared.model.{InterfaceId.InterfaceId, Package.Package, Resolve.Resolve}
use Rattle.wit_model.proofs.{Chains.has_once, NameLaws.read_path_is_spelled}
use Rattle.wit_model.proofs.{Elements.contains-flat, Elements.contains-get, Elements.contains-has, TextLemmas.text_alike as same_text, TextLemmas.text_same}
use Rattle.plan_types.specs.Orders.{joined, joined_all, places_of_part}
use Rattle.plan_types.proofs.OrderLaws.{joined_both}
use Rattle.plan_laws.specs.OneWorld.{AreOwnInterfaces, IsOwnInterface, place_of_part}
use Rattle.read_homes.specs.Homes.{IsHomeOf}
use Rattle.read_exports.specs.Members.{numbered_members, numbered_part}
use Rattle.read_rules.specs.Scopes.{numbered_scope}
use Rattle.read_rules.specs.declared.scopes.Scope.{Scope}
use Rattle.comp_read.proofs.{InterfaceViews.once_more, OwnViews.own_at, OwnViews.scope_sight, OwnViews.sight_among}
use Rattle.base_lemmas.proofs.{Lists.map_of_map, Lists.append_of_map, Numbers.same-number, Bools.left_of as first_true, Bools.right_of as second_true}
use Rattle.base_lemmas.proofs.Elements.{all-contained, all_pass, contains-later, contains-one, get-contains, map_from as from_map}
use Rattle.plan_parts.proofs.{FirstAgreement.agree_by_first, SightLaws.all_alike}
use Rattle.comp_meaning.specs.Rules.{distinct}
use Rattle.plan_meaning.proofs.{Lists.any_get, Lists.no_true, NumberedWorlds.path_is, NumberedWorlds.path_number}
use Rattle.plan_type_laws.specs.ShownMarks.{has_no_path}
use Rattle.read_exports.specs.declared.members.Part.TheVariants as parts
use Rattle.comp_meaning.specs.Reads as reads

-- ---- The labels of a world by itself and of the interfaces of its package that it shows differ.

-- ---- Numbers that rise, and what a plan lists in its packages.

-- ---- entries by their numbers

abbrev pub numbers : List (Text × ℕ) → List ℕ
numbers es = map (λ (e : Text × ℕ). e.1) es

module _ (homes : ℕ → Option Home) (q : ℕ) where
  -- what holds of the numbers of the others, and with that of the first, holds of all
  one_more : (P : List ℕ → Type 0) (n p : ℕ) (rest : List (Text × ℕ)) → P (numbers rest) → P (n ∷ numbers rest) → P (numbers (entry_of q n (homes p) ++ rest))
  one_more P n p rest others all = search std_rules

  above : (m n : ℕ) → m < n → (ps : List ℕ) → list_all (ltb m) (numbers (entries_from homes q n ps)) ≡ true
  above m n less [] = refl
  above m n less (p ∷ ps) = search (std_rules, one_more, both, lt-ltb, above m (n + 1) (omega (arith, less)) ps)

  pub entries_rise : (n : ℕ) (ps : List ℕ) → rise (numbers (entries_from homes q n ps)) ≡ true
  entries_rise n [] = refl
  entries_rise n (p ∷ ps) = search (std_rules, one_more, both, above, entries_rise (n + 1) ps)

-- a package that isn't the main one
pub other_rises : (packages : List PackageIdentity) (homes : ℕ → Option Home) (main : ℕ) (places : List ℕ) (ms : List Member) (n : ℕ) (k : PlannedPackage) → (n ≡ main → ⊥)
    → PlansPackage packages main places ms (entries_from homes n 0 places) n k → rise (numbers k.interfaces) ≡ true
other_rises packages homes main places ms n k other x = search (std_rules, entries_rise)

-- ---- those that pass a test, by where they stand

module _ (P : ℕ → Bool) where
  -- where they stand, if the first has this number
  indices : ℕ → List ℕ → List ℕ
  indices n [] = []
  indices n (p ∷ ps) = cond (P p) (n ∷ indices (n + 1) ps) (indices (n + 1) ps)

  chosen_too : (Q : List ℕ → Type 0) (n p : ℕ) (ps : List ℕ) → Q (indices (n + 1) ps) → Q (n ∷ indices (n + 1) ps) → Q (indices n (p ∷ ps))
  unfolding indices
  chosen_too Q n p ps others all = search std_rules

  all_above : (m n : ℕ) → m < n → (ps : List ℕ) → list_all (ltb m) (indices n ps) ≡ true
  unfolding indices
  all_above m n less [] = refl
  all_above m n less (p ∷ ps) = search (std_rules, chosen_too, both, indices, lt-ltb, all_above m (n + 1) (omega (arith, less)) ps)

  indices_rise : (n : ℕ) (ps : List ℕ) → rise (indices n ps) ≡ true
  unfolding indices
  indices_rise n [] = refl
  indices_rise n (p ∷ ps) = search (std_rules, chosen_too, both, indices, all_above, indices_rise (n + 1) ps)

  abbrev IsThere : ℕ → List ℕ → ℕ → ℕ → Type 0
  IsThere n ps q e = (k : ℕ) × (e ≡ n + k) × (slice_get ps k ≡ Some q)

  farther : (n p : ℕ) (ps qs es : List ℕ) → AllZip (IsThere (n + 1) ps) qs es → AllZip (IsThere n (p ∷ ps)) qs es
  farther n p ps [] [] z = tt
  farther n p ps (q ∷ qs) (e ∷ es) z = ((suc z.0.0, (let number = z.0.1 in omega (arith, number)), z.0.2), farther n p ps qs es z.1)
  farther n p ps _ _ z = absurd z

  filtered : (n : ℕ) (ps : List ℕ) → AllZip (IsThere n ps) (filter P ps) (indices n ps)
  unfolding indices
  filtered n [] = tt
  filtered n (p ∷ ps) = search (std_rules, farther, indices, filtered (n + 1) ps)

-- where each is found once, its number is where it stands
same_numbers : (places : List ℕ) → IsOnce places → (qs es fs : List ℕ) → AllZip (λ q e. slice_get places e ≡ Some q) qs es
    → AllZip (λ q f. (k : ℕ) × (f ≡ 0 + k) × (slice_get places k ≡ Some q)) qs fs → es ≡ fs
same_numbers places once [] [] [] a b = refl
same_numbers places once (q ∷ qs) (e ∷ es) (f ∷ fs) a b = search (std_rules, same_numbers places once qs es fs a.1 b.1)
same_numbers places once [] [] (f ∷ fs) a b = absurd b
same_numbers places once (q ∷ qs) (e ∷ es) [] a b = absurd b
same_numbers places once _ _ fs a b = absurd a

numbers_there : (places : List ℕ) (xs es : List (Text × ℕ)) → AllZip (ListsPlace places) xs es → AllZip (λ q e. slice_get places e ≡ Some q) (numbers xs) (numbers es)
numbers_there places [] [] z = tt
numbers_there places (x ∷ xs) (e ∷ es) z = (number_there places x.1 e.1 z.0.1, numbers_there places xs es z.1)
numbers_there places _ _ z = absurd z

-- places that pass a test are listed by their numbers, which rise
pub listed_rise : (P : ℕ → Bool) (places : List ℕ) → IsOnce places → (xs es : List (Text × ℕ)) → numbers xs ≡ filter P places → AllZip (ListsPlace places) xs es → rise (numbers es) ≡ true
listed_rise P places once xs es are z =
    let zipped = subst (λ (qs : List ℕ). AllZip (λ q e. slice_get places e ≡ Some q) qs (numbers es)) are (numbers_there places xs es z) in
    ap rise (same_numbers places once (filter P places) (numbers es) (indices P 0 places) zipped (filtered P 0 places)) ∙ indices_rise P 0 places

-- ---- The order of the interfaces of a world's package, in its plan and in what is built of it.

-- ---- numbers that pass a test, each once

module _ (P : ℕ → Bool) where
  swap : (N : ℕ → Bool) (zs : List ℕ) → filter P (filter N zs) ≡ filter N (filter P zs)
  swap N [] = refl
  swap N (z ∷ zs) = search (std_rules, swap N zs)

  passed_over : (x : ℕ) → P x ≡ false → (zs : List ℕ) → filter P (filter (λ m. not (m == x)) zs) ≡ filter P zs
  passed_over x fails [] = refl
  passed_over x fails (z ∷ zs) = search (std_rules, eqb-true, passed_over x fails zs)

  pub filter_once : (xs : List ℕ) → filter P (once xs) ≡ once (filter P xs)
  filter_once [] = refl
  filter_once (x ∷ xs) = search (std_rules, swap, passed_over, filter_once xs)

  -- they are among those
  passing_within : (met zs : List ℕ) → ((z : ℕ) → has zs z ≡ true → has met z ≡ true) → list_all (has met) (filter P zs) ≡ true
  passing_within met [] within = refl
  passing_within met (z ∷ zs) within = by (P z) (passing_within met zs (λ y there. within y (later y (z == y) there)))
    where
      later : (y : ℕ) (b : Bool) → has zs y ≡ true → (b || has zs y) ≡ true
      later y true there = refl
      later y false there = there

      first : has (z ∷ zs) z ≡ true
      first = ap (λ b. b || has zs z) (same-number z)

      by : (b : Bool) → list_all (has met) (filter P zs) ≡ true → list_all (has met) (cond b (z ∷ filter P zs) (filter P zs)) ≡ true
      by true rest = both (has met z) (list_all (has met) (filter P zs)) (within z first) rest
      by false rest = rest

-- ---- places as they are met

joined_more : (ys : List ℕ) (x : ℕ) → joined (once ys) x ≡ once (ys ++ x ∷ [])
joined_more ys x = ap (λ b. cond b (once ys) (once ys ++ x ∷ [])) (has_once x ys) ∙ sym (once_more ys x)

pub joined_behind : (ys xs : List ℕ) → joined_all (once ys) xs ≡ once (ys ++ xs)
joined_behind ys [] = search std_rules
joined_behind ys (x ∷ xs) = ap (λ met. joined_all met xs) (joined_more ys x) ∙ (joined_behind (ys ++ x ∷ []) xs ∙ ap once (moved ys))
  where
    moved : (zs : List ℕ) → (zs ++ x ∷ []) ++ xs ≡ zs ++ x ∷ xs
    moved [] = refl
    moved (z ∷ zs) = ap (λ ws. z ∷ ws) (moved zs)

nothing_new : (met ys : List ℕ) → list_all (has met) ys ≡ true → joined_all met ys ≡ met
nothing_new met [] all = refl
nothing_new met (y ∷ ys) all = by (has met y) all (nothing_new met ys)
  where
    by : (b : Bool) → (b && list_all (has met) ys) ≡ true → (list_all (has met) ys ≡ true → joined_all met ys ≡ met) → joined_all (cond b met (met ++ y ∷ [])) ys ≡ met
    by true rest later = later rest
    by false rest later = let wrong : false ≡ true = rest in absurd cc

-- ---- the interfaces of a world's package

numbers_of_places : (ms : List Member) → numbers (interfaces_in ms) ≡ places_of (numbered_members ms)
numbers_of_places [] = refl
numbers_of_places (m ∷ ms) = search (std_rules, numbers_of_places ms)

pub homeless : (packages : List PackageIdentity) (paths : List (Option Text)) (homes : List (Option Home)) → AllZip (IsHomeOf packages) paths homes → (p : ℕ)
    → unwrap_or (slice_get paths p) None ≡ None → unwrap_or (slice_get homes p) None ≡ None
homeless packages [] [] z p e = search std_rules
homeless packages (a ∷ paths) (b ∷ homes) z zero e = subst (λ (o : Option Text). IsHomeOf packages o b) e z.0
homeless packages (a ∷ paths) (b ∷ homes) z (suc p) e = homeless packages paths homes z.1 p e
homeless packages _ _ z p e = absurd z

module _ (t : Tables) (h : Homes) (are_homes : AreHomesOf t h) (n : ℕ) where
  outside : (p : ℕ) → path_at t p ≡ None → is_of_package h n p ≡ false
  outside p e = ap (λ (o : Option Home). option_map_or (λ x. x.0 == n) o false) (homeless are_homes.0 t.paths h.homes are_homes.1 p e)

  sights_filtered : (is : List NumberedInstance)
      → filter (is_of_package h n) (map (λ (s : NumberedSight). s.place) (flat_map (sights_of_instance t) is)) ≡ filter (is_of_package h n) (map (λ (i : NumberedInstance). i.place) is)
  sights_filtered [] = refl
  sights_filtered (i ∷ is) = search (std_rules, outside, sights_filtered is)

  module _ (m : Member) (w : Scope) (is : m.part ≡ parts.World w) (own : List Member) (are : AreOwnInterfaces t h n (numbered_scope w) (numbered_members own)) (order : StandAsShown t h n (numbered_scope w) (numbered_members own)) where
    abbrev met : List ℕ
    met = once (map (λ (i : NumberedInstance). i.place) (numbered_scope w).instances)

    own_are : places_of (numbered_members own) ≡ filter (is_of_package h n) met
    own_are = order ∙ (ap once (sights_filtered (numbered_scope w).instances) ∙ sym (filter_once (is_of_package h n) (map (λ (i : NumberedInstance). i.place) (numbered_scope w).instances)))

    -- each is one of no imports
    places_alone : (ks : List NumberedMember) → AllByRecursion (IsOwnInterface t h n (numbered_scope w)) ks → flat_map (λ (k : NumberedMember). places_of_part k.part) ks ≡ places_of ks
    places_alone [] all = refl
    places_alone (k ∷ ks) all = search (std_rules, places_alone ks all.1)

    within : list_all (has met) (places_of (numbered_members own)) ≡ true
    within = ap (list_all (has met)) own_are ∙ passing_within (is_of_package h n) met met (λ z there. there)

    pub places_are : places_in (m ∷ own) ≡ met
    places_are = ap (λ (a : Part). joined_all [] (places_of_part (numbered_part a) ++ flat_map (λ (k : NumberedMember). places_of_part k.part) (numbered_members own))) is
        ∙ (ap (λ ps. joined_all [] (map (λ (i : NumberedInstance). i.place) (numbered_scope w).instances ++ ps)) (places_alone (numbered_members own) are.each)
        ∙ (joined_both [] (map (λ (i : NumberedInstance). i.place) (numbered_scope w).instances) (places_of (numbered_members own))
        ∙ (ap (λ ps. joined_all ps (places_of (numbered_members own))) (joined_behind [] (map (λ (i : NumberedInstance). i.place) (numbered_scope w).instances))
        ∙ nothing_new met (places_of (numbered_members own)) within)))

    own_numbers : numbers (interfaces_in (m ∷ own)) ≡ filter (is_of_package h n) (places_in (m ∷ own))
    own_numbers = search (std_rules, numbers_of_places, own_are, places_are)

    pub world_packages_rise : (packages : List PackageIdentity) (p : Plan) → PlansWhole t packages (home_at h) n (m ∷ own) p → PackagesRise p
    world_packages_rise packages p planned k q at = by (planned.packages.each k q at)
      where
        met_once : IsOnce (places_in (m ∷ own))
        met_once = all_once [] (flat_map (λ (x : NumberedMember). places_of_part x.part) (numbered_members (m ∷ own))) none_twice

        by : PlansPackage packages n (places_in (m ∷ own)) (m ∷ own) (entries_from (home_at h) k 0 (places_in (m ∷ own))) k q → rise (numbers q.interfaces) ≡ true
        by (the_main identity same there main) = listed_rise (is_of_package h n) (places_in (m ∷ own)) met_once (interfaces_in (m ∷ own)) q.interfaces own_numbers main.interfaces
        by (another identity differ there foreign) = other_rises packages (home_at h) n (places_in (m ∷ own)) (m ∷ own) k q differ (another identity differ there foreign)

-- ---- what is built

same_list : (q : Package) → numbers (planned_package q).interfaces ≡ numbers_in q
same_list q = map_of_map (λ (e : Text × ℕ). e.1) (λ e. (text_of e.0, e.1.0)) q.interfaces.entries ∙ sym (map_of_map (λ (id : InterfaceId). id.0) (λ e. e.1) q.interfaces.entries)

module _ (p : Plan) (r : Resolve) (built : IsBuilt p r) where
  built_at : (k : ℕ) (q : Package) → package_at r k ≡ Some q → slice_get p.packages k ≡ Some (planned_package q)
  built_at k q at = ap (λ ks. slice_get ks k) (sym built.packages) ∙ (slice_get-map planned_package r.packages.items k ∙ ap (option_map planned_package) at)

  pub built_rise : PackagesRise p → ListByNumber r
  built_rise rises k q at = ap rise (sym (same_list q)) ∙ rises k (planned_package q) (built_at k q at)

  pub others_rise : (n : ℕ) → OthersRise p n → OthersListByNumber r n
  others_rise n rises k q other at = ap rise (sym (same_list q)) ∙ rises k (planned_package q) other (built_at k q at)

-- the packages beside the main one
pub plan_others_rise : (t : Tables) (packages : List PackageIdentity) (homes : ℕ → Option Home) (n : ℕ) (ms : List Member) (p : Plan) → PlansWhole t packages homes n ms p → OthersRise p n
plan_others_rise t packages homes n ms p planned k q other at = other_rises packages homes n (places_in ms) ms k q other (planned.packages.each k q at)

-- ---- A world by itself and the interfaces of its package that it shows obey the rules on a package.

-- what is found in the front is found in the whole
found_first : {A : Type 0} (p : A → Bool) (xs ys : List A) (x : A) → Contains xs x → p x ≡ true → find p (xs ++ ys) ≡ find p xs
found_first {A = A} p xs ys x c h =
    let there = found_there p xs x c h in
    find-append p xs ys ∙ (ap (λ (o : Option A). option_or o (find p ys)) there.1 ∙ sym there.1)

module _ (t : Tables) (h : Homes) (known : ℕ → Fact) (n : ℕ) (label : Text) (w : NumberedScope) (obeys : is_one_world t h known n label w ≡ true) (ms : List NumberedMember) (are : AreOwnInterfaces t h n w ms) where
  abbrev m : NumberedMember
  m = record { label = label; package_ = n; part = world w }

  abbrev seen : List NumberedSight
  seen = sights_of_scope t w

  abbrev all_seen : List NumberedSight
  all_seen = sights_of_members t (m ∷ ms)

  abbrev is_taken : Bool
  is_taken = list_any (λ (s : NumberedSight). is_named_in h n label s.place) seen

  -- ---- what the world obeys

  pub agree : agree_in_numbers seen ≡ true
  agree = first_true (agree_in_numbers seen) (are_interfaces t known seen && not is_taken) obeys

  pub interfaces : are_interfaces t known seen ≡ true
  interfaces = first_true (are_interfaces t known seen) (not is_taken) (second_true (agree_in_numbers seen) (are_interfaces t known seen && not is_taken) obeys)

  pub not_taken : not is_taken ≡ true
  not_taken = second_true (are_interfaces t known seen) (not is_taken) (second_true (agree_in_numbers seen) (are_interfaces t known seen && not is_taken) obeys)

  -- ---- all views

  all_interfaces : are_interfaces t known all_seen ≡ true
  all_interfaces = all_pass (λ (s : NumberedSight). is_interface t known s.place s.view) all_seen (λ s c. all-contained _ _ s interfaces (sight_among t h n w ms are label s c))

  agrees : (s : NumberedSight) → Contains seen s → agrees_with_first all_seen s ≡ true
  agrees s c =
      let more = sights_of_members t ms in
      (λ i. option_map_or (λ f. same_types f s) ((found_first (λ (x : NumberedSight). s.place == x.place) seen more s c (same-number s.place)) i) true
      && (not s.whole || option_map_or (λ f. same_whole f s) ((found_first (λ (x : NumberedSight). s.place == x.place && x.whole) seen more s c
      (both (s.place == s.place) s.whole (same-number s.place) (ap (λ (x : NumberedSight). x.whole) (sym (scope_sight t w s c).is)))) i) true)) ∙ all-contained (agrees_with_first seen) seen s
      (search (std_rules, all_alike, first_true, agree_by_first, both, agree, interfaces)) c

  all_agree : agree_in_numbers all_seen ≡ true
  all_agree = first_true _ _ (agree_by_first t known all_seen ∙ both _ _
      (all_alike [] all_seen ∙ all_pass (agrees_with_first all_seen) all_seen (λ s c. agrees s (sight_among t h n w ms are label s c))) all_interfaces)

  -- ---- the package

  abbrev stands : NumberedSight → Bool
  stands = stands_at_top h n (m ∷ ms)

  stand : list_all stands all_seen ≡ true
  stand = all_pass stands all_seen (λ s c. by s (sight_among t h n w ms are label s c) (is_of_package h n s.place) refl)
    where
      by : (s : NumberedSight) → Contains seen s → (b : Bool) → is_of_package h n s.place ≡ b → stands s ≡ true
      by s c true e = ap (λ (o : Bool). not o || list_any (λ (k : NumberedMember). is_interface_of s.place k.part) ms) e ∙ are.all s c e
      by s c false e = ap (λ (o : Bool). not o || list_any (λ (k : NumberedMember). is_interface_of s.place k.part) ms) e

  packages : list_all (λ (k : NumberedMember). n == k.package_) (m ∷ ms) ≡ true
  packages = both _ _ (same-number n) (all_pass (λ (k : NumberedMember). n == k.package_) ms (λ k c. ap (λ (x : ℕ). n == x) (own_at t h n w ms are k c).package_ ∙ same-number n))

  pub obeys_package : are_package t h known n (m ∷ ms) ≡ true
  obeys_package = search (std_rules, both, packages, stand, all_agree, all_interfaces)

-- ---- the labels of a world by itself and of the interfaces of its package that it shows differ

-- the text isn't one of these
not_among : (l : Text) (ls : List Text) → ((x : Text) → Contains ls x → l ≡ x → ⊥) → not (list_any (text_eq l) ls) ≡ true
not_among l ls none = search (std_rules, any_get, get-contains, text_same)

module _ (t : Tables) (tables : AreTables t) (h : Homes) (stand : HomesStand t h) (n : ℕ) where
  -- what the path of a place is read as, by the place's home
  pub record IsSpelledAs (p : ℕ) (label : Text) : Type 0 where
    pub identity : PackageIdentity
    pub there : slice_get h.packages n ≡ Some identity
    pub path : path_at t p ≡ Some (path_in identity label)
    pub label_is : is_label label ≡ true

  pub spelled_as : (p : ℕ) (label : Text) → HasPath t p → home_at h p ≡ Some (n, label) → IsSpelledAs p label
  spelled_as p label path home =
      let is = stand.homes p path.0 path.1 in
      let pair : ◌≡◌ {A = ℕ × Text} (is.package_, is.name) (n, label) = same-some (is.package_, is.name) (n, label) (sym is.home ∙ home) in
      let name : is.name ≡ label = ap (λ (x : ℕ × Text). x.1) pair in
      let spelled = read_path_is_spelled path.0 is.identity is.name is.reads in
      record {
        identity = is.identity;
        there = ap (λ (x : ℕ × Text). slice_get h.packages x.0) (sym pair) ∙ is.stands;
        path = path.1 ∙ ap Some (spelled.spelled ∙ ap (path_in is.identity) name);
        label_is = ap is_label (sym name) ∙ spelled.label;
      }

  -- a name is that of one place
  one_place : (p q : ℕ) (a b : Text) → HasPath t p → HasPath t q → home_at h p ≡ Some (n, a) → home_at h q ≡ Some (n, b) → a ≡ b → p ≡ q
  one_place p q a b at_p at_q home_p home_q same = search (std_rules, spelled_as p a at_p home_p, spelled_as q b at_q home_q)

  module _ (w : NumberedScope) (all : List NumberedMember) (are : AreOwnInterfaces t h n w all) where
    abbrev labels : List NumberedMember → List Text
    labels ms = map (λ (k : NumberedMember). k.label) ms

    abbrev places : List NumberedMember → List ℕ
    places ms = flat_map (λ (k : NumberedMember). place_of_part k.part) ms

    pub own_label : (k : NumberedMember) → Contains all k → is_label k.label ≡ true
    own_label k c = let is = own_at t h n w all are k c in (spelled_as is.place k.label is.path is.home).label_is

    own_differ : (ms : List NumberedMember) → ((k : NumberedMember) → Contains ms k → Contains all k) → are_once (places ms) ≡ true → distinct (labels ms) ≡ true
    own_differ [] within once = refl
    own_differ (k ∷ ms) within once =
        let is = own_at t h n w all are k (within k (0, omega arith, refl)) in
        let split : are_once (is.place ∷ places ms) ≡ true = ap (λ (ps : List ℕ). are_once (ps ++ places ms)) (sym (ap place_of_part is.part)) ∙ once in
        both _ _ (not_among k.label (labels ms) (λ l c same.
        let from = from_map (λ (x : NumberedMember). x.label) ms l c in
        let other = own_at t h n w all are from.0 (within from.0 (contains-later k ms from.0 from.1)) in
        no_true (sym (ap not (contains-has _ _ (contains-flat (λ (x : NumberedMember). place_of_part x.part) ms from.0 is.place from.1
        (subst (λ (ps : List ℕ). Contains ps is.place) (sym (ap place_of_part other.part))
        (subst (λ (p : ℕ). Contains (other.place ∷ []) p) (sym (one_place is.place other.place k.label from.0.label is.path other.path is.home other.home (same ∙ sym from.2)))
        (contains-one other.place)))))) ∙ first_true _ _ split))) (own_differ ms (λ x c. within x (contains-later k ms x c)) (second_true _ _ split))

    -- the label of the world is none of theirs
    world_differs : (known : ℕ → Fact) (label : Text) → is_one_world t h known n label w ≡ true → not (list_any (text_eq label) (labels all)) ≡ true
    world_differs known label obeys = not_among label (labels all) (λ l c same.
        let from = from_map (λ (x : NumberedMember). x.label) all l c in
        let is = own_at t h n w all are from.0 from.1 in
        let at = contains-get (sights_of_scope t w) (record { place = is.place; view = is.view; whole = true }) is.seen in
        no_true (sym (ap not (get_any (λ (s : NumberedSight). is_named_in h n label s.place) (sights_of_scope t w) at.0 (record { place = is.place; view = is.view; whole = true }) at.1
        (ap (λ o. option_map_or (λ (x : ℕ × Text). x.0 == n && text_eq x.1 label) o false) is.home
        ∙ both (n == n) (text_eq from.0.label label) (same-number n) (ap (λ (a : Text). text_eq a label) (from.2 ∙ sym same) ∙ same_text label)))) ∙ not_taken t h known n label w obeys all are))

    pub labels_differ : (known : ℕ → Fact) (label : Text) → is_one_world t h known n label w ≡ true → distinct (label ∷ labels all) ≡ true
    labels_differ known label obeys = both (not (list_any (text_eq label) (labels all))) (distinct (labels all)) (world_differs known label obeys) (own_differ all (λ k c. c) are.once)

-- ---- what the page is for

-- ---- paths

module _ (t : Tables) where
  pub scope_paths : (is : List NumberedInstance) → AllByRecursion (λ (s : NumberedSight). HasPath t s.place) (flat_map (sights_of_instance t) is)
  scope_paths [] = tt
  scope_paths (i ∷ is) = search (std_rules, scope_paths is)

  module _ (tables : AreTables t) where
    -- another place has the path of this one exactly where it is the same
    same_path : (q : ℕ) (path : Text) → path_at t q ≡ Some path → (m : ℕ) (o : Option Text) → path_at t m ≡ o → is_under path o ≡ (m == q)
    same_path q path e m None f = by (m == q) refl
      where
        by : (b : Bool) → (m == q) ≡ b → false ≡ b
        by false g = refl
        by true g = let wrong : None ≡ Some path = sym f ∙ (ap (path_at t) (eqb-true m q g) ∙ e) in absurd cc
    same_path q path e m (Some other) f = (λ i. text_eq (sym (path_is t q (path, e)) i) (sym (path_is t m (other, f)) i)) ∙ path_number t tables q m (path, e) (other, f)

    others : (q : ℕ) (path : Text) → path_at t q ≡ Some path → (ns : List ℕ) → map (path_at t) (filter (λ m. not (m == q)) ns) ≡ filter (λ o. not (is_under path o)) (map (path_at t) ns)
    others q path e [] = refl
    others q path e (n ∷ ns) = by (n == q) (others q path e ns) ∙ sym (ap (λ b. cond (not b) (path_at t n ∷ right) right) (same_path q path e n (path_at t n) refl))
      where
        right : List (Option Text)
        right = filter (λ o. not (is_under path o)) (map (path_at t) ns)

        left : List ℕ
        left = filter (λ m. not (m == q)) ns

        by : (b : Bool) → map (path_at t) left ≡ right → map (path_at t) (cond (not b) (n ∷ left) left) ≡ cond (not b) (path_at t n ∷ right) right
        by true rest = rest
        by false rest = ap (λ os. path_at t n ∷ os) rest

    -- a place without a path stands once
    pub pathless : (q : ℕ) → path_at t q ≡ None → (ns : List ℕ) → has ns q ≡ has (filter (has_no_path t) ns) q
    pathless q e [] = refl
    pathless q e (n ∷ ns) = by (n == q) refl (has_no_path t n) refl (pathless q e ns)
      where
        by : (b : Bool) → (n == q) ≡ b → (c : Bool) → has_no_path t n ≡ c → has ns q ≡ has (filter (has_no_path t) ns) q
            → (b || has ns q) ≡ has (cond c (n ∷ filter (has_no_path t) ns) (filter (has_no_path t) ns)) q
        by true f true g rest = sym (ap (λ d. d || has (filter (has_no_path t) ns) q) f)
        by false f true g rest = rest ∙ sym (ap (λ d. d || has (filter (has_no_path t) ns) q) f)
        by false f false g rest = rest
        by true f false g rest = let wrong : false ≡ true = sym g ∙ (ap (has_no_path t) (eqb-true n q f) ∙ ap is_none e) in absurd cc

    pub none_left : (q : ℕ) (ns : List ℕ) → has ns q ≡ false → filter (λ m. not (m == q)) ns ≡ ns
    none_left q [] e = refl
    none_left q (n ∷ ns) e = by (n == q) e (none_left q ns)
      where
        by : (b : Bool) → (b || has ns q) ≡ false → (has ns q ≡ false → filter (λ m. not (m == q)) ns ≡ ns) → cond (not b) (n ∷ filter (λ m. not (m == q)) ns) (filter (λ m. not (m == q)) ns) ≡ n ∷ ns
        by false f rest = ap (λ ms. n ∷ ms) (rest f)
        by true f rest = let wrong : true ≡ false = f in absurd cc

    -- places are told apart by their paths, where those without one stand once
    pub paths_once : (ns : List ℕ) → are_once (filter (has_no_path t) ns) ≡ true → map (path_at t) (once ns) ≡ once_by_path (map (path_at t) ns)
    paths_once [] alone = refl
    paths_once (n ∷ ns) alone = by (path_at t n) refl alone (paths_once ns)
      where
        rest_of : Bool → List ℕ
        rest_of b = cond b (n ∷ filter (has_no_path t) ns) (filter (has_no_path t) ns)

        by : (o : Option Text) → path_at t n ≡ o → are_once (rest_of (is_none o)) ≡ true → (are_once (filter (has_no_path t) ns) ≡ true → map (path_at t) (once ns) ≡ once_by_path (map (path_at t) ns))
            → path_at t n ∷ map (path_at t) (filter (λ m. not (m == n)) (once ns)) ≡ once_by_path (o ∷ map (path_at t) ns)
        by None e alone more = search (std_rules, none_left, has_once, pathless, not-true, first_true, second_true)
        by (Some path) e alone more = λ i. e i ∷ (others n path e (once ns) ∙ ap (filter (λ o. not (is_under path o))) (more alone)) i

    -- the functions of a path
    pub names_alike : (q : ℕ) → HasPath t q → (seen : List NumberedSight) → AllByRecursion (λ (s : NumberedSight). HasPath t s.place) seen
        → map (λ f. f.0) (reads.functions_of (path_text t q) (map (sight_of t) seen)) ≡ map (λ (f : Text × NumberedFunction). f.0) (functions_seen q seen)
    names_alike q path [] all = refl
    names_alike q path (s ∷ seen) all = ap (λ b. map (λ f. f.0) (cond (b && s.whole) (map (shown_function t) s.view.functions) (reads.functions_of (path_text t q) (map (sight_of t) seen))))
        (path_number t tables q s.place path all.0) ∙ by (s.place == q && s.whole) (names_alike q path seen all.1)
      where
        by : (b : Bool) → map (λ f. f.0) (reads.functions_of (path_text t q) (map (sight_of t) seen)) ≡ map (λ (f : Text × NumberedFunction). f.0) (functions_seen q seen)
            → map (λ f. f.0) (cond b (map (shown_function t) s.view.functions) (reads.functions_of (path_text t q) (map (sight_of t) seen))) ≡ map (λ (f : Text × NumberedFunction). f.0)
            (cond b s.view.functions (functions_seen q seen))
        by true more = map_of_map (λ f. f.0) (shown_function t) s.view.functions
        by false more = more

    -- ---- members

    -- the path of an interface that is exported
    exported_path : (h : Homes) → HomesStand t h → (m : NumberedMember) (x : reads.Member) → slice_get h.packages m.package_ ≡ Some x.package_ → x.label ≡ m.label → (p : ℕ) → HasPath t p
        → home_at h p ≡ Some (m.package_, m.label) → Some (path_in x.package_ x.label) ≡ path_at t p
    exported_path h stand m x package_ under p path at_home =
        let home = stand.homes p path.0 path.1 in
        let pair : ◌≡◌ {A = ℕ × Text} (home.package_, home.name) (m.package_, m.label) = same-some _ _ (sym home.home ∙ at_home) in
        sym (path.1 ∙ ap Some ((read_path_is_spelled path.0 home.identity home.name home.reads).spelled
        ∙ (λ i. path_in ((same-some _ _ (sym home.stands ∙ (ap (λ (y : ℕ × Text). slice_get h.packages y.0) pair ∙ package_))) i) ((ap (λ (y : ℕ × Text). y.1) pair ∙ sym under) i))))

    imported_paths : (imports : List (ℕ × NumberedView)) → AllByRecursion (λ (i : ℕ × NumberedView). HasPath t i.0 × IsViewIn t i.0 i.1) imports
        → map (λ (i : ℕ × NumberedView). Some (path_text t i.0)) imports ≡ map (λ (i : ℕ × NumberedView). path_at t i.0) imports
    imported_paths [] all = refl
    imported_paths (i ∷ imports) all = λ j. (ap Some (path_is t i.0 all.0.0) ∙ sym all.0.0.1) j ∷ imported_paths imports all.1 j

    pub part_paths : (h : Homes) → HomesStand t h → (m : NumberedMember) (x : reads.Member) → slice_get h.packages m.package_ ≡ Some x.package_ → x.label ≡ m.label
        → (a : NumberedPart) (b : reads.Part) → ShowsPart t h m a b → IsPartIn t a → map (path_at t) (places_of_part a) ≡ shown_under (record { label = x.label; package_ = x.package_; part = b })
    part_paths h stand m x package_ under (world w) (reads.Part.world scope) shows is = search (std_rules, map_of_map)
    part_paths h stand m x package_ under (interface p v imports) (reads.Part.interface view views) shows is =
        append_of_map _ _ _ ∙ (λ i. (map_of_map (path_at t) (λ (i : ℕ × NumberedView). i.0) imports
        ∙ (sym (imported_paths imports is.1) ∙ (sym (map_of_map (λ i. Some i.0) (λ (i : ℕ × NumberedView). (path_text t i.0, view_of t i.1)) imports) ∙ sym (ap (map (λ i. Some i.0)) shows.imported))))
        i ++ sym (exported_path h stand m x package_ under p shows.path shows.home) i ∷ [])
    part_paths h stand m x package_ under _ _ shows is = absurd shows

    -- the paths of the places of all that is exported
    pub members_paths : (h : Homes) → HomesStand t h → (ms : List NumberedMember) (members : List reads.Member) → AllZip (IsMember t h) ms members → AreMembersIn t ms
        → map (path_at t) (flat_map (λ (m : NumberedMember). places_of_part m.part) ms) ≡ flat_map shown_under members
    members_paths h stand [] [] zip all = refl
    members_paths h stand (m ∷ ms) (x ∷ xs) zip all = append_of_map (path_at t) (places_of_part m.part) (flat_map (λ (k : NumberedMember). places_of_part k.part) ms)
        ∙ (λ i. part_paths h stand m x zip.0.package_ zip.0.label m.part x.part zip.0.part all.0 i ++ members_paths h stand ms xs zip.1 all.1 i)
    members_paths h stand _ _ zip all = absurd zip
