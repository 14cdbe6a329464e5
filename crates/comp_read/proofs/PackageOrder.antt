-- Packages are numbered in the order in which what was followed shows them.
use Rattle.std.proofs.Common.{rules as std_rules, ◌≡◌, refl, sym, ap, subst, ◌∙◌, ℕ, zero, suc, ◌<◌, ◌⊎◌, inl, inr, arith, Bool, true, false, not, ◌==◌, cond, List, [], ◌∷◌, ◌++◌, length, map, Option, Some, None, option_map, option_to_list, slice_get, unwrap_or}
use Rattle.std.proofs.lemmas.{Bool.eq-eqb, List.Elements.Contains-append_cases, List.Elements.Contains-append_left, List.Elements.Contains-append_right}
use Rattle.std.proofs.lemmas.Option.{slice_get_within as found_below}
use Rattle.std.specs.List.{Contains, filter, flat_map}
use Rattle.wit_model.specs.declared.model.Resolve.{Resolve}
use Rattle.wit_model.specs.{Lookup.identity_of, Names.PackageIdentity, Text.Text, Uses.once}
use Rattle.wit_model.proofs.{Chains.has_once, Elements.contains-flat, Elements.contains-get, Elements.contains-has, Elements.has-contains}
use Rattle.comp_bytes.specs.Levels.{Piece}
use Rattle.comp_meaning.specs.Same.{same_identity}
use Rattle.comp_meaning.proofs.SameLaws.{identities_decide}
use Rattle.plan_meaning.specs.{Built.IsBuilt, Built.planned_package, NumberedWorlds.HasPath, NumberedWorlds.NumberedInstance, NumberedWorlds.NumberedScope}
use Rattle.plan_meaning.specs.{NumberedViews.Tables, NumberedViews.path_at, Plan.Plan, Plan.PlannedPackage}
use Rattle.plan_meaning.specs.NumberedMembers.{Homes, IsMember, NumberedMember, home_at}
use Rattle.plan_package.specs.{PlanWhole.PlansWhole, WholeInterfaces.Home}
use Rattle.plan_laws.specs.WholePlan.{IsOfMember}
use Rattle.plan_laws.proofs.MetNames.{flat_cases}
use Rattle.read_homes.specs.Homes.{ComeInOrder, HasPlace, HasPlaceBefore}
use Rattle.read_exports.specs.Members.{numbered_member, numbered_members}
use Rattle.read_exports.specs.declared.members.Member.{Member}
use Rattle.read_parts.specs.declared.following.Followed.{Followed}
use Rattle.read_numbers.specs.{NumberedInput.tables_of, PlacedNumbers.ArePlacedScopes, PlacedNumbers.IsMetBefore, PlacedNumbers.scopes_in}
use Rattle.comp_read.specs.{Order.once_by_identity, Order.package_of_path, Order.packages_shown, Order.shown_under, ReadInput.AreHomesOf, ReadInput.IsReadInput}
use Rattle.comp_read.specs.ReadPackages.{HaveSources}
use Rattle.comp_read.proofs.TypeNumbers.{Any, IsBeforeIn, IsOfSmaller, StandBehind, behind_both, behind_flat, behind_low, behind_mapped, below, below_at, below_long, counted_up}
use Rattle.comp_read.proofs.{Members.placed, ShownScopes.places_shown_under, ShownScopes.scope_places, ShownOrder.homeless}
use Rattle.base_lemmas.proofs.Elements.{contains-later, contains-map, first-contained, get-contains, map_from, zip_at, zip_map}
use Rattle.base_lemmas.proofs.Lists.{append_of_map, get_back, length_of_map, map_of_map, mapped_get, within_there}
use Rattle.base_lemmas.proofs.{Numbers.unequal, Options.some_is}
use Rattle.comp_meaning.specs.Reads as reads
use Rattle.read_numbers.specs.PlacedNumbers as placed_numbers
use Rattle.comp_read.proofs.TypeNumbers as counted

-- ---- lists

-- lists of one length with the same items are one
same_items : {A : Type 0} (xs ys : List A) → length xs ≡ length ys → ((n : ℕ) (x : A) → slice_get xs n ≡ Some x → slice_get ys n ≡ Some x) → xs ≡ ys
same_items [] [] long same = refl
same_items [] (y ∷ ys) long same = absurd (omega (arith, long))
same_items (x ∷ xs) [] long same = absurd (omega (arith, long))
same_items (x ∷ xs) (y ∷ ys) long same = λ i. sym (some_is y x (same zero x refl)) i ∷ (same_items xs ys (omega (arith, long)) (λ n z at. same (suc n) z at)) i

-- ---- packages by number

nobody : PackageIdentity
nobody = record { namespace = []; name = []; version = None }

module _ (packages : List PackageIdentity) (apart : (m n : ℕ) (identity : PackageIdentity) → slice_get packages m ≡ Some identity → slice_get packages n ≡ Some identity → m ≡ n) where
  abbrev many : ℕ
  many = length packages

  abbrev named : ℕ → PackageIdentity
  named n = unwrap_or (slice_get packages n) nobody

  there : (n : ℕ) → n < many → slice_get packages n ≡ Some (named n)
  there n low = let x = within_there packages n low in x.1 ∙ ap Some (sym (ap (λ o. unwrap_or o nobody) x.1))

  -- they are told apart by their numbers
  one_number : (m n : ℕ) → m < many → n < many → same_identity (named n) (named m) ≡ (m == n)
  one_number m n low below = search (std_rules, identities_decide, there, eq-eqb, unequal)

  others : (n : ℕ) → n < many → (ms : List ℕ) → ((m : ℕ) → Contains ms m → m < many) → filter (λ q. not (same_identity (named n) q)) (map named ms) ≡ map named (filter (λ m. not (m == n)) ms)
  others n below [] all = refl
  others n below (m ∷ ms) all =
      ap (λ b. cond (not b) (named m ∷ left) left) (one_number m n (all m (first-contained m ms)) below) ∙ by (m == n) (others n below ms (λ k c. all k (contains-later m ms k c)))
    where
      left : List PackageIdentity
      left = filter (λ q. not (same_identity (named n) q)) (map named ms)

      right : List ℕ
      right = filter (λ k. not (k == n)) ms

      by : (b : Bool) → left ≡ map named right → cond (not b) (named m ∷ left) left ≡ map named (cond (not b) (m ∷ right) right)
      by true rest = rest
      by false rest = ap (λ qs. named m ∷ qs) rest

  once_named : (ns : List ℕ) → ((n : ℕ) → Contains ns n → n < many) → once_by_identity (map named ns) ≡ map named (once ns)
  once_named [] all = refl
  once_named (n ∷ ns) all =
      let inside = λ (m : ℕ) (c : Contains ns m). all m (contains-later n ns m c) in
      ap (λ qs. named n ∷ filter (λ q. not (same_identity (named n) q)) qs) (once_named ns inside)
      ∙ ap (λ qs. named n ∷ qs) (others n (all n (first-contained n ns)) (once ns) (λ n c. inside n (has-contains ns n (sym (has_once n ns) ∙ contains-has (once ns) n c))))

  all_named : map named (below many) ≡ packages
  all_named = search (std_rules, same_items, below, length_of_map, below_long, get_back, below_at, there)

-- ---- what was followed

module _ (pieces : List Piece) (x : Followed) (h : Homes) (ms : List Member) (members : List reads.Member) (input : IsReadInput pieces x h ms members)
    (homes : AreHomesOf (tables_of x) h) (order : ComeInOrder [] h.homes) (sources : HaveSources h.packages h.homes ms) (n : ℕ) (one : (m : Member) → Contains ms m → m.package_number ≡ n) where
  abbrev t : Tables
  t = tables_of x

  abbrev ws : List NumberedScope
  ws = scopes_in x

  abbrev nms : List NumberedMember
  nms = numbered_members ms

  -- the places of all instances, in order
  abbrev places : List ℕ
  places = flat_map scope_places ws

  scopes_placed : ArePlacedScopes t ws
  scopes_placed = placed pieces x h ms members input

  places_behind : StandBehind (HasPath t) [] places
  places_behind = behind_flat (HasPath t) scope_places [] ws given
    where
      before : (m j c : ℕ) → IsMetBefore ws m j c → Contains [] c ⊎ IsBeforeIn scope_places ws m j c
      before m j c (placed_numbers.in_earlier k l i low at place) = inr (counted.in_earlier k at.scope low at.at (subst (Contains (scope_places at.scope)) place
          (contains-map (λ (y : NumberedInstance). y.place) at.scope.instances i (get-contains at.scope.instances l i at.instance_at))))
      before m j c (placed_numbers.in_same l i low at place) = inr (counted.in_same l at.scope low at.at
          (mapped_get (λ (y : NumberedInstance). y.place) at.scope.instances l i at.instance_at ∙ ap Some place))

      given : (m : ℕ) (w : NumberedScope) → slice_get ws m ≡ Some w → (j q : ℕ) → slice_get (scope_places w) j ≡ Some q → (c : ℕ) → c < q → HasPath t c → Contains [] c
          ⊎ IsBeforeIn scope_places ws m j c
      given m w at j q e c less path =
          let i = get_back (λ (y : NumberedInstance). y.place) w.instances j q e in
          before m j c (scopes_placed.order m j i.0 (record { scope = w; at = at; instance_at = i.1 }) c path (subst (λ (k : ℕ). c < k) (sym i.2) less))

  -- ---- the packages of places

  abbrev package_number : Option Home → List ℕ
  package_number o = option_to_list (option_map (λ y. y.0) o)

  abbrev package_at : ℕ → List ℕ
  package_at q = package_number (home_at h q)

  path_of_home : (q : ℕ) (y : Home) → home_at h q ≡ Some y → HasPath t q
  path_of_home q y e = by (path_at t q) refl
    where
      by : (o : Option Text) → path_at t q ≡ o → HasPath t q
      by (Some path) f = (path, f)
      by None f = let wrong : ◌≡◌ {A = Option Home} None (Some y) = sym (homeless homes.0 t.paths h.homes homes.1 q f) ∙ e in absurd cc

  number_of_home : (o : Option Home) (d : ℕ) → Contains (package_number o) d → (y : Home) × (o ≡ Some y) × (y.0 ≡ d)
  number_of_home x d c = search std_rules

  at_home : (q : ℕ) (y : Home) → home_at h q ≡ Some y → Contains (package_at q) y.0
  at_home q y e = subst (λ (o : Option Home). Contains (package_number o) y.0) (sym e) (first-contained y.0 [])

  smaller : (q d : ℕ) → Contains (package_at q) d → (c : ℕ) → c < d → IsOfSmaller (HasPath t) package_at q c
  smaller q d there c less =
      let y = number_of_home (home_at h q) d there in
      by (order q y.0.0 y.0.1 (search std_rules) c (omega (arith, less, y.2)))
    where
      by : (c < 0) ⊎ HasPlaceBefore h.homes q c → IsOfSmaller (HasPath t) package_at q c
      by (inl none) = absurd (omega (arith, none))
      by (inr b) =
          let home : home_at h b.number ≡ Some (c, b.name) = ap (λ o. unwrap_or o None) b.home in
          record { one = b.number; less = b.earlier; kind = path_of_home b.number (c, b.name) home; there = at_home b.number (c, b.name) home }

  abbrev of_places : List ℕ
  of_places = flat_map package_at places

  abbrev of_members : List ℕ
  of_members = map (λ (m : NumberedMember). m.package_) nms

  -- the package of a place is that of one that is shown
  place_shown : (c : ℕ) → HasPlace h.homes c → Contains of_places c
  place_shown c p =
      let home : home_at h p.place ≡ Some (c, p.name) = ap (λ o. unwrap_or o None) p.home in
      let met = scopes_placed.met p.place (path_of_home p.place (c, p.name) home) in
      let at = met.at in
      contains-flat package_at places p.place c (contains-flat scope_places ws at.scope p.place (get-contains _ _ _ at.at)
      (subst (Contains (scope_places at.scope)) met.place (contains-map _ _ _ (get-contains _ _ _ at.instance_at)))) (at_home p.place (c, p.name) home)

  -- a number among those of the members is that of one of them
  member_there : (c : ℕ) → Contains of_members c → (c ≡ n) × (c < length h.packages)
  member_there c d =
      let m = map_from (λ (y : NumberedMember). y.package_) nms c d in
      let y = map_from numbered_member ms m.0 m.1 in
      let at = contains-get nms m.0 m.1 in
      let is = zip_at (IsMember t h) nms members input.shown at.0 m.0 at.1 in
      (sym m.2 ∙ (ap (λ (z : NumberedMember). z.package_) (sym y.2) ∙ one y.0 y.1), subst (λ (k : ℕ). k < length h.packages) m.2 (found_below h.packages m.0.package_ is.0.package_ is.2.package_))

  behind_places : (m : ℕ) → Contains of_members m → (c : ℕ) → c < m → Contains of_places c
  behind_places m d c less =
      let is = member_there m d in
      let same = is.0 in
      by (sources c (omega (arith, less, is.1)))
    where
      by : IsOfMember ms c ⊎ HasPlace h.homes c → Contains of_places c
      by (inl s) = let number = one s.member s.among in let own = s.is in let same = (member_there m d).0 in absurd (omega (arith, less, number, own, same))
      by (inr p) = place_shown c p

  all_behind : StandBehind Any [] (of_places ++ of_members)
  all_behind = behind_both Any [] of_places of_members (behind_mapped (HasPath t) package_at smaller [] places places_behind) (behind_low of_places of_members behind_places)

  place_inside : (c : ℕ) → Contains of_places c → c < length h.packages
  place_inside c d =
      let q = flat_cases package_at places c d in
      let y = number_of_home (home_at h q.0) c q.2 in
      let path = path_of_home q.0 y.0 y.1 in
      let home = input.homes.homes q.0 path.0 path.1 in
      subst (λ (k : ℕ). k < length h.packages) ((ap (λ (z : Home). z.0) (some_is _ _ (sym home.home ∙ y.1))) ∙ y.2) (found_below h.packages home.package_ home.identity home.stands)

  inside : (c : ℕ) → Contains (of_places ++ of_members) c → c < length h.packages
  inside c d = elim (Contains-append_cases of_places of_members c d) [ inl e ↦ place_inside c e | inr e ↦ (member_there c e).1 ]

  all_there : (c : ℕ) → c < length h.packages → Contains (of_places ++ of_members) c
  all_there c low = elim (sources c low) [
    | inl s ↦ Contains-append_right _ _ c (subst (Contains of_members) s.is (contains-map _ _ _ (contains-map _ _ _ s.among)))
    | inr p ↦ Contains-append_left _ _ c (place_shown c p)
  ]

  -- ---- by their names

  abbrev name : ℕ → PackageIdentity
  name c = unwrap_or (slice_get h.packages c) nobody

  path_named : (q : ℕ) → package_of_path (path_at t q) ≡ map name (package_at q)
  path_named q = by (path_at t q) refl
    where
      by : (o : Option Text) → path_at t q ≡ o → package_of_path o ≡ map name (package_at q)
      by None e = sym (ap (λ (o : Option Home). map name (package_number o)) (homeless homes.0 t.paths h.homes homes.1 q e))
      by (Some path) e =
          let home = input.homes.homes q path e in
          ap (λ (o : Option (PackageIdentity × Text)). map (λ p. p.0) (option_to_list o)) home.reads
          ∙ (ap (λ (o : Option PackageIdentity). unwrap_or o nobody ∷ []) (sym home.stands) ∙ sym (ap (λ (o : Option Home). map name (package_number o)) home.home))

  paths_named : (qs : List ℕ) → flat_map package_of_path (map (path_at t) qs) ≡ map name (flat_map package_at qs)
  paths_named [] = refl
  paths_named (q ∷ qs) = (λ i. path_named q i ++ paths_named qs i) ∙ sym (append_of_map name (package_at q) (flat_map package_at qs))

  members_named : map (λ (y : reads.Member). y.package_) members ≡ map name of_members
  members_named = search (std_rules, zip_map, unwrap_or, nobody, map_of_map)

  shown_named : flat_map package_of_path (flat_map shown_under members) ++ map (λ (y : reads.Member). y.package_) members ≡ map name (of_places ++ of_members)
  shown_named = (λ i. (ap (flat_map package_of_path) (sym (places_shown_under pieces x h ms members input)) ∙ paths_named places) i ++ members_named i) ∙ sym (append_of_map name of_places of_members)

  pub packages_are : h.packages ≡ packages_shown members
  packages_are = sym (ap once_by_identity shown_named ∙ (once_named h.packages input.homes.apart (of_places ++ of_members) inside
      ∙ (ap (map name) (counted_up (length h.packages) (of_places ++ of_members) all_behind inside all_there) ∙ all_named h.packages input.homes.apart)))

-- ---- what is planned and built

pub built_identities : (t : Tables) (packages : List PackageIdentity) (homes : ℕ → Option Home) (n : ℕ) (ms : List Member) (p : Plan) → PlansWhole t packages homes n ms p → (r : Resolve) → IsBuilt p r
    → map (λ k. identity_of k.name) r.packages.items ≡ packages
built_identities t packages homes n ms p planned r built = sym (map_of_map (λ (k : PlannedPackage). k.identity) planned_package r.packages.items)
    ∙ (ap (map (λ (k : PlannedPackage). k.identity)) built.packages ∙ (search (std_rules, same_items, length_of_map, get_back, there)))
