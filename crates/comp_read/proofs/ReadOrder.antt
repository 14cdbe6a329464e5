-- What is decoded stands in the order in which the bytes show it.
use Rattle.std.proofs.Common.{rules as std_rules, ◌≡◌, refl, sym, ap, subst, ◌∙◌, ℕ, true, cond, List, [], ◌∷◌, ◌++◌, map, Option, Some, None, is_none, slice_get, ◌+◌, ◌<◌, append-nil, length, IfOk, Result}
use Rattle.std.proofs.{lemmas.List.Elements.filter-append, ByRecursion.All-weaker as recursion_weaker}
use Rattle.std.specs.List.{AllByRecursion, Contains, filter, flat_map, AllZip}
use Rattle.wit_model.specs.{Text.Text, Meaning.PackageMeaning, Meaning.WorldPackage}
use Rattle.wit_model.proofs.Elements.{contains-get, none-in}
use Rattle.comp_bytes.specs.{Levels.Piece, Levels.PartType, Levels.levels_of, Reading.◌>>=◌, Reading.component_of}
use Rattle.plan_meaning.specs.{FollowedNumbers.IsPartIn, FollowedNumbers.IsViewIn, KeptTypes.TypesAreKept, Plan.Plan, Plan.PlannedInterface, Plan.numbers_of}
use Rattle.plan_meaning.specs.{NumberedWorlds.HasPath, NumberedWorlds.NumberedInstance, NumberedWorlds.NumberedScope, NumberedWorlds.are_once, Built.IsBuilt}
use Rattle.plan_meaning.specs.{PlanRules.are_rising, PlanRules.IsPlan, Shapes.shape_trees, Shapes.IsTable}
use Rattle.plan_meaning.specs.NumberedViews.{NumberedView, Tables, path_at, NumberedSight, first_at, place_at}
use Rattle.plan_meaning.specs.NumberedMembers.{Homes, NumberedMember, NumberedPart, interface, world, HomesStand, IsMember, are_package, home_at}
use Rattle.plan_type_laws.specs.ShownMarks.{has_no_path}
use Rattle.plan_types.specs.Orders.{places_of_part, joined_all}
use Rattle.plan_laws.proofs.{OwnPlaces.AreDifferent, OwnPlaces.no_path, Owned.first_there}
use Rattle.plan_laws.proofs.{WorldMeaning.one_world, WholeTypes.one_package, WholeTypes.packages_are_ruled, WholeTypes.planned_types_are_whole}
use Rattle.read_exports.specs.Members.{numbered_members, numbered_part}
use Rattle.read_exports.specs.declared.members.{Member.Member, Part.Part}
use Rattle.read_rules.specs.{Scopes.numbered_scope, declared.scopes.Scope.Scope, declared.tables.Fact.Fact as KeptFact}
use Rattle.read_parts.specs.declared.{following.Followed.Followed, members.Member.Member as FollowedMember}
use Rattle.read_parts.specs.{Input.IsFollowed, Members.declared_trees, Members.DeclaringScope, Members.IsScopedBy}
use Rattle.read_numbers.specs.{NumberedInput.tables_of, FactLaws.known_by}
use Rattle.read_numbers.specs.PlacedNumbers.{scopes_in as numbered_scopes, scopes_in, IsMetFrom}
use Rattle.comp_read.specs.{ReadInput.IsReadInput, ReadInput.AreHomesOf, ReadInput.ViewsObey, Order.FollowsBytes, Order.FollowsLevels, Order.NamesFollow}
use Rattle.comp_read.specs.{Planned.IsBuiltOf, Planned.PlansMean, Planned.WorldPlansMean, OwnMembers.StandAsShown, ReadWorlds.AreBeside, ReadWorlds.IsReadWorld}
use Rattle.comp_read.specs.{MembersRead.AreReadOf, TypeOrder.NumbersFollow, WorldsRead.IsWorldReadOf}
use Rattle.comp_read.proofs.{Lists.filter_flat, Lists.once_owned, NamedOrder.named_less, ShownOrder.places_are, ShownScopes.scope_places}
use Rattle.comp_read.proofs.{Whole.package_views_obey, Whole.read_is_package_input, Inputs.no_place, Inputs.places_differ, Inputs.world_at, Inputs.HasInstance}
use Rattle.comp_read.proofs.{Members.IsBoth, Members.numbered_at, Members.placed, Members.tables, WorldReadLaws.is_world, WorldReadLaws.read_world_is_whole}
use Rattle.comp_read.proofs.NumberedOrder.{met_apart, numbers_follow, StandAlone, package_follows, types_built, world_follows}
use Rattle.comp_read.proofs.{PackageOrder.packages_are, TypeNumbers.all_rise, TypeNumbers.places_alike, TypeNumbers.world_places, TypeNumbers.world_views}
use Rattle.comp_read.proofs.{InterfaceViews.members_by_scopes, ReadPackages.read_members_are_input, ReadPackages.read_packages_have_sources}
use Rattle.base_lemmas.proofs.Elements.{all_at, filter_kept as filter_from, get-contains, map_from as from_map, contains-map, last_of, zip_long}
use Rattle.base_lemmas.proofs.Lists.{one_item}
use Rattle.wit_model.specs.declared.model.Resolve.{Resolve}
use Rattle.comp_bytes.proofs.{Readers.bind_some, ComponentLaws.component_takes}
use Rattle.comp_meaning.specs.{ByLevels.exported_parts, ByLevels.member_by_levels, Follow.each, Reads.exported_types}
use Rattle.comp_meaning.proofs.Levelled.{levelled}
use Rattle.plan_build.proofs.BuildableLaws.{plans_are_buildable}
use Rattle.plan_package.specs.{PlanWhole.PlansWhole, PlanWhole.places_in, WholeWorlds.PlansWorld, WholeWorlds.world_in_part, WholeWorlds.worlds_in}
use Rattle.plan_package.specs.Views.{views_of_members}
use Rattle.plan_laws.specs.{OneWorld.AreOwnInterfaces, ShownNames.PartDeclaresNames, Whole.IsPackageInput}
use Rattle.read_follow.specs.declared.scopes.{Instance.Instance, Scope.Scope as FollowedScope}
use Rattle.read_follow.specs.{Numbering.bare_parts, Numbering.scoped_trees, Scopes.world_of, Scopes.IsPartOver, Scopes.IsScopedIn, Scopes.World}
use Rattle.read_follow.proofs.{ComponentLaws.places_are as places_stand, NumberingLaws.count_below}
use Rattle.read_members.specs.ReadMembers.{AreRead, lent_member}
use Rattle.read_numbers.proofs.MetNumbers.{met_from}
use Rattle.comp_meaning.specs.Reads as reads
use Rattle.read_exports.specs.declared.members.Part.TheVariants as parts

-- ---- Each inline interface is met once.

-- the places of an interface and of its imports have a path
abbrev pub HavePaths : Tables → NumberedPart → Type 0
HavePaths t (world w) = Unit {0}
HavePaths t (interface p v imports) = filter (has_no_path t) (places_of_part (interface p v imports)) ≡ []

module _ (t : Tables) where
  passed_over : (q : ℕ) (qs : List ℕ) → HasPath t q → cond (has_no_path t q) (q ∷ qs) qs ≡ qs
  passed_over q qs path = ap (λ (o : Option Text). cond (is_none o) (q ∷ qs) qs) path.1

  imports_have : (imports : List (ℕ × NumberedView)) → AllByRecursion (λ (i : ℕ × NumberedView). HasPath t i.0 × IsViewIn t i.0 i.1) imports
      → filter (has_no_path t) (map (λ (i : ℕ × NumberedView). i.0) imports) ≡ []
  imports_have [] all = refl
  imports_have (i ∷ imports) all = passed_over i.0 (filter (has_no_path t) (map (λ (j : ℕ × NumberedView). j.0) imports)) all.0.0 ∙ imports_have imports all.1

  part_has : (a : NumberedPart) → IsPartIn t a → HavePaths t a
  part_has (world w) is = tt
  part_has (interface p v imports) is = search (std_rules, filter-append, imports_have, passed_over)

  -- so it is where each type that is shown is a name of its place
  pub all_have : (ms : List NumberedMember) → AllByRecursion (λ (m : NumberedMember). IsPartIn t m.part) ms → AllByRecursion (λ (m : NumberedMember). HavePaths t m.part) ms
  all_have ms = recursion_weaker (λ (m : NumberedMember). IsPartIn t m.part) (λ (m : NumberedMember). HavePaths t m.part) (λ m is. part_has m.part is) ms

  scope_left : (is : List NumberedInstance) → filter (has_no_path t) (map (λ (i : NumberedInstance). i.place) is) ≡ map (λ (i : NumberedInstance). i.place) (filter (no_path t) is)
  scope_left [] = refl
  scope_left (i ∷ is) = search (std_rules, no_path, scope_left is)

module _ (pieces : List Piece) (x : Followed) (h : Homes) (ms : List Member) (members : List reads.Member) (input : IsReadInput pieces x h ms members)
    (have : AllByRecursion (λ (m : NumberedMember). HavePaths (tables_of x) m.part) (numbered_members ms)) where
  abbrev t : Tables
  t = tables_of x

  abbrev ws : List NumberedScope
  ws = numbered_scopes x

  abbrev left : NumberedMember → List ℕ
  left y = filter (has_no_path t) (places_of_part y.part)

  one_owner : (m n q : ℕ) → path_at t q ≡ None → HasInstance pieces x h ms members input m q → HasInstance pieces x h ms members input n q → m ≡ n
  one_owner m n q none i l = ((placed pieces x h ms members input).inline m n i.number l.number i.one l.one i.at l.at (ap (path_at t) i.place ∙ none) (i.place ∙ sym l.place)).0

  differ : (m : ℕ) (member : Member) → IsBoth pieces x h ms members input m member → (a : Part) → member.part ≡ a → HavePaths t (numbered_part a)
      → AreDifferent (filter (has_no_path t) (places_of_part (numbered_part a)))
  differ m member b (parts.World w) e paths =
      let here = world_at pieces x h ms members input m member b w e in
      subst (λ (qs : List ℕ). AreDifferent qs) (sym (scope_left t (numbered_scope w).instances))
      (places_differ t (numbered_scope w).instances (λ j k i l at_j at_k none equal.
      ((placed pieces x h ms members input).inline m m j k i l (record { scope = numbered_scope w; at = here; instance_at = at_j }) (record { scope = numbered_scope w; at = here; instance_at = at_k })
      none equal).1))
  differ m member b (parts.Interface p v imports) e paths = subst (λ (qs : List ℕ). AreDifferent qs) (sym paths) tt

  owns : (m : ℕ) (member : Member) → IsBoth pieces x h ms members input m member → (a : Part) → member.part ≡ a → HavePaths t (numbered_part a)
      → (q : ℕ) → Contains (filter (has_no_path t) (places_of_part (numbered_part a))) q → HasInstance pieces x h ms members input m q
  owns m member b (parts.World w) e paths q c =
      let from = from_map (λ (i : NumberedInstance). i.place) (numbered_scope w).instances q
      (filter_from (has_no_path t) (map (λ (i : NumberedInstance). i.place) (numbered_scope w).instances) q c).0 in
      let at = contains-get (numbered_scope w).instances from.0 from.1 in
      record { number = at.0; one = from.0; at = record { scope = numbered_scope w; at = world_at pieces x h ms members input m member b w e; instance_at = at.1 }; place = from.2 }
  owns m member b (parts.Interface p v imports) e paths q c = none-in q (subst (λ (qs : List ℕ). Contains qs q) paths c)

  paths_at : (m : ℕ) (y : NumberedMember) → slice_get (numbered_members ms) m ≡ Some y → HavePaths t y.part
  paths_at m y e = all_at (λ (z : NumberedMember). HavePaths t z.part) (numbered_members ms) have y (get-contains (numbered_members ms) m y e)

  owner_at : (m : ℕ) (y : NumberedMember) → slice_get (numbered_members ms) m ≡ Some y → (q : ℕ) → Contains (left y) q → HasInstance pieces x h ms members input m q
  owner_at m y e q c =
      let from = numbered_at pieces x h ms members input m y e in
      owns m from.member from.both from.member.part refl (subst (λ (z : NumberedMember). HavePaths t z.part) (sym from.is) (paths_at m y e)) q
      (subst (λ (z : NumberedMember). Contains (left z) q) (sym from.is) c)

  differ_at : (m : ℕ) (y : NumberedMember) → slice_get (numbered_members ms) m ≡ Some y → AreDifferent (left y)
  differ_at m y e =
      let from = numbered_at pieces x h ms members input m y e in
      subst (λ (z : NumberedMember). AreDifferent (left z)) from.is (differ m from.member from.both from.member.part refl
      (subst (λ (z : NumberedMember). HavePaths t z.part) (sym from.is) (paths_at m y e)))

  pub stand_alone : StandAlone t ms
  stand_alone = ap are_once (filter_flat (has_no_path t) (λ (y : NumberedMember). places_of_part y.part) (numbered_members ms)) ∙ once_owned left (numbered_members ms) differ_at
      (λ m n y z y_at z_at q c d. one_owner m n q (no_place (path_at t q) (filter_from (has_no_path t) (places_of_part y.part) q c).1) (owner_at m y y_at q c) (owner_at n z z_at q d))

-- ---- what is decoded stands in the order in which the bytes show it

-- what is exported was read of the sections
exported : (pieces : List Piece) (x : Followed) (h : Homes) (ms : List Member) (members : List reads.Member) → IsReadInput pieces x h ms members
    → (exported_parts pieces >>= each member_by_levels) ≡ Some members
exported pieces x h ms members input = search (std_rules, members_by_scopes)

-- ---- the scopes of types

-- two parts of one scope are over one place of their own
module _ (x : Followed) (table : IsTable x.table) where
  abbrev AreBothOver : ℕ → ℕ → Type 0
  AreBothOver a b = (h : ℕ) × IsMetFrom (tables_of x) h a × IsMetFrom (tables_of x) h b

  abbrev world_over : FollowedScope → World
  world_over scope = world_of x.table x.functions x.places scope

  both_in : (scope : FollowedScope) (c : Option ℕ) (a b : ℕ) → IsScopedIn (world_over scope) c a → IsScopedIn (world_over scope) c b → AreBothOver a b
  both_in scope None a b over_a over_b = (scope.home, met_from x.table x.functions x.places table scope.home a over_a, met_from x.table x.functions x.places table scope.home b over_b)
  both_in scope (Some j) a b over_a over_b =
      let one = one_item scope.instances.items j over_b.0 over_a.0 over_b.1 over_a.1 in
      let here = over_a.0.place in (
        here,
        met_from x.table x.functions x.places table here a over_a.2,
        met_from x.table x.functions x.places table here b (subst (λ (i : Instance). IsPartOver (world_over scope) i.place b) one over_b.2),
      )

  both_over : (ms : List FollowedMember) (c : DeclaringScope) (a b : ℕ) → IsScopedBy x.table x.functions x.places ms (c, a) → IsScopedBy x.table x.functions x.places ms (c, b) → AreBothOver a b
  both_over ms c a b over_a over_b = search (std_rules, one_item, both_in)

-- ---- the numbers of types

module _ (pieces : List Piece) (x : Followed) (h : Homes) (ms : List Member) (members : List reads.Member) (input : IsReadInput pieces x h ms members) where
  all_numbered : (kept : List ℕ) (p : Plan) → TypesAreKept (tables_of x) kept p → length kept ≡ length p.types → (r : Resolve) → IsBuilt p r → NumbersFollow (declared_trees input.followed.parts) r
  all_numbered kept p are long r built =
      let n = input.followed.followed.numbers in
      let t = tables_of x in
      let good = tables pieces x h ms members input in
      let inside : (c : DeclaringScope) (a : ℕ) → Contains n.parts (c, a) → a < 14 + length t.shapes =
      λ c a a_in. all_at _ _ (count_below 0 (bare_parts n.parts) (length t.shapes) n.counted) a (contains-map _ _ _ a_in) in
      let over = all_at _ _ n.scoped in
      numbers_follow t good kept p are long r built n.parts n.counted (declared_trees input.followed.parts)
      (sym (append-nil (scoped_trees (shape_trees (place_at t) t.shapes) n.parts)) ∙ n.trees (place_at t) (places_stand x.places)) (λ c a b a_in b_in.
      let both = both_over x good.shapes x.members.items c a b (over (c, a) a_in) (over (c, b) b_in) in
      met_apart t good both.0 a b (inside c a a_in, both.1) (inside c b b_in, both.2))

-- ---- a package

module _ (x : Followed) (facts : List KeptFact) (h : Homes) (n : ℕ) (ms : List Member) (read : AreReadOf x (tables_of x) facts h (map lent_member ms)) (pieces : List Piece)
    (followed : IsFollowed pieces x) (obeys : are_package (tables_of x) h (known_by facts) n (numbered_members ms) ≡ true) where
  package_read : (members : List reads.Member) × IsReadInput pieces x h ms members
  package_read = read_members_are_input pieces x followed facts read.known h read.stand ms read.read

  packaged : IsPackageInput (tables_of x) h (known_by facts) n ms package_read.0
  packaged = read_is_package_input pieces x h ms package_read.0 package_read.1 facts read.known read.homes n obeys

  types_rise : (p : Plan) → PlansWhole (tables_of x) h.packages (home_at h) n ms p → IsPlan p → are_rising (flat_map (λ (i : PlannedInterface). numbers_of i.types) p.interfaces) ≡ true
  types_rise p planned is =
      let obey = package_views_obey (tables_of x) h (known_by facts) n ms obeys in
      all_rise pieces x h ms package_read.0 package_read.1 (known_by facts) obey planned.kept_for.marks planned.kept planned.kept_for.marked n (home_at h) (views_of_members (numbered_members ms))
      (λ s c. c) (places_in ms) (ap (joined_all []) (sym (places_alike pieces x h ms package_read.0 package_read.1 (known_by facts) obey))) p.interfaces planned.interfaces
      (first_there (tables_of x) h ms package_read.0 packaged.input n p planned) is.types_rise

  names_follow : (p : Plan) → PlansWhole (tables_of x) h.packages (home_at h) n ms p → (r : Resolve) → IsBuilt p r → NamesFollow package_read.1.followed.parts package_read.0 r
  names_follow p planned r built m y member y_at member_at front back split scope read a b =
      let obey = package_views_obey (tables_of x) h (known_by facts) n ms obeys in
      let input = package_read.1 in
      let places = places_alike pieces x h ms package_read.0 input (known_by facts) obey in
      let alone = stand_alone pieces x h ms package_read.0 input (all_have (tables_of x) (numbered_members ms) packaged.input.numbers) in
      named_less pieces x h ms package_read.0 input (known_by facts) obey
      (subst (λ (ps : List ℕ). are_once (filter (has_no_path (tables_of x)) ps) ≡ true) (sym places) alone) packaged.input.declared m y y_at member member_at front back split scope read
      planned.kept_for.marks planned.kept planned.kept_for.marked n (home_at h) (views_of_members (numbered_members ms)) (λ s c. c) (places_in ms) (ap (joined_all []) (sym places)) p
      planned.interfaces (first_there (tables_of x) h ms package_read.0 packaged.input n p planned) (places_in ms) planned.worlds r built a b

  numbers_are : (p : Plan) → PlansWhole (tables_of x) h.packages (home_at h) n ms p → (r : Resolve) → IsBuilt p r → NumbersFollow (declared_trees package_read.1.followed.parts) r
  numbers_are p planned r built =
      let whole = planned_types_are_whole (tables_of x) h ms package_read.0 (packages_are_ruled (tables_of x) h (known_by facts) n ms package_read.0 packaged) n p planned in
      all_numbered pieces x h ms package_read.0 package_read.1 planned.kept p whole.types (zip_long _ planned.kept p.types planned.types) r built

  follows_package : (p : Plan) → PlansWhole (tables_of x) h.packages (home_at h) n ms p → IsPlan p → (r : Resolve) → IsBuilt p r → FollowsLevels (Some pieces) r
  follows_package p planned is r built = record {
    members = package_read.0;
    exported = exported pieces x h ms package_read.0 package_read.1;
    follows = package_follows (tables_of x) h (known_by facts) n ms package_read.0 packaged
        (stand_alone pieces x h ms package_read.0 package_read.1 (all_have (tables_of x) (numbered_members ms) packaged.input.numbers))
        (packages_are pieces x h ms package_read.0 package_read.1 read.homes read.order (read_packages_have_sources read.first h.packages h.homes ms read.reasons read.members) n
        (one_package (tables_of x) h (known_by facts) n ms package_read.0 packaged)) p planned r built (types_built p r built is (types_rise p planned is));
    parts = package_read.1.followed.parts;
    read = package_read.1.followed.exported;
    named = names_follow p planned r built;
    numbered = numbers_are p planned r built;
  }

module _ (x : Followed) (t : Tables) (facts : List KeptFact) (h : Homes) (n : ℕ) (ms : List Member) (read : AreReadOf x t facts h (map lent_member ms)) (pieces : List Piece)
    (followed : IsFollowed pieces x)
    (obeys : are_package t h (known_by facts) n (numbered_members ms) ≡ true) (found : Option PackageMeaning) (mean : PlansMean t h.packages (home_at h) n ms found) (r : Resolve) (main : ℕ) where
  pub package_in_order : IsBuiltOf t h.packages (home_at h) n ms r main → FollowsLevels (Some pieces) r
  package_in_order is =
      let plan = (mean is.plan is.planned is.fits).plan.plan in
      follows_package x facts h n ms (subst (λ (u : Tables). AreReadOf x u facts h (map lent_member ms)) read.tables read) pieces followed
      (subst (λ (u : Tables). are_package u h (known_by facts) n (numbered_members ms) ≡ true) read.tables obeys)
      is.plan (subst (λ (u : Tables). PlansWhole u h.packages (home_at h) n ms is.plan) read.tables is.planned) plan r (is.built (plans_are_buildable is.plan plan))

-- ---- one world

module _ (x : Followed) (t : Tables) (facts : List KeptFact) (h : Homes) (m : Member) (w : Scope) (given : IsWorldReadOf x t facts h m w) (pieces : List Piece) (followed : IsFollowed pieces x)
    (own : List Member) (are : AreBeside t h m w own) (order : StandAsShown t h m.package_number (numbered_scope w) (numbered_members own)) where
  world_is_read : IsReadWorld pieces x t facts h m w
  world_is_read = is_world x t facts h m w given pieces followed own are

  -- the tables are those of what was followed
  over_tables : (P : Tables → Type 0) → P (tables_of x) → P t
  over_tables P is = subst P (sym given.read.tables) is

  world_read : (members : List reads.Member) × IsReadInput pieces x h (m ∷ []) members
  world_read = read_members_are_input pieces x followed facts given.read.known h (subst (λ (u : Tables). HomesStand u h) given.read.tables given.read.stand) (m ∷ [])
      (subst (λ (u : Tables). AreRead u (known_by facts) h x.members.items (map lent_member (m ∷ []))) given.read.tables given.read.read)

  -- the views of the world obey the rules
  world_obeys : (a : Part) → a ≡ parts.World w → IsReadWorld pieces x (tables_of x) facts h (record { label = m.label; package_number = m.package_number; part = a }) w
      → AreBeside (tables_of x) h (record { label = m.label; package_number = m.package_number; part = a }) w own
      → ViewsObey (tables_of x) (known_by facts) (record { label = m.label; package_number = m.package_number; part = a } ∷ [])
  world_obeys a e read beside = search std_rules

  obey : ViewsObey (tables_of x) (known_by facts) (m ∷ [])
  obey = search std_rules

  world_types_rise : (p : Plan) → PlansWhole t h.packages (home_at h) m.package_number (m ∷ own) p → IsPlan p → are_rising (flat_map (λ (i : PlannedInterface). numbers_of i.types) p.interfaces) ≡ true
  world_types_rise p planned is =
      let whole = read_world_is_whole pieces x t facts h m w world_is_read own are in
      let here = subst (λ (u : Tables). PlansWhole u h.packages (home_at h) m.package_number (m ∷ own) p) given.read.tables planned in
      let met = world_places m w given.is (places_in (m ∷ own)) (flat_map scope_places (scopes_in x)) (places_are t h given.read.homes m.package_number m w given.is own are order)
      (places_alike pieces x h (m ∷ []) world_read.0 world_read.1 (known_by facts) obey) in
      all_rise pieces x h (m ∷ []) world_read.0 world_read.1 (known_by facts) obey here.kept_for.marks here.kept here.kept_for.marked m.package_number (home_at h)
      (views_of_members (numbered_members (m ∷ own)))
      (world_views t h m w given.is own are) (places_in (m ∷ own)) met p.interfaces here.interfaces (first_there t h (m ∷ own) whole.members whole.input.input m.package_number p planned) is.types_rise

  world_names_follow : (p : Plan) → PlansWhole t h.packages (home_at h) m.package_number (m ∷ own) p → (r : Resolve) → IsBuilt p r → NamesFollow world_read.1.followed.parts world_read.0 r
  world_names_follow p planned r built k y member y_at member_at front back split scope read a b =
      let whole = read_world_is_whole pieces x t facts h m w world_is_read own are in
      let here = subst (λ (u : Tables). PlansWhole u h.packages (home_at h) m.package_number (m ∷ own) p) given.read.tables planned in
      let same = places_alike pieces x h (m ∷ []) world_read.0 world_read.1 (known_by facts) obey in
      let met = world_places m w given.is (places_in (m ∷ own)) (flat_map scope_places (scopes_in x)) (places_are t h given.read.homes m.package_number m w given.is own are order) same in
      let alone = stand_alone pieces x h (m ∷ []) world_read.0 world_read.1 (subst (λ (a : Part). HavePaths (tables_of x) (numbered_part a)) (sym given.is) tt, tt) in
      let alike : worlds_in (m ∷ own) ≡ worlds_in (m ∷ []) = one_world t h m.package_number m own w given.is are ∙ sym (ap (λ (a : Part). world_in_part m.label.now a ++ []) given.is) in
      named_less pieces x h (m ∷ []) world_read.0 world_read.1 (known_by facts) obey (subst (λ (ps : List ℕ). are_once (filter (has_no_path (tables_of x)) ps) ≡ true) (sym same) alone)
      (subst (λ (u : Tables). PartDeclaresNames u m.part) given.read.tables whole.input.input.declared.0, tt) k y y_at member member_at front back split scope read
      here.kept_for.marks here.kept here.kept_for.marked m.package_number (home_at h) (views_of_members (numbered_members (m ∷ own))) (world_views (tables_of x) h m w given.is own
      (subst (λ (u : Tables). AreOwnInterfaces u h m.package_number (numbered_scope w) (numbered_members own)) given.read.tables are)) (places_in (m ∷ own)) met p
      here.interfaces (subst (λ (u : Tables). (k q : ℕ) → slice_get (places_in (m ∷ own)) k ≡ Some q → (s : NumberedSight) × (first_at q (views_of_members (numbered_members (m ∷ own))) ≡ Some s))
      given.read.tables (first_there t h (m ∷ own) whole.members whole.input.input m.package_number p planned)) (places_in (m ∷ own))
      (subst (λ (ws : List (Text × Scope)). AllZip (PlansWorld (tables_of x) here.kept (places_in (m ∷ own)) m.package_number) ws p.worlds) alike here.worlds) r built a b

  world_numbers : (p : Plan) → PlansWhole t h.packages (home_at h) m.package_number (m ∷ own) p → (r : Resolve) → IsBuilt p r → NumbersFollow (declared_trees world_read.1.followed.parts) r
  world_numbers p planned r built =
      let whole = read_world_is_whole pieces x t facts h m w world_is_read own are in
      let types = planned_types_are_whole t h (m ∷ own) whole.members (packages_are_ruled t h (known_by facts) m.package_number (m ∷ own) whole.members whole.input) m.package_number p planned in
      all_numbered pieces x h (m ∷ []) world_read.0 world_read.1 planned.kept p (subst (λ (u : Tables). TypesAreKept u planned.kept p) given.read.tables types.types)
      (zip_long _ planned.kept p.types planned.types) r built

  pub world_in_order : (found : Option WorldPackage) → WorldPlansMean t h.packages (home_at h) m.package_number (m ∷ own) found → (r : Resolve) (main : ℕ)
      → IsBuiltOf t h.packages (home_at h) m.package_number (m ∷ own) r main → FollowsLevels (Some pieces) r
  world_in_order found mean r main is =
      let plan = (mean is.plan is.planned is.fits).plan.plan in
      let built = is.built (plans_are_buildable is.plan plan) in
      let whole = read_world_is_whole pieces x t facts h m w world_is_read own are in
      record {
        members = world_read.0;
        exported = exported pieces x h (m ∷ []) world_read.0 world_read.1;
        follows = world_follows t h (known_by facts) m.package_number m own whole.members whole.input w given.is are (places_are t h given.read.homes m.package_number m w given.is own are order)
            world_read.0 (over_tables (λ (u : Tables). AllZip (IsMember u h) (numbered_members (m ∷ [])) world_read.0) world_read.1.shown)
            (over_tables (λ (u : Tables). StandAlone u (m ∷ [])) (stand_alone pieces x h (m ∷ []) world_read.0 world_read.1
            (subst (λ (a : Part). HavePaths (tables_of x) (numbered_part a)) (sym given.is) tt, tt)))
            (packages_are pieces x h (m ∷ []) world_read.0 world_read.1 (subst (λ (u : Tables). AreHomesOf u h) given.read.tables given.read.homes) given.read.order
            (read_packages_have_sources given.read.first h.packages h.homes (m ∷ []) given.read.reasons given.read.members) m.package_number
            (λ k c. ap (λ (z : Member). z.package_number) (sym (last_of m k c)))) is.plan is.planned r built (types_built is.plan r built plan (world_types_rise is.plan is.planned plan));
        parts = world_read.1.followed.parts;
        read = world_read.1.followed.exported;
        named = world_names_follow is.plan is.planned r built;
        numbered = world_numbers is.plan is.planned r built;
      }

-- ---- bytes

bound : {A : Type 0} (o : Option A) → (o >>= λ x. Some x) ≡ o
bound x = search std_rules

-- what the levels export is what the bytes do
pub follows_bytes : (bytes : List ℕ) (r : Resolve) → FollowsLevels (levels_of bytes) r → FollowsBytes bytes r
follows_bytes bytes r is =
    let last : List reads.Member → Option (List reads.Member) = λ members. Some members in
    let ss = bind_some (component_of bytes) (λ ss. exported_types ss >>= λ types. each reads.member types >>= last) is.members (sym (levelled last bytes) ∙ by (levels_of bytes) is.exported) in
    let types = bind_some (exported_types ss.0) (λ types. each reads.member types >>= last) is.members ss.2 in
    record {
      members = is.members;
      exported = record { sections = ss.0; spelled = component_takes bytes ss.0 ss.1; are = ap (λ o. o >>= each reads.member) types.1 ∙ (sym (bound (each reads.member types.0)) ∙ types.2) };
      follows = is.follows;
      parts = is.parts;
      read = is.read;
      named = is.named;
      numbered = is.numbered;
    }
  where
    parts_by : (o : Option (List (Text × PartType))) → (members : List reads.Member) → (o >>= each member_by_levels) ≡ Some members
        → (o >>= λ parts. each member_by_levels parts >>= λ ms. Some ms) ≡ Some members
    parts_by None members e = let wrong : ◌≡◌ {A = Option (List reads.Member)} None (Some members) = e in absurd cc
    parts_by (Some parts) members e = bound (each member_by_levels parts) ∙ e

    by : (o : Option (List Piece)) → (o >>= λ pieces. exported_parts pieces >>= each member_by_levels) ≡ Some is.members
        → (o >>= λ ps. exported_parts ps >>= λ parts. each member_by_levels parts >>= λ ms. Some ms) ≡ Some is.members
    by None e = let wrong : ◌≡◌ {A = Option (List reads.Member)} None (Some is.members) = e in absurd cc
    by (Some pieces) e = parts_by (exported_parts pieces) is.members e

-- ---- what is answered

pub both_ok : {A E : Type 0} (o : Result A E) (P Q R : A → Type 0) → ((x : A) → P x → Q x → R x) → IfOk o P → IfOk o Q → IfOk o R
both_ok y z u v both holds follows = search std_rules
