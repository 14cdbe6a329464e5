-- One world of members that were read of what was followed.
use Rattle.std.proofs.Common.{rules as std_rules, ◌≡◌, refl, sym, ap, subst, ◌∙◌, ℕ, suc, arith, List, [], ◌∷◌, ◌++◌, filter, map, Some, slice_get, ◌⊎◌, inl, inr, true, Bool, false, length, Option, None}
use Rattle.std.proofs.lemmas.{List.append-nil, List.Elements.Contains-append_left, List.Elements.Contains-append_cases}
use Rattle.std.specs.{Borrow.Bor, List.AllByRecursion, List.Contains, List.flat_map}
use Rattle.wit_model.specs.{Meaning.WorldPackage, Names.PackageIdentity, Names.is_label, Text.Text}
use Rattle.comp_bytes.specs.{Levels.Piece, Reading.◌>>=◌}
use Rattle.comp_meaning.specs.{ByLevels.world_of_pieces, Follow.each, Follow.provided, Reads.world_of_members, Reads.world_with, Rules.distinct}
use Rattle.read_shown.specs.{Kinds.NamesHaveKinds, Parts.MemberStands}
use Rattle.read_shown.proofs.MeaningKinds.{worlds_have_kinds}
use Rattle.plan_meaning.specs.{FollowedNumbers.IsPartIn, NumberedWorlds.NumberedScope, NumberedWorlds.Shows, NumberedWorlds.are_once, NumberedWorlds.HasPath}
use Rattle.plan_meaning.specs.{NumberedRules.Fact, NumberedViews.NumberedView, NumberedViews.Tables, NumberedViews.AreTables}
use Rattle.plan_meaning.specs.NumberedMembers.{Homes, IsKnownSight, NumberedMember, NumberedPart, interface, world, world_shown, sights_of_members, HomesStand, home_at}
use Rattle.read_parts.specs.declared.following.Followed.{Followed}
use Rattle.read_numbers.specs.{FactLaws.known_by, NumberedInput.tables_of}
use Rattle.plan_type_laws.specs.ShownMarks.{ArePlaced, PartNames, has_no_path, places_of_part}
use Rattle.read_exports.specs.Members.{numbered_member, numbered_members, numbered_part}
use Rattle.read_exports.specs.declared.members.{Member.Member, Part.Part}
use Rattle.read_rules.specs.Scopes.{numbered_scope}
use Rattle.read_rules.specs.declared.{scopes.Scope.Scope, tables.Fact.Fact as KeptFact, reached.ImportedView.ImportedView, views.View.View}
use Rattle.read_members.specs.DecidedWorlds.{IsWorldDecided, AreWorldDecided, IsPartDecided}
use Rattle.read_members.specs.ReadMembers.{lent_member, AreRead}
use Rattle.read_members.proofs.DecidedWorldLaws.{by_members, worlds_are_decided}
use Rattle.plan_laws.specs.{ShownNames.IsInput, ShownNames.PartDeclaresNames, ShownWhole.AreReached, WholeWorlds.WorldIsFollowed, WholeWorlds.WorldsAreFollowed}
use Rattle.plan_laws.specs.{Whole.IsPackageInput, Whole.PartIsKnown, WholePlan.IsOfMember, WholePlan.IsWholeInput, WholeReasonsForeign.PartIsReached}
use Rattle.plan_laws.specs.{Apart.FirstsRise, FirstViews.IsRisingView, WholePlaces.LabelsStand, WholeCondition.PartIsBare}
use Rattle.plan_laws.proofs.{Sources.all_of, Sources.all_joined, Sources.from_joined, WholeCondition.whole_may_be_planned, WorldMeaning.world_plan_is_whole}
use Rattle.plan_laws.proofs.ViewsAgree.{first_is}
use Rattle.comp_read.specs.{ReadInput.IsReadInput, ReadInput.ViewsObey, Planned.CanBeBuilt, Planned.WorldPlansMean}
use Rattle.comp_read.specs.{MembersRead.AreReadOf, WorldsRead.IsAlone, WorldsRead.IsWorldReadOf, WorldsRead.are_one_world, WorldsRead.is_alone}
use Rattle.comp_read.specs.ReadWorlds.{AreBeside, IsReadWorld, IsWholeWorld, ReadWorldIsWhole, ReadWorldPlansAreMeant}
use Rattle.comp_read.proofs.Inputs.{read_is_input, read_places_are_apart, parts_known, sights_known, view_rises}
use Rattle.comp_read.proofs.ReadPackages.{read_members_are_input, read_packages_have_sources}
use Rattle.comp_read.proofs.{Whole.alone, Whole.lengths_fit, Followed.read_labels_stand, Followed.read_places_are_met, Followed.read_worlds_are_followed}
use Rattle.comp_read.proofs.{Members.members_stand, OwnTrees.own_members, OwnTrees.own_tree, OwnTrees.world_members_stand, OwnTrees.world_names_have_kinds}
use Rattle.comp_read.proofs.OwnViews.{own_at, sight_among, view_among}
use Rattle.comp_read.proofs.ShownOrder.{agree, interfaces, obeys_package, labels_differ, own_label}
use Rattle.base_lemmas.proofs.{Elements.all_at, Elements.contains-map, Elements.contains-later, Lists.map_of_map}
use Rattle.wit_model.proofs.Elements.{none-in}
use Rattle.read_homes.specs.Homes.{HasPlace}
use Rattle.plan_types.specs.Orders.{places_of_part as met_of_part}
use Rattle.plan_package.specs.{PlanWhole.places_in, PlanWhole.MayBeWhole, WholeWorlds.world_in_part, WholeWorlds.worlds_in}
use Rattle.plan_package.specs.Views.{views_of_members, whole_view}
use Rattle.read_parts.specs.Input.{IsFollowed}
use Rattle.plan_build.proofs.BuildableLaws.{plans_are_buildable}
use Rattle.comp_meaning.specs.Follow as follow
use Rattle.comp_meaning.specs.Reads as reads
use Rattle.read_exports.specs.declared.members.Part.TheVariants as parts
use Rattle.plan_meaning.specs.NumberedMembers as members

-- ---- interfaces without imports

-- what stands at the top as an interface, of which nothing is imported, declares no names, has none of its own, and is known
pub declares_none : (t : Tables) (a : Part) (p : ℕ) (v : NumberedView) → numbered_part a ≡ interface p v [] → PartDeclaresNames t a
declares_none t x p v e = search std_rules

abbrev pub one_world : Bor (List ℕ) → ℕ → Scope → Member
one_world label n w = record { label = label; package_number = n; part = parts.World w }

-- an interface without imports is no world
no_worlds : (label : Text) (a : Part) (p : ℕ) (v : NumberedView) → numbered_part a ≡ interface p v [] → world_in_part label a ≡ []
no_worlds label x p v e = search std_rules

-- ---- the tree of a world

-- the one member is a world, which is meant as this scope
pub record IsOneTree (t : Tables) (h : Homes) (label : Text) (n : ℕ) (w : NumberedScope) (members : List reads.Member) : Type 0 where
  pub identity : PackageIdentity
  pub scope : follow.Scope
  pub is : members ≡ record { label = label; package_ = identity; part = reads.Part.world scope } ∷ []
  pub there : slice_get h.packages n ≡ Some identity
  pub shows : Shows t w scope

module _ (pieces : List Piece) (x : Followed) (facts : List KeptFact) (h : Homes) (label : Bor (List ℕ)) (n : ℕ) (w : Scope) (given : IsReadWorld pieces x (tables_of x) facts h (one_world label n w) w) where
  abbrev t : Tables
  t = tables_of x

  abbrev known : ℕ → Fact
  known = known_by facts

  abbrev W : NumberedScope
  W = numbered_scope w

  abbrev m : Member
  m = one_world label n w

  pub read : (members : List reads.Member) × IsReadInput pieces x h (m ∷ []) members
  read = read_members_are_input pieces x given.followed facts given.known h given.stand (m ∷ []) given.read

  abbrev pub read_members : List reads.Member
  read_members = read.0

  pub input : IsReadInput pieces x h (m ∷ []) read_members
  input = read.1

  pub tree : IsOneTree t h label.now n W read_members
  tree = search std_rules

  -- ---- what the sections mean

  decided : IsWorldDecided pieces t h known (numbered_member m) W
  decided = worlds_are_decided pieces x given.followed facts given.known h given.stand (map lent_member (m ∷ [])) given.read

  found : world_of_pieces pieces ≡ world_of_members read_members
  found = by_members pieces ∙ ap (λ o. o >>= world_of_members) input.reads

  pub world_means : world_of_pieces pieces ≡ world_with tree.identity label.now tree.scope
  world_means = found ∙ ap world_of_members tree.is

  meaning : world_of_members read_members ≡ Some (world_shown decided.identity label.now decided.scope)
  meaning = sym found ∙ (decided.decided ∙ ap (λ b. provided b (world_shown decided.identity label.now decided.scope)) given.obeys)

  pub world_found : (meant : WorldPackage) × (world_of_pieces pieces ≡ Some meant)
  world_found = (world_shown decided.identity label.now decided.scope, found ∙ meaning)

  -- ---- the world alone

  abbrev one : reads.Member
  one = record { label = label.now; package_ = tree.identity; part = reads.Part.world tree.scope }

  one_has_kinds : NamesHaveKinds (one ∷ [])
  one_has_kinds = subst NamesHaveKinds tree.is (worlds_have_kinds read_members (world_shown decided.identity label.now decided.scope) (members_stand pieces x h (m ∷ []) read_members input) meaning)

  -- ---- beside the interfaces of its package

  module _ (own : List Member) (are : AreBeside t h m w own) where
    abbrev nms : List NumberedMember
    nms = numbered_members own

    pub views_obey : ViewsObey t known (m ∷ [])
    views_obey = search (std_rules, agree, append-nil, interfaces)

    base : IsInput t h (m ∷ []) read_members
    base = read_is_input pieces x h (m ∷ []) read_members input known views_obey

    abbrev pub all_trees : List reads.Member
    all_trees = one ∷ map (own_tree t tree.identity) nms

    -- a property of the world and of the interfaces of which nothing is imported
    own_part : (P : NumberedPart → Type 0) → ((k : NumberedMember) → Contains nms k → (p : ℕ) (v : NumberedView) → k.part ≡ interface p v [] → P (interface p v []))
        → AllByRecursion (λ (k : NumberedMember). P k.part) nms
    own_part P each = all_of (λ (k : NumberedMember). P k.part) nms (λ k c. let is = own_at t h n W nms are k c in subst P (sym is.part) (each k c is.place is.view is.part))

    numbers : AllByRecursion (λ (k : NumberedMember). IsPartIn t k.part) nms
    numbers = all_of (λ (k : NumberedMember). IsPartIn t k.part) nms (λ k c.
        let is = own_at t h n W nms are k c in
        subst (IsPartIn t) (sym is.part) ((is.path, all_at _ _ base.numbers.0.instances (record { place = is.place; view = is.view }) is.among), tt))

    -- a property of each part that is an interface of which nothing is imported
    each_own : (P : Part → Type 0) → ((a : Part) (p : ℕ) (v : NumberedView) → numbered_part a ≡ interface p v [] → P a) → AllByRecursion (λ (k : Member). P k.part) own
    each_own P each = all_of (λ (k : Member). P k.part) own (λ k c. let is = own_at t h n W nms are (numbered_member k) (contains-map numbered_member own k c) in each k.part is.place is.view is.part)

    whole_input : IsInput t h (m ∷ own) all_trees
    whole_input = record {
      tables = base.tables;
      homes = given.stand;
      shown = (record { label = refl; package_ = tree.there; part = tree.shows }, own_members t base.tables h given.stand n tree.identity tree.there W nms are);
      stand = world_members_stand t base.tables h given.stand n tree.identity tree.there W nms are label.now tree.scope tree.shows
          (subst (AllByRecursion MemberStands) tree.is (members_stand pieces x h (m ∷ []) read_members input)).0;
      numbers = (base.numbers.0, numbers);
      declared = (base.declared.0, each_own (PartDeclaresNames t) (declares_none t));
    }

    -- ---- places of its own

    no_places : (ks : List NumberedMember) → ((k : NumberedMember) → Contains ks k → Contains nms k) → flat_map (λ (k : NumberedMember). places_of_part k.part) ks ≡ []
    no_places [] within = refl
    no_places (k ∷ ks) within = ap (λ (a : NumberedPart). places_of_part a ++ flat_map (λ (y : NumberedMember). places_of_part y.part) ks)
        (own_at t h n W nms are k (within k (0, omega arith, refl))).part ∙ no_places ks (λ y at. within y (suc at.0, (let low = at.1 in omega (arith, low)), at.2))

    placed : ArePlaced t (m ∷ own)
    placed =
        let base_placed = read_places_are_apart pieces x h (m ∷ []) read_members input known views_obey in
        record {
          names = (base_placed.names.0, each_own (PartNames t) (λ x p v e. search std_rules));
          apart = ap (λ (ps : List ℕ). are_once (filter (has_no_path t) (places_of_part (world W) ++ ps))) (no_places nms (λ k c. c)) ∙ base_placed.apart;
        }

    -- ---- what is known

    pub packaged : IsPackageInput t h known n (m ∷ own) all_trees
    packaged = record {
      input = whole_input;
      alone = alone given.homes.0 t.paths h.homes given.homes.1;
      kinds = world_names_have_kinds t base.tables h given.stand n tree.identity tree.there W nms are label.now tree.scope tree.shows one_has_kinds;
      placed = placed;
      lengths = lengths_fit pieces x h (m ∷ []) read_members input;
      sights = all_of (IsKnownSight t known) (sights_of_members t (numbered_members (m ∷ own)))
          (λ s c. (all_at _ _ (sights_known pieces x h (m ∷ []) read_members input facts given.known) s (Contains-append_left _ _ s (sight_among t h n W nms are label.now s c))));
      scopes = ((parts_known pieces x h (m ∷ []) read_members input facts given.known).0, own_part (PartIsKnown t known) (λ k c p v e. tt));
      obeys = obeys_package t h known n label.now W given.obeys nms are;
    }

    -- ---- where packages are from

    sources : (c : ℕ) → IsOfMember (m ∷ []) c ⊎ HasPlace h.homes c → IsOfMember (m ∷ own) c ⊎ HasPlace h.homes c
    sources c x = search std_rules

    -- ---- labels

    tables : AreTables t
    tables = packaged.input.tables

    labels : LabelsStand (m ∷ own)
    labels = record {
      labels = (
        (read_labels_stand pieces x h (m ∷ []) read_members input).labels.0,
        all_of (λ (k : Member). is_label k.label.now ≡ true) own (λ k c. own_label t tables h given.stand n W nms are (numbered_member k) (contains-map numbered_member own k c)),
      );
      apart = ap (λ (ls : List Text). distinct (label.now ∷ ls)) (sym (map_of_map (λ (k : NumberedMember). k.label) numbered_member own))
          ∙ labels_differ t tables h given.stand n W nms are known label.now given.obeys;
    }

    -- ---- the order

    rise : FirstsRise t (m ∷ own)
    rise q s e =
        let first = first_is q (views_of_members (numbered_members (m ∷ own))) s e in
        subst (λ (p : ℕ). IsRisingView t p s.view) first.1 (view_rises pieces x h (m ∷ []) read_members input known
        views_obey s (Contains-append_left (map whole_view W.instances) [] s (view_among t h n W nms are label.now s first.0)))

    -- ---- worlds and places

    none_of : (ks : List Member) → ((k : Member) → Contains ks k → Contains own k) → worlds_in ks ≡ []
    none_of [] within = refl
    none_of (k ∷ ks) within =
        let is = own_at t h n W nms are (numbered_member k) (contains-map numbered_member own k (within k (0, omega arith, refl))) in
        ap (λ (ws : List (Text × Scope)). ws ++ worlds_in ks) (no_worlds k.label.now k.part is.place is.view is.part) ∙ none_of ks (λ y c. within y (contains-later k ks y c))

    followed : WorldsAreFollowed t (m ∷ own)
    followed =
        let one = read_worlds_are_followed pieces x h (m ∷ []) read_members input in
        (one.0, subst (AllByRecursion (λ (y : Text × Scope). WorldIsFollowed t (numbered_scope y.1))) (sym (none_of own (λ k c. c))) tt)

    met : (q : ℕ) → HasPath t q → Contains (places_in (m ∷ own)) q
    met q path = all_joined [] (flat_map (λ (k : NumberedMember). met_of_part k.part) (numbered_members (m ∷ own))) q
        (inr (by (from_joined [] (flat_map (λ (k : NumberedMember). met_of_part k.part) (numbered_members (m ∷ []))) q (read_places_are_met pieces x h (m ∷ []) read_members input q path))))
      where
        world_places : List ℕ
        world_places = met_of_part (world W)

        front : Contains world_places q → Contains (world_places ++ flat_map (λ (k : NumberedMember). met_of_part k.part) nms) q
        front c = Contains-append_left world_places (flat_map (λ (k : NumberedMember). met_of_part k.part) nms) q c

        by : Contains [] q ⊎ Contains (world_places ++ []) q → Contains (world_places ++ flat_map (λ (k : NumberedMember). met_of_part k.part) nms) q
        by (inl none) = none-in q none
        by (inr c) = elim (Contains-append_cases world_places [] q c) [ inl here ↦ front here | inr none ↦ none-in q none ]

    reached : AreReached t (m ∷ own)
    reached = (tt, own_part (PartIsReached t) (λ k c p v e. (refl, refl)))

    -- ---- all of it

    whole : IsWholeInput t h n (m ∷ own)
    whole = search (std_rules, tree, sources, labels, rise, followed, met, reached)

    pub is_whole : IsWholeWorld pieces t facts h m own
    unfolding whole
    is_whole = record {
      members = all_trees;
      input = packaged;
      whole = whole;
      planned = whole_may_be_planned t h known n (m ∷ own) all_trees packaged (tt, own_part PartIsBare (λ k c p v e. tt));
      scope = tree.scope;
      world = record { world = w; is = refl; own_ = are; obeys = given.obeys; shows = tree.shows };
      means = world_means;
      meaning = world_found.0;
      found = world_found.1;
    }

-- ---- laws

-- over what was followed, where the part is the world
by_part : (pieces : List Piece) (x : Followed) (facts : List KeptFact) (h : Homes) (label : Bor (List ℕ)) (n : ℕ) (a : Part) (w : Scope) → a ≡ parts.World w
    → IsReadWorld pieces x (tables_of x) facts h (record { label = label; package_number = n; part = a }) w → (own : List Member)
    → AreBeside (tables_of x) h (record { label = label; package_number = n; part = a }) w own → IsWholeWorld pieces (tables_of x) facts h (record { label = label; package_number = n; part = a }) own
by_part pieces x facts h label n a w e given own are = search (std_rules, is_whole)

pub read_world_is_whole : ReadWorldIsWhole
read_world_is_whole pieces x t facts h m w given own are = search (std_rules, tables, by_part)

pub read_world_plans_are_meant : ReadWorldPlansAreMeant
read_world_plans_are_meant pieces x t facts h m w given own are p planned fits =
    let is = read_world_is_whole pieces x t facts h m w given own are in
    let plan = world_plan_is_whole t h (known_by facts) m.package_number m own is.members is.input is.whole is.scope is.world p planned fits in
    record { plan = plan.plan; means = plan.means ∙ sym is.means; meaning = is.meaning; found = is.found }

-- ---- the one member

pub not_one : (ms : List Member) → (length ms ≡ 1 → ⊥) → (t : Tables) (h : Homes) (known : ℕ → Fact) → are_one_world t h known (numbered_members ms) ≡ false
not_one [] many t h known = refl
not_one (m ∷ []) many t h known = absurd (many refl)
not_one (m ∷ n ∷ ms) many t h known = refl

pub one_of : (ms : List Member) (m : Member) → length ms ≡ 1 → Some m ≡ slice_get ms 0 → ms ≡ m ∷ []
one_of [] m many e = absurd cc
one_of (x ∷ []) m many e = let same : m ≡ x = cc in ap (λ (y : Member). y ∷ []) (sym same)
one_of (x ∷ y ∷ ms) m many e = absurd cc

module _ (t : Tables) (h : Homes) (known : ℕ → Fact) (ms : List Member) (m : Member) (one : ms ≡ m ∷ []) where
  -- an interface is no world
  pub no_interface : (p : ℕ) (v : View) (imports : Bor (List ImportedView)) → m.part ≡ parts.Interface p v imports → are_one_world t h known (numbered_members ms) ≡ false
  no_interface p v imports e = search std_rules

  -- and a world is one where it stands by itself
  pub alone_by : (w : Scope) → m.part ≡ parts.World w → (b : Bool) → members.is_one_world t h known m.package_number m.label.now (numbered_scope w) ≡ b
      → are_one_world t h known (numbered_members ms) ≡ b
  alone_by w e b is = search std_rules

-- ---- a world that stands by itself

module _ (x : Followed) (t : Tables) (facts : List KeptFact) (h : Homes) (m : Member) (w : Scope) (given : IsWorldReadOf x t facts h m w) (pieces : List Piece) (followed : IsFollowed pieces x) (own : List Member) (are : AreBeside t h m w own) where
  pub is_world : IsReadWorld pieces x t facts h m w
  is_world = search (std_rules, tables, followed, sources, read_packages_have_sources)

  pub world_may_be_whole : MayBeWhole t (m ∷ own)
  world_may_be_whole = (read_world_is_whole pieces x t facts h m w is_world own are).planned

  pub world_plans_mean : WorldPlansMean t h.packages (home_at h) m.package_number (m ∷ own) (world_of_pieces pieces)
  world_plans_mean p planned fits =
      let is = read_world_plans_are_meant pieces x t facts h m w is_world own are p planned fits in
      record { plan = is.plan; means = is.means; meaning = is.meaning; is = is.found }

  pub world_can_be_built : CanBeBuilt t h.packages (home_at h) m.package_number (m ∷ own)
  world_can_be_built p planned fits = plans_are_buildable p (world_plans_mean p planned fits).plan.plan

-- ---- members that are none

module _ (x : Followed) (t : Tables) (facts : List KeptFact) (h : Homes) (ms : List Member) (read : AreReadOf x t facts h (map lent_member ms)) (pieces : List Piece) (followed : IsFollowed pieces x) where
  part_decided : (u : Tables) (k : NumberedMember) (a : NumberedPart) → IsPartDecided pieces u h (known_by facts) k a → is_alone u h (known_by facts) k a ≡ false → world_of_pieces pieces ≡ None
  part_decided u k x d e = search std_rules

  none_decided : (u : Tables) (ks : List NumberedMember) → AreWorldDecided pieces u h (known_by facts) ks → are_one_world u h (known_by facts) ks ≡ false → world_of_pieces pieces ≡ None
  none_decided u x d e = search std_rules

  pub no_world : are_one_world t h (known_by facts) (numbered_members ms) ≡ false → world_of_pieces pieces ≡ None
  no_world none =
      let decided = worlds_are_decided pieces x followed facts read.known h (subst (λ (u : Tables). HomesStand u h) read.tables read.stand) (map lent_member ms)
      (subst (λ (u : Tables). AreRead u (known_by facts) h x.members.items (map lent_member ms)) read.tables read.read) in
      none_decided (tables_of x) (numbered_members ms) (subst (AreWorldDecided pieces (tables_of x) h (known_by facts)) (map_of_map (λ (m : NumberedMember × List (Option ℕ)). m.0) lent_member ms)
      decided) (subst (λ (u : Tables). are_one_world u h (known_by facts) (numbered_members ms) ≡ false) read.tables none)

  -- the world that they are was read so
  pub world_read : (m : Member) (w : Scope) → IsAlone t h (known_by facts) ms m w → IsWorldReadOf x t facts h m w
  world_read m w is = record { read = subst (λ (ks : List Member). AreReadOf x t facts h (map lent_member ks)) is.one read; is = is.is; obeys = is.obeys }
