-- What was followed is the input of the laws of whole plans: each world and each inline interface has a place of its own, and views stand in the order of the table.
use Rattle.std.proofs.Common.{rules as std_rules, ◌≡◌, refl, sym, ap, subst, ◌∙◌, ℕ, arith, true, false, List, [], ◌∷◌, ◌++◌, map, Option, Some, slice_get, zero, suc, ◌+◌, ◌⊎◌, inl, inr, Bool, filter, if◌then◌else◌, length, length-append, None, is_none}
use Rattle.std.proofs.lemmas.List.Elements.{Contains-append_left, Contains-append_right, Contains-append_cases, filter-append}
use Rattle.std.proofs.{ByRecursion.All-weaker as recursion_weaker, lemmas.Option.slice_get_within}
use Rattle.std.specs.{Borrow.Bor, List.AllByRecursion, List.Contains}
use Rattle.wit_model.proofs.Elements.{contains-get, contains-flat, none-in}
use Rattle.comp_bytes.specs.Levels.{Piece}
use Rattle.comp_meaning.specs.Rules.{distinct}
use Rattle.plan_meaning.specs.FollowedNumbers.{IsOneOf, IsPartIn, IsScopeIn, IsSeenIn, IsViewIn}
use Rattle.plan_meaning.specs.NumberedMembers.{Homes, NumberedMember, world, IsKnownSight, sights_of_members, sights_of_part}
use Rattle.plan_meaning.specs.NumberedRules.{Fact}
use Rattle.plan_meaning.specs.{NumberedViews.NumberedSight, NumberedViews.NumberedView, NumberedViews.Tables, NumberedViews.path_at, ReadInterfaces.IsNumberOf}
use Rattle.plan_meaning.specs.NumberedWorlds.{HasPath, NumberedInstance, NumberedScope, NumberedSeen, NumberedShown, place_of_key, seen_of, shown_of, are_once}
use Rattle.read_parts.specs.declared.following.Followed.{Followed}
use Rattle.read_parts.specs.Members.{scope_of}
use Rattle.read_numbers.specs.{ImportParts.IsSeenNamed, NumberedInput.tables_of, NumberedParts.instance_view, FactLaws.known_by, KnownScopes.AreKnown}
use Rattle.read_numbers.specs.PlacedNumbers.{IsPlacedItem, IsPlacedScope, scopes_in as numbered_scopes, IsInstanceAt, IsNumbered}
use Rattle.read_numbers.proofs.{ImportOrder.imports_come_last, ImportParts.imports_are_named, KnownScopes.scopes_are_known, KnownScopes.views_are_known}
use Rattle.plan_type_laws.proofs.{MembersStand.members_stand_together, Walks.all_unmapped, Walks.all_flat}
use Rattle.read_exports.specs.Members.{numbered_member, numbered_members, numbered_part}
use Rattle.read_exports.specs.declared.members.{Member.Member, Part.Part}
use Rattle.read_rules.specs.{Reached.numbered_import, Scopes.numbered_scope, Views.numbered_view}
use Rattle.read_rules.specs.declared.{reached.ImportedView.ImportedView, scopes.Scope.Scope, scopes.Seen.Seen, scopes.Shown.Shown, tables.Fact.Fact as KeptFact}
use Rattle.read_rules.specs.declared.views.View.{View}
use Rattle.plan_package.specs.Views.{types_alone, views_of_part, views_of_members}
use Rattle.plan_laws.specs.{ShownNames.DeclaresName, ShownNames.IsInput, ShownNames.PartDeclaresNames, FirstViews.IsRisingView, Whole.PartIsKnown}
use Rattle.plan_laws.specs.Apart.{FirstsRise}
use Rattle.plan_laws.proofs.{Sources.all_given, Sources.all_of, MetNames.flat_cases, ViewsAgree.first_is}
use Rattle.plan_laws.proofs.OwnPlaces.{AreDifferent, both_ways, inline_places, inlines, kept_nones, no_path, nones, seen_nones}
use Rattle.comp_read.specs.ReadInput.{IsReadInput, ViewsObey}
use Rattle.comp_read.proofs.Members.{IsBoth, IsWorldRead, both_at, instance_shown, interface_path, members_stand, instance_of_view, scope_at, scope_in, scope_placed, tables, world_read, world_scope, numbered_at, placed, seen_at, IsInstance, IsNumberedAt}
use Rattle.comp_read.proofs.{Members.all_met, Members.function_in, Members.instance_in, Members.instance_placed, Members.instance_rises, InterfaceViews.IsSeen}
use Rattle.comp_read.proofs.Lists.{all_different, filter_flat, once_owned}
use Rattle.base_lemmas.proofs.{Bools.third_of, Lists.map_of_map, Lists.within_there as slice_there, Lists.length_of_map}
use Rattle.base_lemmas.proofs.Elements.{all_at, contains-map, contains-one, get-contains, map_from as from_map, filter_keeps as in_filter, filter_kept as filter_from, last_of as one-contained, zip-kept}
use Rattle.wit_model.specs.Text.{Text}
use Rattle.read_shown.specs.Instances.{instances_in}
use Rattle.plan_type_laws.specs.ShownMarks.{ArePlaced, NamesSeen, PartNames, has_no_path, own_places, places_of_part, places_of_seen, places_of_shown}
use Rattle.comp_meaning.specs.Follow as follow
use Rattle.comp_meaning.specs.Reads as reads
use Rattle.read_shown.specs.Scopes as scopes
use Rattle.plan_meaning.specs.NumberedWorlds as worlds
use Rattle.read_exports.specs.declared.members.Part.TheVariants as parts
use Rattle.read_rules.specs.declared.scopes.Shown.TheVariants as shown

pub no_place : (o : Option Text) → is_none o ≡ true → o ≡ None
no_place x e = search std_rules

module _ (t : Tables) where
  -- instances without a path, whose places differ
  pub places_differ : (is : List NumberedInstance) → ((j k : ℕ) (i l : NumberedInstance) → slice_get is j ≡ Some i → slice_get is k ≡ Some l → path_at t i.place ≡ None → i.place ≡ l.place → j ≡ k)
      → AreDifferent (map (λ (i : NumberedInstance). i.place) (filter (no_path t) is))
  places_differ [] apart = tt
  places_differ (i ∷ is) apart = by (no_path t i) refl (places_differ is (λ j k a b e f none same. let one = apart (suc j) (suc k) a b e f none same in omega (arith, one)))
    where
      new : no_path t i ≡ true → Contains (map (λ (z : NumberedInstance). z.place) (filter (no_path t) is)) i.place → ⊥
      new e c =
          let from = from_map (λ (z : NumberedInstance). z.place) (filter (no_path t) is) i.place c in
          let there = contains-get is from.0 (filter_from (no_path t) is from.0 from.1).0 in
          omega (arith, apart 0 (suc there.0) i from.0 refl there.1 (no_place (path_at t i.place) e) (sym from.2))

      by : (b : Bool) → no_path t i ≡ b → AreDifferent (map (λ (z : NumberedInstance). z.place) (filter (no_path t) is))
          → AreDifferent (map (λ (z : NumberedInstance). z.place) (if b then i ∷ filter (no_path t) is else filter (no_path t) is))
      by true e rest = (new e, rest)
      by false e rest = rest

  -- the same names
  same_names : (home : ℕ) (c : Seen) → DeclaresName t home c → NamesSeen t home c
  same_names home c = search std_rules

  part_names : (a : Part) → PartDeclaresNames t a → PartNames t a
  part_names x is = search std_rules

module _ (pieces : List Piece) (x : Followed) (h : Homes) (ms : List Member) (members : List reads.Member) (input : IsReadInput pieces x h ms members) where
  abbrev t : Tables
  t = tables_of x

  abbrev ws : List NumberedScope
  ws = numbered_scopes x

  -- ---- what worlds obey

  abbrev HasNoType : NumberedSeen → Type 0
  HasNoType s = scopes.is_type (shown_of t s.shown) ≡ false

  module _ (w : Scope) (read : IsWorldRead pieces x h ms members input w) where
    -- no two imports have one key
    pub keys_differ : distinct (map (λ (s : NumberedSeen). s.key) (numbered_scope w).imports) ≡ true
    keys_differ = search (std_rules, map_of_map, third_of)

    -- no type is exported
    no_types : AllByRecursion HasNoType (numbered_scope w).exports
    no_types = all_unmapped (λ (s : follow.Seen). scopes.is_type s.shown ≡ false) (seen_of t) (numbered_scope w).exports
        (subst (AllByRecursion (λ (s : follow.Seen). scopes.is_type s.shown ≡ false)) read.shows.exports
        (all_given (λ (s : follow.Seen). scopes.is_type s.shown ≡ false) read.scope.exports (λ n s e. read.stands.stands.no_types n s e)))

  -- ---- names of imports

  names_are : (home : ℕ) (c : Seen) → IsSeenNamed t home c → DeclaresName t home c
  names_are home c named = by c.key c.external_id c.shown named
    where
      by : (key : Bor (List ℕ)) (id : Option (Bor (List ℕ))) (s : Shown) → IsSeenNamed t home (record { key = key; shown = s; external_id = id })
          → DeclaresName t home (record { key = key; shown = s; external_id = id })
      by key id (shown.Instance k v) name = tt
      by key id (shown.Function n) name = tt
      by key id (shown.Declares part d) name = let is = name part refl in (is.number, is.is, is.shape)

  part_named : (m : ℕ) (member : Member) → IsBoth pieces x h ms members input m member → PartDeclaresNames t member.part
  part_named m member b = by member.part refl
    where
      by : (a : Part) → member.part ≡ a → PartDeclaresNames t a
      by (parts.World w) e =
          let scope = world_scope pieces x h ms members input m member b w e in
          recursion_weaker (IsSeenNamed t w.home) (DeclaresName t w.home) (names_are w.home) w.imports.now
          (subst (λ q. AllByRecursion (IsSeenNamed t q) w.imports.now) (ap (λ (z : NumberedScope). z.home) (sym scope.shows))
          (imports_are_named pieces x input.followed m b.one b.there (map instance_view (scope_of b.one.part).instances.items) w.imports.now (ap (λ (z : NumberedScope). z.imports) scope.shows)
          scope.imports))
      by (parts.Interface p v imports) e = tt

  pub read_members_are_named : AllByRecursion (λ (m : Member). PartDeclaresNames t m.part) ms
  read_members_are_named = all_given (λ (m : Member). PartDeclaresNames t m.part) ms (λ m member e. part_named m member (both_at pieces x h ms members input m member e))

  -- ---- names of all parts

  module _ (known : ℕ → Fact) (obey : ViewsObey t known ms) where
    -- a scope whose imports have different keys, and which exports no type
    module _ (m : ℕ) (w : NumberedScope) (at : slice_get ws m ≡ Some w) (good : IsPlacedScope t w)
        (keys : distinct (map (λ (s : NumberedSeen). s.key) w.imports) ≡ true) (none : AllByRecursion HasNoType w.exports) where
      viewed_in : (i : NumberedInstance) → Contains w.instances i → IsViewIn t i.place i.view
      viewed_in i c = let there = contains-get w.instances i c in instance_in pieces x h ms members input known obey m there.0 i (record { scope = w; at = at; instance_at = there.1 })

      import_in : (j : ℕ) (s : NumberedSeen) → slice_get w.imports j ≡ Some s → IsSeenIn t w.home s
      import_in j s e = by s.shown refl (all_at _ _ good.imports s among) (all_at _ _ good.imported s among)
        where
          among : Contains w.imports s
          among = get-contains w.imports j s e

          by : (y : NumberedShown) → s.shown ≡ y → IsPlacedItem t w.home y → IsOneOf t w.instances y → IsSeenIn t w.home (record { key = s.key; shown = y; external_id = s.external_id })
          by (worlds.instance key v) same item one = (item.0, viewed_in (record { place = place_of_key key; view = v }) one)
          by (worlds.function n) same item one = function_in t (tables pieces x h ms members input) w.home n item
          by (worlds.declares d) same item one =
              let count = slice_there good.counts j (omega (arith, slice_get_within w.imports j s e, good.many)) in
              let last = imports_come_last t w good keys j count.0 s d e count.1 same in
              (last.number, record { named = last.shape; behind = last.declared; met = all_met t (tables pieces x h ms members input) w.home d item })

      export_in : (s : NumberedSeen) → Contains w.exports s → IsSeenIn t w.home s
      export_in s c = by s.shown (all_at _ _ good.exports s c) (all_at _ _ good.exported s c) (all_at _ _ none s c)
        where
          by : (y : NumberedShown) → IsPlacedItem t w.home y → IsOneOf t w.instances y → scopes.is_type (shown_of t y) ≡ false
              → IsSeenIn t w.home (record { key = s.key; shown = y; external_id = s.external_id })
          by (worlds.instance key v) item one free = (item.0, viewed_in (record { place = place_of_key key; view = v }) one)
          by (worlds.function n) item one free = function_in t (tables pieces x h ms members input) w.home n item
          by (worlds.declares d) item one free = let wrong : true ≡ false = free in absurd cc

      scope_is_in : IsScopeIn t w
      scope_is_in = search (std_rules, all_given, import_in, all_of, export_in, viewed_in)

    module _ (m : ℕ) (member : Member) (b : IsBoth pieces x h ms members input m member) where
      pub world_in : (w : Scope) → member.part ≡ parts.World w → IsScopeIn t (numbered_scope w)
      world_in w e =
          let read = world_read pieces x h ms members input member (get-contains ms m member b.at) w e in
          let same : scope_in pieces x h ms members input b.one ≡ numbered_scope w = sym (world_scope pieces x h ms members input m member b w e).shows in
          scope_is_in m (numbered_scope w) (scope_at pieces x h ms members input m member b ∙ ap Some same) (subst (IsPlacedScope t) same (scope_placed pieces x h ms members input m member b))
          (keys_differ w read) (no_types w read)

      view_in : (s : NumberedSight) → Contains (views_of_part (numbered_part member.part)) s → IsViewIn t s.place s.view
      view_in s c =
          let i = instance_of_view pieces x h ms members input m member b s c in
          instance_in pieces x h ms members input known obey m i.number (instance_shown s) i.at

      interface_in : (p : ℕ) (v : View) (imports : Bor (List ImportedView)) → member.part ≡ parts.Interface p v imports → IsPartIn t (numbered_part (parts.Interface p v imports))
      interface_in p v imports e = (
        view own (Contains-append_right (map types_alone (map numbered_import imports.now)) (own ∷ []) own (contains-one own)),
        all_of (λ (i : ℕ × NumberedView). HasPath t i.0 × IsViewIn t i.0 i.1) (map numbered_import imports.now)
            (λ i c. view (types_alone i) (Contains-append_left (map types_alone (map numbered_import imports.now)) (own ∷ []) (types_alone i)
            (contains-map types_alone (map numbered_import imports.now) i c))),
      )
        where
          own : NumberedSight
          own = record { place = p; view = numbered_view v; whole = true }

          view : (s : NumberedSight) → Contains (map types_alone (map numbered_import imports.now) ++ own ∷ []) s → HasPath t s.place × IsViewIn t s.place s.view
          view s c =
              let there : Contains (views_of_part (numbered_part member.part)) s = subst (λ (a : Part). Contains (views_of_part (numbered_part a)) s) (sym e) c in
              (interface_path pieces x h ms members input m member b p (numbered_view v) (map numbered_import imports.now) (ap numbered_part e) s there, view_in s there)

      part_in : IsPartIn t (numbered_part member.part)
      part_in = by member.part refl
        where
          by : (a : Part) → member.part ≡ a → IsPartIn t (numbered_part a)
          by (parts.World w) e = world_in w e
          by (parts.Interface p v imports) e = interface_in p v imports e

    pub read_members_are_in : AllByRecursion (λ (m : NumberedMember). IsPartIn t m.part) (numbered_members ms)
    read_members_are_in = all_of (λ (m : NumberedMember). IsPartIn t m.part) (numbered_members ms) (λ y c.
        let from = from_map numbered_member ms y c in
        let there = contains-get ms from.0 from.1 in
        subst (λ (m : NumberedMember). IsPartIn t m.part) from.2 (part_in there.0 from.0 (both_at pieces x h ms members input there.0 from.0 there.1)))

    pub read_is_input : IsInput t h ms members
    read_is_input = search (std_rules, tables, members_stand_together, members_stand, read_members_are_in, read_members_are_named)

  -- the scope of a world
  pub world_at : (m : ℕ) (member : Member) → IsBoth pieces x h ms members input m member → (w : Scope) → member.part ≡ parts.World w → slice_get ws m ≡ Some (numbered_scope w)
  world_at m member b w e = scope_at pieces x h ms members input m member b ∙ ap Some (sym (world_scope pieces x h ms members input m member b w e).shows)

  -- ---- places

  -- an instance of the scope of this number has the place
  pub record HasInstance (m q : ℕ) : Type 0 where
    pub number : ℕ
    pub one : NumberedInstance
    pub at : IsInstanceAt ws m number one
    pub place : one.place ≡ q

  -- what has the place: the world of this number, or an instance of it
  data Owns (m q : ℕ) : Type 0 where
    a_home : (w : NumberedScope) → slice_get ws m ≡ Some w → w.home ≡ q → Owns m q
    an_instance : HasInstance m q → Owns m q

  home_instance : (m n : ℕ) (w : NumberedScope) (q : ℕ) → path_at t q ≡ None → slice_get ws n ≡ Some w → w.home ≡ q → HasInstance m q → ⊥
  home_instance m n w q none there e i = (placed pieces x h ms members input).not_home m n i.number i.one w i.at there (ap (path_at t) i.place ∙ none) (i.place ∙ sym e)

  one_owner : (m n q : ℕ) → path_at t q ≡ None → Owns m q → Owns n q → m ≡ n
  one_owner m n q none (a_home w at e) (a_home v there f) = (placed pieces x h ms members input).homes m n w v at there (e ∙ sym f)
  one_owner m n q none (a_home w at e) (an_instance i) = absurd (home_instance n m w q none at e i)
  one_owner m n q none (an_instance i) (a_home w there f) = absurd (home_instance m n w q none there f i)
  one_owner m n q none (an_instance i) (an_instance l) = ((placed pieces x h ms members input).inline m n i.number l.number i.one l.one i.at l.at (ap (path_at t) i.place ∙ none)
      (i.place ∙ sym l.place)).0

  module _ (known : ℕ → Fact) (obey : ViewsObey (tables_of x) known ms) where
    -- one world
    module _ (m : ℕ) (member : Member) (b : IsBoth pieces x h ms members input m member) (w : Scope) (is : member.part ≡ parts.World w) where
      abbrev W : NumberedScope
      W = numbered_scope w

      abbrev P : List ℕ
      P = places_of_seen W.imports ++ places_of_seen W.exports

      abbrev without : List ℕ
      without = filter (has_no_path t) P

      here : slice_get ws m ≡ Some W
      here = world_at m member b w is

      same : scope_in pieces x h ms members input b.one ≡ W
      same = sym (world_scope pieces x h ms members input m member b w is).shows

      read : IsWorldRead pieces x h ms members input w
      read = world_read pieces x h ms members input member (get-contains ms m member b.at) w is

      good : IsScopeIn t W
      good = world_in known obey m member b w is

      -- the place of an import or an export is that of an instance
      seen_owns : (ss : List NumberedSeen) → AllByRecursion (λ (s : NumberedSeen). IsOneOf t W.instances s.shown) ss → (q : ℕ) → Contains (places_of_seen ss) q → HasInstance m q
      seen_owns ss one q c =
          let from = flat_cases (λ (s : NumberedSeen). places_of_shown s.shown) ss q c in
          by from.0.shown (all_at (λ (s : NumberedSeen). IsOneOf t W.instances s.shown) ss one from.0 from.1) from.2
        where
          by : (s : NumberedShown) → IsOneOf t W.instances s → Contains (places_of_shown s) q → HasInstance m q
          by (worlds.instance key v) there among =
              let at = contains-get W.instances (record { place = place_of_key key; view = v }) there in
              record { number = at.0; one = record { place = place_of_key key; view = v }; at = record { scope = W; at = here; instance_at = at.1 }; place = one-contained (place_of_key key) q among }
          by (worlds.function n) there among = none-in q among
          by (worlds.declares d) there among = none-in q among

      places_own : (q : ℕ) → Contains P q → HasInstance m q
      places_own q c = by (Contains-append_cases (places_of_seen W.imports) (places_of_seen W.exports) q c)
        where
          by : Contains (places_of_seen W.imports) q ⊎ Contains (places_of_seen W.exports) q → HasInstance m q
          by (inl among) = seen_owns W.imports good.imported q among
          by (inr among) = seen_owns W.exports good.exported q among

      -- each instance without a path is imported or exported
      all_seen : (q : ℕ) → Contains (map (λ (i : NumberedInstance). i.place) (filter (no_path t) W.instances)) q → Contains without q
      all_seen q c =
          let from = from_map (λ (i : NumberedInstance). i.place) (filter (no_path t) W.instances) q c in
          let kept = filter_from (no_path t) W.instances from.0 from.1 in
          let at = contains-get W.instances from.0 kept.0 in
          let seen = seen_at pieces x h ms members input m member b at.0 from.0 (ap (λ (z : NumberedScope). slice_get z.instances at.0) same ∙ at.1) in
          subst (Contains without) from.2 (in_filter (has_no_path t) P from.0.place (of_seen from.0 (subst (λ (z : NumberedScope). IsSeen z from.0) same seen)) kept.1)
        where
          place_there : (i : NumberedInstance) (ss : List NumberedSeen) (s : NumberedSeen) → Contains ss s → (key : worlds.NumberedKey) → s.shown ≡ worlds.instance key i.view
              → place_of_key key ≡ i.place → Contains (places_of_seen ss) i.place
          place_there i ss s among key e place = contains-flat (λ (y : NumberedSeen). places_of_shown y.shown) ss s i.place among
              (subst (λ (y : NumberedShown). Contains (places_of_shown y) i.place) (sym e) (subst (λ z. Contains (z ∷ []) i.place) (sym place) (contains-one i.place)))

          of_seen : (i : NumberedInstance) → IsSeen W i → Contains P i.place
          of_seen i seen = by seen.among
            where
              by : Contains W.imports seen.seen ⊎ Contains W.exports seen.seen → Contains P i.place
              by (inl among) = Contains-append_left (places_of_seen W.imports) (places_of_seen W.exports) i.place (place_there i W.imports seen.seen among seen.is.key seen.is.shown seen.is.place)
              by (inr among) = Contains-append_right (places_of_seen W.imports) (places_of_seen W.exports) i.place (place_there i W.exports seen.seen among seen.is.key seen.is.shown seen.is.place)

      instances_apart : (j k : ℕ) (i l : NumberedInstance) → slice_get W.instances j ≡ Some i → slice_get W.instances k ≡ Some l → path_at t i.place ≡ None → i.place ≡ l.place → j ≡ k
      instances_apart j k i l e f none equal = ((placed pieces x h ms members input).inline m m j k i l (record { scope = W; at = here; instance_at = e })
          (record { scope = W; at = here; instance_at = f }) none equal).1

      as_many : length without ≡ length (map (λ (i : NumberedInstance). i.place) (filter (no_path t) W.instances))
      as_many = omega (
        arith,
        length_of_map (λ (i : NumberedInstance). i.place) (filter (no_path t) W.instances),
        kept_nones t W.instances,
        ap (nones t) read.shows.instances,
        ap (nones t) read.stands.seen.all,
        both_ways t read.stands.seen.seen,
        ap (nones t) read.stands.seen.imported,
        ap (nones t) read.stands.seen.exported,
        (ap (λ ss. nones t (instances_in ss)) read.shows.imports ∙ seen_nones t W.imports),
        (ap (λ ss. nones t (instances_in ss)) read.shows.exports ∙ seen_nones t W.exports),
        (ap length (sym (inline_places t W good W.imports good.imports)) ∙ length_of_map (λ (z : NumberedInstance). z.place) (inlines t W.imports)),
        (ap length (sym (inline_places t W good W.exports good.exports)) ∙ length_of_map (λ (z : NumberedInstance). z.place) (inlines t W.exports)),
        (ap length (filter-append (has_no_path t) (places_of_seen W.imports) (places_of_seen W.exports))
            ∙ length-append (filter (has_no_path t) (places_of_seen W.imports)) (filter (has_no_path t) (places_of_seen W.exports))),
      )

      without_differ : AreDifferent without
      without_differ = all_different (map (λ (i : NumberedInstance). i.place) (filter (no_path t) W.instances)) without (places_differ t W.instances instances_apart) all_seen as_many

      -- the places without a path of the world
      world_differ : AreDifferent (filter (has_no_path t) (places_of_part (world W)))
      world_differ = by (has_no_path t W.home)
        where
          by : (o : Bool) → AreDifferent (if o then W.home ∷ without else without)
          by true = ((λ c. home_instance m m W W.home good.home here refl (places_own W.home (filter_from (has_no_path t) P W.home c).0)), without_differ)
          by false = without_differ

      world_owns : (q : ℕ) → Contains (filter (has_no_path t) (places_of_part (world W))) q → Owns m q
      world_owns q c = by (filter_from (has_no_path t) (W.home ∷ P) q c).0
        where
          by : Contains (W.home ∷ P) q → Owns m q
          by (zero, low, e) = a_home W here e
          by (suc k, low, e) = an_instance (places_own q (k, omega (arith, low), e))

    -- ---- all worlds

    abbrev own : NumberedMember → List ℕ
    own y = filter (has_no_path t) (places_of_part y.part)

    part_differ : (m : ℕ) (member : Member) → IsBoth pieces x h ms members input m member → (a : Part) → member.part ≡ a → AreDifferent (filter (has_no_path t) (places_of_part (numbered_part a)))
    part_differ m member b (parts.World w) e = world_differ m member b w e
    part_differ m member b (parts.Interface p v imports) e = tt

    part_owns : (m : ℕ) (member : Member) → IsBoth pieces x h ms members input m member → (a : Part) → member.part ≡ a → (q : ℕ)
        → Contains (filter (has_no_path t) (places_of_part (numbered_part a))) q → Owns m q
    part_owns m member b (parts.World w) e q c = world_owns m member b w e q c
    part_owns m member b (parts.Interface p v imports) e q c = none-in q c

    owner_at : (m : ℕ) (y : NumberedMember) → slice_get (numbered_members ms) m ≡ Some y → (q : ℕ) → Contains (own y) q → Owns m q
    owner_at m y e q c = let from = numbered_at pieces x h ms members input m y e in
        part_owns m from.member from.both from.member.part refl q (subst (λ (z : NumberedMember). Contains (own z) q) (sym from.is) c)

    differ_at : (m : ℕ) (y : NumberedMember) → slice_get (numbered_members ms) m ≡ Some y → AreDifferent (own y)
    differ_at m y e = let from = numbered_at pieces x h ms members input m y e in
        subst (λ (z : NumberedMember). AreDifferent (own z)) from.is (part_differ m from.member from.both from.member.part refl)

    places_once : are_once (own_places t (numbered_members ms)) ≡ true
    places_once = ap are_once (filter_flat (has_no_path t) (λ (y : NumberedMember). places_of_part y.part) (numbered_members ms)) ∙ once_owned own (numbered_members ms) differ_at
        (λ m n y z y_at z_at q c d. one_owner m n q (no_place (path_at t q) (filter_from (has_no_path t) (places_of_part y.part) q c).1) (owner_at m y y_at q c) (owner_at n z z_at q d))

    pub read_places_are_apart : ArePlaced t ms
    read_places_are_apart = search (std_rules, recursion_weaker, part_names, read_members_are_named, places_once)

  abbrev nms : List NumberedMember
  nms = numbered_members ms

  abbrev views : List NumberedSight
  views = views_of_members nms

  among : (y : NumberedMember) → Contains nms y → (m : ℕ) × IsNumberedAt pieces x h ms members input m y
  among y c = let at = contains-get nms y c in (at.0, numbered_at pieces x h ms members input at.0 y at.1)

  pub instance_of_any : (s : NumberedSight) → Contains views s → (m : ℕ) × IsInstance pieces x h ms members input m s
  instance_of_any s c =
      let from = flat_cases (λ (y : NumberedMember). views_of_part y.part) nms s c in
      let y = among from.0 from.1 in
      (y.0, instance_of_view pieces x h ms members input y.0 y.1.member y.1.both s (subst (λ (z : NumberedMember). Contains (views_of_part z.part) s) (sym y.1.is) from.2))

  -- ---- what is known

  module _ (facts : List KeptFact) (are_known : AreKnown x facts) where
    abbrev known : ℕ → Fact
    known = known_by facts

    part_known : (m : ℕ) (member : Member) → IsBoth pieces x h ms members input m member → AllByRecursion (IsKnownSight t known) (sights_of_part t (numbered_part member.part))
        × PartIsKnown t known (numbered_part member.part)
    part_known m member b = by member.part refl
      where
        interface_known : (p : ℕ) (v : View) (imports : Bor (List ImportedView)) → member.part ≡ parts.Interface p v imports → (s : NumberedSight)
            → Contains (views_of_part (numbered_part (parts.Interface p v imports))) s → IsKnownSight t known s
        interface_known p v imports e s c =
            let there : Contains (views_of_part (numbered_part member.part)) s = subst (λ (a : Part). Contains (views_of_part (numbered_part a)) s) (sym e) c in
            let i = instance_of_view pieces x h ms members input m member b s there in
            views_are_known pieces x input.followed facts are_known s.place (interface_path pieces x h ms members input m member b p (numbered_view v) (map numbered_import imports.now)
            (ap numbered_part e) s there) s.view (instance_placed pieces x h ms members input m i.number (instance_shown s) i.at) s.whole

        by : (a : Part) → member.part ≡ a → AllByRecursion (IsKnownSight t known) (sights_of_part t (numbered_part a)) × PartIsKnown t known (numbered_part a)
        by (parts.World w) e = let found = scopes_are_known pieces x input.followed facts are_known m (numbered_scope w) (world_at m member b w e) in (found.1, found.0)
        by (parts.Interface p v imports) e = (all_of (IsKnownSight t known) (views_of_part (numbered_part (parts.Interface p v imports))) (interface_known p v imports e), tt)

    member_known : (y : NumberedMember) → Contains nms y → AllByRecursion (IsKnownSight t known) (sights_of_part t y.part) × PartIsKnown t known y.part
    member_known y c = let at = among y c in subst (λ (z : NumberedMember). AllByRecursion (IsKnownSight t known) (sights_of_part t z.part) × PartIsKnown t known z.part) at.1.is
        (part_known at.0 at.1.member at.1.both)

    pub sights_known : AllByRecursion (IsKnownSight t known) (sights_of_members t nms)
    sights_known = search (std_rules, all_flat, all_of, member_known)

    pub parts_known : AllByRecursion (λ (y : NumberedMember). PartIsKnown t known y.part) nms
    parts_known = all_of (λ (y : NumberedMember). PartIsKnown t known y.part) nms (λ y c. (member_known y c).1)

  -- ---- the order

  module _ (told : ℕ → Fact) (obey : ViewsObey t told ms) where
    pub view_rises : (s : NumberedSight) → Contains views s → IsRisingView t s.place s.view
    view_rises s c =
        let i = instance_of_any s c in
        let rising = instance_rises pieces x h ms members input told obey i.0 i.1.number (instance_shown s) i.1.at in
        record { numbers = rising.numbers; shapes = zip-kept (IsNumbered t s.place) (IsNumberOf t s.place) (λ y n is. is.1) s.view.types rising.numbers rising.named; rise = rising.rise }

    pub read_firsts_rise : FirstsRise t ms
    read_firsts_rise q s e = let first = first_is q views s e in subst (λ p. IsRisingView t p s.view) first.1 (view_rises s first.0)
