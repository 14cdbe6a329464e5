-- What is seen in the members of a package: of each interface that the package reaches, and of no other.
use Rattle.std.proofs.Common.{rules as std_rules, ◌≡◌, ◌⊎◌, inl, inr, refl, sym, subst, ap, ◌∙◌, ℕ, zero, suc, ◌<◌, Bool, true, false, ◌&&◌, List, [], ◌∷◌, ◌++◌, map, length, Option, Some, None, String, arith}
use Rattle.std.proofs.lemmas.{Bool.ltb-true, Bool.both_ways, Bool.and_from as both, Option.slice_get_within, Option.same_Some as same-some}
use Rattle.std.proofs.lemmas.List.Elements.{Contains-append_left, Contains-append_right, Contains-append_cases}
use Rattle.std.proofs.Math.Logic.{⊎_elim}
use Rattle.std.specs.declared.alloc.Global.{Global}
use Rattle.std.specs.{Prelude.is_some, Prelude.option_to_list, Prelude.filter_map, Prelude.flat_map, List.Contains, List.list_all}
use Rattle.indexmap.specs.IndexMap.{values}
use Rattle.wit_model.specs.{Text.Text, Text.text_of, Text.text_eq, Rules.each_after, Rules.used_interfaces, Rules.uses_stand_before}
use Rattle.wit_model.specs.{Names.PackageIdentity, Names.path_in, Valid.IsValid, Valid.order_of_items}
use Rattle.wit_model.specs.Lookup.{package_at, world_at, interface_at, interface_path, path_of_interface, identity_of}
use Rattle.wit_model.specs.Uses.{has, items_of, item_interface, interfaces_of_item, interfaces_of_world, shown_by, worlds_of, reached_by_package, is_shown_in, direct_deps}
use Rattle.wit_model.specs.declared.model.{Resolve.Resolve, Package.Package, InterfaceId.InterfaceId, WorldId.WorldId, WorldItem.WorldItem}
use Rattle.wit_model.specs.declared.model.World.{World}
use Rattle.wit_model.proofs.{NameLaws.spelled_path_reads, OnePath.path-once}
use Rattle.wit_model.proofs.Elements.{contains-flat, contains-filter_map, none-in, has-contains, contains-has}
use Rattle.wit_model.proofs.{TextLemmas.text_alike as text-alike, TextLemmas.text_same as text-same, ValidLemmas.world_passes as world-passes}
use Rattle.comp_meaning.specs.{Follow.View, Reads.Sight, Reads.Member, Reads.sights, Reads.is_of}
use Rattle.encode_shown.specs.Views.{ShowsInterface, ShowsImport, ShowsReached, ShowsPackage, ShowsInterfaceMember, ShowsWorldMember}
use Rattle.encode_shown.proofs.{Basics.given-by, Owning.identity, Owning.own-interface, Owning.own-path, Zips.zip-left, Zips.zip-right, Zips.given-contains}
use Rattle.encode_shown.proofs.{Used.contains-flat-from, Reach.Chain, Reach.chain-reached, Reach.holds-reached, Reach.used-chain, Reach.earlier-used}
use Rattle.encode_shown.proofs.{WorldMeans.IsWhole, WorldMeans.seen-whole, Sights.IsSight, Sights.is_seen_whole}
use Rattle.comp_meaning.proofs.SameLaws.{identities_decide}
use Rattle.base_lemmas.proofs.Bools.{left_of as first_true, right_of as second_true}
use Rattle.base_lemmas.proofs.Elements.{all-contained, any-at, any-contains, contains-map, contains-one, filter_keeps as contains-filter, filter_kept as filter-contains, last_of as one-contained, map_from as contains-mapped}

-- what stands behind others passes the test behind some of them
after-item : {A : Type 0} (q : List A → A → Bool) (before xs : List A) (x : A) → each_after q before xs ≡ true → Contains xs x → (front : List A) × (q front x ≡ true)
    × ((y : A) → Contains front y → Contains (before ++ xs) y)
after-item q before [] x h c = none-in x c
after-item q before (z ∷ xs) x h (zero, l, e) = (before, ap (q before) (sym e) ∙ first_true (q before z) _ h, λ y d. Contains-append_left before (z ∷ xs) y d)
after-item q before (z ∷ xs) x h (suc k, l, e) =
    let rest = after-item q (before ++ z ∷ []) xs x (second_true (q before z) _ h) (k, omega (arith, l), e) in
    (rest.0, rest.1, λ y d. subst (λ (ys : List _). Contains ys y) (Rattle.std.proofs.Common.append_assoc before (z ∷ []) xs) (rest.2 y d))

-- an interface item is its interface
item-is : (r : Resolve) (i : WorldItem) (m : ℕ) → item_interface i ≡ Some m → Contains (interfaces_of_item r i) m
item-is r x m e = search std_rules

-- what an item is or uses
item-from : (r : Resolve) (i : WorldItem) (m : ℕ) → Contains (interfaces_of_item r i) m → (item_interface i ≡ Some m) ⊎ Contains (used_interfaces r i) m
item-from r x m c = search std_rules

pub interface-uses : (r : Resolve) (i : WorldItem) (m k : ℕ) → item_interface i ≡ Some m → Contains (direct_deps r m) k → Contains (used_interfaces r i) k
interface-uses r x m k e c = search std_rules

-- what has a path is in range
path-within : (r : Resolve) (m : ℕ) (path : Text) → interface_path r m ≡ Some path → m < length r.interfaces.items
path-within r m path e = let i = given-by (path_of_interface r) (interface_at r m) path e in slice_get_within r.interfaces.items m i.0 i.1

module _ (r : Resolve) (v : IsValid r) where
  -- an interface that an item of a world uses is an item of the world
  world-closed : (n : ℕ) (w : World) → world_at r n ≡ Some w → (i : WorldItem) → Contains (items_of w) i → (k : ℕ) → Contains (used_interfaces r i) k
      → Contains (filter_map item_interface (items_of w)) k
  unfolding order_of_items
  world-closed n w there i c k d =
      let front = after-item (uses_stand_before r n) [] (items_of w) i (world-passes order_of_items r v.rules.order_of_items n w there) c in
      let among = has-contains _ k (all-contained (has (filter_map item_interface front.0)) (used_interfaces r i) k
      (first_true (list_all (has (filter_map item_interface front.0)) (used_interfaces r i)) _ front.1) d) in
      let given = given-contains item_interface front.0 k among in
      contains-filter_map item_interface (items_of w) given.0 k (front.2 given.0 given.1) (subst (λ (o : Option ℕ). Contains (option_to_list o) k) (sym given.2) (contains-one k))

  module _ (n : ℕ) (p : Package) (at : package_at r n ≡ Some p) (members : List Member) (shows : ShowsPackage r p members) where
    abbrev named : PackageIdentity
    named = identity_of p.name

    abbrev pub all_seen : List Sight
    all_seen = flat_map sights members

    -- ---- members

    pub interface-member : (e : String Global × InterfaceId) → Contains p.interfaces.entries e → (m : Member) × Contains members m × ShowsInterfaceMember r named e m
    interface-member e c =
        let found = zip-right (ShowsInterfaceMember r named) p.interfaces.entries shows.interface_members e shows.interfaces c in
        (found.0, subst (λ (ms : List Member). Contains ms found.0) (sym shows.are) (Contains-append_left shows.interface_members shows.world_members found.0 found.1), found.2)

    pub world-member : (e : String Global × WorldId) → Contains p.worlds.entries e → (m : Member) × Contains members m × ShowsWorldMember r named e m
    world-member e c =
        let found = zip-right (ShowsWorldMember r named) p.worlds.entries shows.world_members e shows.worlds c in
        (found.0, subst (λ (ms : List Member). Contains ms found.0) (sym shows.are) (Contains-append_right shows.interface_members shows.world_members found.0 found.1), found.2)

    in-members : (m : Member) (s : Sight) → Contains members m → Contains (sights m) s → Contains all_seen s
    in-members m s c d = contains-flat sights members m s c d

    -- a member of an interface, and of a world
    record InterfaceMember : Type 0 where
      pub entry : String Global × InterfaceId
      pub listed : Contains p.interfaces.entries entry
      pub member : Member
      pub there : Contains members member
      pub shown : ShowsInterfaceMember r named entry member

    record WorldMember : Type 0 where
      pub entry : String Global × WorldId
      pub member : Member
      pub there : Contains members member
      pub shown : ShowsWorldMember r named entry member

    world-shown : (w : World) → Contains (worlds_of r p) w → (m : WorldMember) × (m.shown.world ≡ w)
    world-shown w c =
        let given = given-contains (λ (id : WorldId). world_at r id.0) (values p.worlds) w c in
        let entry = contains-mapped (λ (x : String Global × WorldId). x.1) p.worlds.entries given.0 given.1 in
        let found = world-member entry.0 entry.1 in (
          record { entry = entry.0; member = found.0; there = found.1; shown = found.2 },
          same-some found.2.world w (sym found.2.there ∙ ap (λ (id : WorldId). world_at r id.0) entry.2 ∙ given.2),
        )

    -- an interface that the world of a member shows is seen whole in the member
    whole-in : (w : WorldMember) (k : ℕ) → Contains (shown_by r w.shown.world) k → (s : Sight) × Contains all_seen s × IsWhole r v w.entry.1.0 k s
    whole-in w k c =
        let found = zip-right (IsWhole r v w.entry.1.0) (shown_by r w.shown.world) _ k (seen-whole r v w.entry.1.0 w.shown.world w.shown.there w.shown.scope w.shown.shows) c in
        (found.0, in-members w.member found.0 w.there (subst (λ (x : Member). Contains (sights x) found.0) (sym w.shown.is) found.1), found.2)

    -- ---- what is seen is reached

    abbrev starts : List ℕ
    starts = map (λ id. id.0) (values p.interfaces) ++ flat_map (interfaces_of_world r) (worlds_of r p)

    -- a sight of an interface that is reached; whole, of one of the package, or of one that a world shows
    pub record IsSeen (m : ℕ) (s : Sight) : Type 0 where
      pub is : IsSight r m s
      pub reached : Contains (reached_by_package r p) m
      pub shown : s.whole ≡ true → (is_of named s.path ≡ true) ⊎ (is_shown_in r p m ≡ true)

    own-reached : (e : String Global × InterfaceId) → Contains p.interfaces.entries e → (k m : ℕ) → Chain r k e.1.0 m → Contains (reached_by_package r p) m
    own-reached e c k m chain =
        let start = Contains-append_left (map (λ (id : InterfaceId). id.0) (values p.interfaces)) (flat_map (interfaces_of_world r) (worlds_of r p)) e.1.0
        (contains-map (λ (id : InterfaceId). id.0) (values p.interfaces) e.1 (contains-map (λ (x : String Global × InterfaceId). x.1) p.interfaces.entries e c)) in
        chain-reached r v starts e.1.0 k m start (ltb-true e.1.0 (length r.interfaces.items) (own-interface r v n p at e c).within) chain

    path-own : (e : String Global × InterfaceId) → Contains p.interfaces.entries e → is_of named (path_in named (text_of e.0)) ≡ true
    path-own e c =
        let is = own-interface r v n p at e c in
        ap read-of (spelled_path_reads named (text_of e.0) (identity r v n p at) (Rattle.encode_shown.proofs.Dependencies.own-label r v n p at e c)) ∙ (identities_decide named named).1 refl
      where
        read-of : Option (PackageIdentity × Text) → Bool
        read-of None = false
        read-of (Some q) = Rattle.comp_meaning.specs.Same.same_identity named q.0

    abbrev import_sight : Text × View → Sight
    import_sight i = record { path = i.0; view = i.1; whole = false }

    abbrev export_sight : String Global × InterfaceId → View → Sight
    export_sight e view = record { path = path_in named (text_of e.0); view = view; whole = true }

    import-seen : (k : ℕ) (i : Text × View) → ShowsImport r k i → IsSight r k (import_sight i)
    import-seen k i shown = record { has_path = shown.path; shows = shown.shows }

    export-seen : (e : String Global × InterfaceId) → Contains p.interfaces.entries e → (view : View) → ShowsInterface r e.1.0 view → IsSight r e.1.0 (export_sight e view)
    export-seen e c view shown = record { has_path = own-path r v n p at e c; shows = shown }

    interface-seen : (e : String Global × InterfaceId) → Contains p.interfaces.entries e → (imports : List (Text × View)) (exported : View) → ShowsReached r e.1.0 imports exported
        → (s : Sight) → Contains (map import_sight imports ++ export_sight e exported ∷ []) s → (m : ℕ) × IsSeen m s
    interface-seen e c imports exported reach s d = go (Contains-append_cases (map import_sight imports) (export_sight e exported ∷ []) s d)
      where
        go : Contains (map import_sight imports) s ⊎ Contains (export_sight e exported ∷ []) s → (m : ℕ) × IsSeen m s
        go (inl d) =
            let i = contains-mapped import_sight imports s d in
            let from = zip-left (ShowsImport r) reach.numbers imports i.0 reach.shown_imports i.1 in
            let chain = used-chain r reach.numbers e.1.0 reach.reached.used from.0 (Contains-append_left reach.numbers (e.1.0 ∷ []) from.0 from.1) in
            (from.0, subst (IsSeen from.0) i.2 (record { is = import-seen from.0 i.0 from.2; reached = own-reached e c chain.0 from.0 chain.1; shown = λ h. absurd cc }))
        go (inr d) = (
          e.1.0,
          subst (IsSeen e.1.0) (one-contained (export_sight e exported) s d)
              (record { is = export-seen e c exported reach.shows; reached = own-reached e c 0 e.1.0 refl; shown = λ h. inl (path-own e c) }),
        )

    world-listed : (e : String Global × WorldId) → Contains p.worlds.entries e → (w : World) → world_at r e.1.0 ≡ Some w → Contains (worlds_of r p) w
    world-listed e c w there = contains-filter_map (λ (id : WorldId). world_at r id.0) (values p.worlds) e.1 w (contains-map (λ (x : String Global × WorldId). x.1) p.worlds.entries e c)
        (subst (λ (o : Option World). Contains (option_to_list o) w) (sym there) (contains-one w))

    world-reached : (w : World) → Contains (worlds_of r p) w → (m : ℕ) (path : Text) → interface_path r m ≡ Some path → Contains (shown_by r w) m → Contains (reached_by_package r p) m
    world-reached w c m path e d =
        let given = given-contains item_interface (items_of w) m (filter-contains (λ k. is_some (interface_path r k)) (filter_map item_interface (items_of w)) m d).0 in
        let of_world = contains-flat (interfaces_of_item r) (items_of w) given.0 m given.1 (item-is r given.0 m given.2) in
        let start = Contains-append_right (map (λ (id : InterfaceId). id.0) (values p.interfaces)) (flat_map (interfaces_of_world r) (worlds_of r p)) m
        (contains-flat (interfaces_of_world r) (worlds_of r p) w m c of_world) in
        chain-reached r v starts m 0 m start (path-within r m path e) refl

    world-seen : (e : String Global × WorldId) → Contains p.worlds.entries e → (m : Member) → (shown : ShowsWorldMember r named e m) → (s : Sight) → Contains (sights m) s → (k : ℕ) × IsSeen k s
    world-seen e c m shown s d =
        let there = world-listed e c shown.world shown.there in
        let from = zip-left (IsWhole r v e.1.0) (shown_by r shown.world) (Rattle.encode_shown.proofs.WorldMeans.seen r v e.1.0 shown.world shown.there shown.scope shown.shows) s
        (seen-whole r v e.1.0 shown.world shown.there shown.scope shown.shows) (subst (λ (x : Member). Contains (sights x) s) shown.is d) in (
          from.0,
          record {
            is = from.2.is;
            reached = world-reached shown.world there from.0 s.path from.2.is.has_path from.1;
            shown = λ h. inr (any-at (λ w. has (shown_by r w) from.0) (worlds_of r p) shown.world there (contains-has (shown_by r shown.world) from.0 from.1));
          },
        )

    pub seen-reached : (s : Sight) → Contains all_seen s → (m : ℕ) × IsSeen m s
    seen-reached s c =
        let from = contains-flat-from sights members s c in
        go from.0 from.2 (Contains-append_cases shows.interface_members shows.world_members from.0 (subst (λ (ms : List Member). Contains ms from.0) shows.are from.1))
      where
        go : (m : Member) → Contains (sights m) s → Contains shows.interface_members m ⊎ Contains shows.world_members m → (k : ℕ) × IsSeen k s
        go m d (inl h) =
            let e = zip-left (ShowsInterfaceMember r named) p.interfaces.entries shows.interface_members m shows.interfaces h in
            interface-seen e.0 e.1 e.2.imports e.2.exported e.2.reached s (subst (λ (x : Member). Contains (sights x) s) e.2.is d)
        go m d (inr h) =
            let e = zip-left (ShowsWorldMember r named) p.worlds.entries shows.world_members m shows.worlds h in
            world-seen e.0 e.1 m e.2 s d

    -- ---- what is reached is seen

    -- one that an interface of the package reaches, or that is an item of one of its worlds
    abbrev IsMet : ℕ → Type 0
    IsMet m = ((i : InterfaceMember) × Contains (i.shown.reached.numbers ++ i.entry.1.0 ∷ []) m) ⊎ ((w : WorldMember) × Contains (filter_map item_interface (items_of w.shown.world)) m)

    met-closed : (m k : ℕ) → IsMet m → Contains (direct_deps r m) k → IsMet k
    met-closed m k (inl (i, among)) d = ⊎_elim (λ c. none-in k c) (λ c. inl (i, c)) (earlier-used r [] (i.shown.reached.numbers ++ i.entry.1.0 ∷ []) i.shown.reached.reached.earlier m k among d)
    met-closed m k (inr (w, among)) d =
        let given = given-contains item_interface (items_of w.shown.world) m among in
        inr (w, world-closed w.entry.1.0 w.shown.world w.shown.there given.0 given.1 k (interface-uses r given.0 m k given.2 d))

    starts-met : (m : ℕ) → Contains starts m → IsMet m
    starts-met m c = go (Contains-append_cases (map (λ (id : InterfaceId). id.0) (values p.interfaces)) (flat_map (interfaces_of_world r) (worlds_of r p)) m c)
      where
        go : Contains (map (λ (id : InterfaceId). id.0) (values p.interfaces)) m ⊎ Contains (flat_map (interfaces_of_world r) (worlds_of r p)) m → IsMet m
        go (inl c) =
            let id = contains-mapped (λ (id : InterfaceId). id.0) (values p.interfaces) m c in
            let entry = contains-mapped (λ (x : String Global × InterfaceId). x.1) p.interfaces.entries id.0 id.1 in
            let found = interface-member entry.0 entry.1 in
            inl (
              record { entry = entry.0; listed = entry.1; member = found.0; there = found.1; shown = found.2 },
              Contains-append_right found.2.reached.numbers (entry.0.1.0 ∷ []) m (0, omega arith, ap (λ (i : InterfaceId). i.0) entry.2 ∙ id.2),
            )
        go (inr c) =
            let w = contains-flat-from (interfaces_of_world r) (worlds_of r p) m c in
            let i = contains-flat-from (interfaces_of_item r) (items_of w.0) m w.2 in
            let of = world-shown w.0 w.1 in
            let among : Contains (filter_map item_interface (items_of w.0)) m = ⊎_elim
            (λ e. contains-filter_map item_interface (items_of w.0) i.0 m i.1 (subst (λ (o : Option ℕ). Contains (option_to_list o) m) (sym e) (contains-one m)))
            (λ u. world-closed of.0.entry.1.0 w.0 (of.0.shown.there ∙ ap Some of.1) i.0 i.1 m u) (item-from r i.0 m i.2) in
            inr (of.0, subst (λ (x : World). Contains (filter_map item_interface (items_of x)) m) (sym of.1) among)

    -- a sight of this interface
    pub record HasSight (m : ℕ) : Type 0 where
      pub sight : Sight
      pub there : Contains all_seen sight
      pub is : IsSight r m sight

    met-sight : (m : ℕ) (path : Text) → interface_path r m ≡ Some path → IsMet m → HasSight m
    met-sight m path e (inl (i, among)) = go (Contains-append_cases i.shown.reached.numbers (i.entry.1.0 ∷ []) m among)
      where
        stands : (s : Sight) → Contains (map import_sight i.shown.imports ++ export_sight i.entry i.shown.exported ∷ []) s → Contains all_seen s
        stands s c = in-members i.member s i.there (subst (λ (x : Member). Contains (sights x) s) (sym i.shown.is) c)

        go : Contains i.shown.reached.numbers m ⊎ Contains (i.entry.1.0 ∷ []) m → HasSight m
        go (inl c) =
            let found = zip-right (ShowsImport r) i.shown.reached.numbers i.shown.imports m i.shown.reached.shown_imports c in
            record {
              sight = import_sight found.0;
              there = stands (import_sight found.0) (Contains-append_left (map import_sight i.shown.imports) (export_sight i.entry i.shown.exported ∷ []) (import_sight found.0)
                  (contains-map import_sight i.shown.imports found.0 found.1));
              is = import-seen m found.0 found.2;
            }
        go (inr c) = record {
          sight = export_sight i.entry i.shown.exported;
          there = stands (export_sight i.entry i.shown.exported) (Contains-append_right (map import_sight i.shown.imports) (export_sight i.entry i.shown.exported ∷ [])
              (export_sight i.entry i.shown.exported) (contains-one (export_sight i.entry i.shown.exported)));
          is = subst (λ (k : ℕ). IsSight r k (export_sight i.entry i.shown.exported)) (one-contained i.entry.1.0 m c) (export-seen i.entry i.listed i.shown.exported i.shown.reached.shows);
        }
    met-sight m path e (inr (w, among)) =
        let found = whole-in w m (contains-filter (λ k. is_some (interface_path r k)) (filter_map item_interface (items_of w.shown.world)) m among (ap is_some e)) in
        record { sight = found.0; there = found.1; is = found.2.is }

    pub reached-seen : (m : ℕ) (path : Text) → interface_path r m ≡ Some path → Contains (reached_by_package r p) m → HasSight m
    reached-seen m path e c = met-sight m path e (holds-reached r IsMet met-closed starts starts-met m c)

    -- ---- which are seen whole

    -- an interface of another package is seen whole where a world shows it
    pub whole-shown : (m : ℕ) (path : Text) → interface_path r m ≡ Some path → is_of named path ≡ false → is_seen_whole r v all_seen path ≡ is_shown_in r p m
    whole-shown m path e other = Rattle.base_lemmas.proofs.Bools.both_ways (is_seen_whole r v all_seen path) (is_shown_in r p m) forth back
      where
        forth : is_seen_whole r v all_seen path ≡ true → is_shown_in r p m ≡ true
        forth h =
            let found = any-contains (λ (s : Sight). text_eq path s.path && s.whole) all_seen h in
            let seen = seen-reached found.0 found.1 in
            let text : path ≡ found.0.path = text-same path found.0.path (first_true (text_eq path found.0.path) _ found.2) in
            let number : seen.0 ≡ m = path-once r v seen.0 m path (seen.1.is.has_path ∙ ap Some (sym text)) e in
            ⊎_elim (λ own. absurd (both_ways _ other (ap (is_of named) text ∙ own))) (λ shown. subst (λ (k : ℕ). is_shown_in r p k ≡ true) number shown)
            (seen.1.shown (second_true (text_eq path found.0.path) _ found.2))

        back : is_shown_in r p m ≡ true → is_seen_whole r v all_seen path ≡ true
        back h =
            let w = any-contains (λ w. has (shown_by r w) m) (worlds_of r p) h in
            let of = world-shown w.0 w.1 in
            let sight = whole-in of.0 m (has-contains (shown_by r of.0.shown.world) m (ap (λ x. has (shown_by r x) m) of.1 ∙ w.2)) in
            any-at (λ (s : Sight). text_eq path s.path && s.whole) all_seen sight.0 sight.1
            (both _ _ (ap (text_eq path) (same-some sight.0.path path (sym sight.2.is.has_path ∙ e)) ∙ text-alike path) sight.2.whole)
