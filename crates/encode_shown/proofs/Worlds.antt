-- What shows a world of a valid `Resolve` obeys the rules of worlds.
use Rattle.std.proofs.Common.{rules as std_rules, ◌≡◌, refl, sym, subst, ap, ◌∙◌, ℕ, true, List, [], ◌∷◌, ◌++◌, map, Option, Some, arith}
use Rattle.std.proofs.{lemmas.List.map-append, lemmas.Simd.map-map, Math.Logic.⊎_elim}
use Rattle.std.proofs.lemmas.List.Elements.{Contains-append_left, Contains-append_right, Contains-append_cases, filter_map-append}
use Rattle.std.proofs.lemmas.{Cmp.nat_list_eq_equiv, Map.Views.list_any-from_Contains, Bool.and_from as both, Bool.both_ways}
use Rattle.std.specs.{Prelude.is_none, Prelude.option_to_list, Prelude.filter_map, List.AllZip, List.Contains, List.IsDistinct, List.list_all, List.list_any}
use Rattle.indexmap.specs.IndexMap.{values}
use Rattle.wit_model.specs.{Text.Text, Text.text_eq, Rules.passes, Rules.each_after, Rules.is_freestanding, Rules.used_interfaces, Rules.uses_stand_before}
use Rattle.wit_model.specs.{Lookup.world_at, Lookup.interface_path, Lookup.key_text, Valid.IsValid, Valid.item_function, Valid.order_of_items}
use Rattle.wit_model.specs.{Uses.has, Uses.item_interface, Meant.type_meaning_at}
use Rattle.wit_model.specs.declared.model.{Resolve.Resolve, World.World, WorldKey.WorldKey, WorldItem.WorldItem, Function.Function}
use Rattle.wit_model.proofs.{Shown.after_append, Elements.none-in, Elements.has-contains, ValidLemmas.world_passes as rule_of_world}
use Rattle.comp_meaning.specs.Follow.{View, Seen, Shown, Scope, interface_of}
use Rattle.comp_meaning.specs.Rules.{distinct, is_item, are_imports, stand_earlier, path_seen, resources_seen, used_by, used_by_view, uses, others_than, is_world}
use Rattle.encode_shown.specs.Views.{instance_key, shown_item, IsViewOf, ShowsItem, ShowsWorld}
use Rattle.encode_shown.proofs.{Apart.distinct-from, Entries.IsEntry, Entries.import-entry, Entries.export-entry, Entries.export-freestanding}
use Rattle.encode_shown.proofs.{Used.number-used, Used.view-used, Used.others-used, Keys.IsKey, Keys.entry-key, Keys.keys-distinct}
use Rattle.encode_shown.proofs.{Items.HasHome, Items.instance-home, Items.entry-home, Items.seen-obeys, Items.import-home, Zips.zip-left, Zips.given-contains}
use Rattle.base_lemmas.proofs.Bools.{left_of as first_true, right_of as second_true}
use Rattle.base_lemmas.proofs.Elements.{all-contained, all_pass as all-from, contains-later, contains-one, last_of as one-contained, map_from as contains-mapped, zip-append, zip_map as zip-same}
use Rattle.wit_model.specs.declared.model.WorldItem.TheVariants as item

-- the key of what shows an item
pub key-seen : (r : Resolve) (e : WorldKey × WorldItem) (s : Seen) → ShowsItem r e s → s.key ≡ key_text r e.0
key-seen r e s shows = ap (λ (x : Seen). x.key) shows.is

module _ (r : Resolve) (v : IsValid r) (n : ℕ) where
  abbrev AreEntries : List (WorldKey × WorldItem) → Type 0
  AreEntries es = (e : WorldKey × WorldItem) → Contains es e → IsEntry r n e

  one-more : (before : List (WorldKey × WorldItem)) (e : WorldKey × WorldItem) → AreEntries before → IsEntry r n e → AreEntries (before ++ e ∷ [])
  one-more before e entries is x c = ⊎_elim (entries x) (λ c. subst (λ y. IsEntry r n y) (one-contained e x c) is) (Contains-append_cases before (e ∷ []) x c)

  -- ---- imports

  imports-obey : (before : List (WorldKey × WorldItem)) (ss : List Seen) → AllZip (ShowsItem r) before ss → AreEntries before → (es : List (WorldKey × WorldItem)) (ts : List Seen)
      → AllZip (ShowsItem r) es ts → AreEntries es → each_after (uses_stand_before r n) (map (λ e. e.1) before) (map (λ e. e.1) es) ≡ true → are_imports ss ts ≡ true
  imports-obey before ss z entries [] [] w more h = refl
  imports-obey before ss z entries (e ∷ es) (t ∷ ts) w more h =
      let this = more e (0, omega arith, refl) in
      let stands = first_true (uses_stand_before r n (map (λ e. e.1) before) e.1) _ h in
      let rest : each_after (uses_stand_before r n) (map (λ e. e.1) (before ++ e ∷ [])) (map (λ e. e.1) es) ≡ true =
      ap (λ bs. each_after (uses_stand_before r n) bs (map (λ e. e.1) es)) (map-append (λ e. e.1) before (e ∷ [])) ∙ second_true (uses_stand_before r n (map (λ e. e.1) before) e.1) _ h in
      both _ _ (seen-obeys r v n (resources_seen ss) e t this w.0 (import-home r v n before ss z entries e.1 stands))
      (imports-obey (before ++ e ∷ []) (ss ++ t ∷ []) (zip-append (ShowsItem r) before ss (e ∷ []) (t ∷ []) z (w.0, tt)) (one-more before e entries this) es ts w.1
      (λ x c. more x (contains-later e es x c)) rest)
  imports-obey before ss z entries _ _ w more h = absurd w

  -- ---- what is used stands earlier

  -- the paths of these interfaces have been seen
  abbrev ArePaths : List WorldItem → List Text → Type 0
  ArePaths before earlier = (m : ℕ) (path : Text) → Contains (filter_map item_interface before) m → interface_path r m ≡ Some path → Contains earlier path

  stands-among : (before : List WorldItem) (earlier : List Text) → ArePaths before earlier → (i : WorldItem) → list_all (has (filter_map item_interface before)) (used_interfaces r i) ≡ true
      → (m : ℕ) (path : Text) → Contains (used_interfaces r i) m → interface_path r m ≡ Some path → list_any (text_eq path) earlier ≡ true
  stands-among before earlier paths i h m path c e =
      list_any-from_Contains nat_list_eq_equiv path earlier (paths m path (has-contains _ m (all-contained (has (filter_map item_interface before)) (used_interfaces r i) m h c)) e)

  uses-stand : (before : List WorldItem) (earlier : List Text) → ArePaths before earlier → (k : WorldKey) (i : WorldItem) (view : View) → IsEntry r n (k, i) → IsViewOf r i view
      → list_all (has (filter_map item_interface before)) (used_interfaces r i) ≡ true → (t : Text) (o : Option Text)
      → list_all (λ p. list_any (text_eq p) earlier) (uses (record { key = t; shown = shown_item r k i view; external_id = o })) ≡ true
  uses-stand before earlier paths k (item.Function f) view is shows h t o = refl
  uses-stand before earlier paths k (item.Type_ id) view is shows h t o = all-from (λ p. list_any (text_eq p) earlier) (used_by (type_meaning_at r id.0).declaration) (λ p c.
      let used = number-used r v id.0 p c in
      stands-among before earlier paths (item.Type_ id) h used.number p (subst (λ (o : Option ℕ). Contains (option_to_list o) used.number) (sym used.is) (contains-one used.number)) used.has_path)
  uses-stand before earlier paths k (item.Interface id stability docs external_id) view is shows h t o =
      all-from (λ p. list_any (text_eq p) earlier) (others_than (interface_of (instance_key k (interface_path r id.0))) (used_by_view view)) (λ p c.
      let others = others-used (interface_of (instance_key k (interface_path r id.0))) (used_by_view view) p c in
      ⊎_elim (λ own. absurd (others.1 (instance-home k (interface_path r id.0) (entry-home r v n k (item.Interface id stability docs external_id) is id.0 refl) ∙ own)))
      (λ dep. stands-among before earlier paths (item.Interface id stability docs external_id) h dep.0 p dep.1 dep.2) (view-used r v id.0 view shows.types p others.0))

  -- an interface that is shown has its path among those that have been seen
  seen-path : (k : WorldKey) (i : WorldItem) (view : View) → IsEntry r n (k, i) → (m : ℕ) (path : Text) → item_interface i ≡ Some m → interface_path r m ≡ Some path
      → Contains (path_seen (shown_item r k i view)) path
  seen-path k x view is m path e p = search std_rules

  more-paths : (before : List WorldItem) (earlier : List Text) → ArePaths before earlier → (e : WorldKey × WorldItem) (t : Seen) → IsEntry r n e → ShowsItem r e t
      → ArePaths (before ++ e.1 ∷ []) (earlier ++ path_seen t.shown)
  more-paths before earlier paths e t is shows m path c p = ⊎_elim (λ c. Contains-append_left earlier (path_seen t.shown) path (paths m path c p)) (λ c.
      let given = given-contains item_interface (e.1 ∷ []) m c in
      let at : item_interface e.1 ≡ Some m = ap item_interface (one-contained e.1 given.0 given.1) ∙ given.2 in
      let shown : t.shown ≡ shown_item r e.0 e.1 shows.view = ap (λ (x : Seen). x.shown) shows.is in
      Contains-append_right earlier (path_seen t.shown) path (subst (λ (sh : Shown). Contains (path_seen sh) path) (sym shown) (seen-path e.0 e.1 shows.view is m path at p)))
      (Contains-append_cases (filter_map item_interface before) (filter_map item_interface (e.1 ∷ [])) m
      (subst (λ (ms : List ℕ). Contains ms m) (filter_map-append item_interface before (e.1 ∷ [])) c))

  earlier-stand : (before : List WorldItem) (earlier : List Text) → ArePaths before earlier → (es : List (WorldKey × WorldItem)) (ts : List Seen) → AllZip (ShowsItem r) es ts → AreEntries es
      → each_after (uses_stand_before r n) before (map (λ e. e.1) es) ≡ true → stand_earlier earlier ts ≡ true
  earlier-stand before earlier paths [] [] z entries h = refl
  earlier-stand before earlier paths (e ∷ es) (t ∷ ts) z entries h =
      let is = entries e (0, omega arith, refl) in
      let stands = first_true (uses_stand_before r n before e.1) _ h in
      let interfaces : list_all (has (filter_map item_interface before)) (used_interfaces r e.1) ≡ true =
      first_true (list_all (has (filter_map item_interface before)) (used_interfaces r e.1)) _ stands in
      both _ _ (ap (λ (s : Seen). list_all (λ p. list_any (text_eq p) earlier) (uses s)) z.0.is ∙ uses-stand before earlier paths e.0 e.1 z.0.view is z.0.is_view interfaces t.key t.external_id)
      (earlier-stand (before ++ e.1 ∷ []) (earlier ++ path_seen t.shown) (more-paths before earlier paths e t is z.0) es ts z.1 (λ x c. entries x (contains-later e es x c))
      (second_true (uses_stand_before r n before e.1) _ h))
  earlier-stand before earlier paths _ _ z entries h = absurd z

  -- ---- the world

  module _ (w : World) (there : world_at r n ≡ Some w) (scope : Scope) (shows : ShowsWorld r w scope) where
    pub imports-are : AreEntries w.imports.entries
    imports-are e c = import-entry r v n w there e c

    pub exports-are : AreEntries w.exports.entries
    exports-are e c = export-entry r v n w there e c

    order : each_after (uses_stand_before r n) [] (values w.imports ++ values w.exports) ≡ true
    unfolding order_of_items
    order = rule_of_world order_of_items r v.rules.order_of_items n w there

    imports-pass : are_imports [] scope.imports ≡ true
    imports-pass = imports-obey [] [] tt (λ e c. none-in e c) w.imports.entries scope.imports shows.imports imports-are
        (first_true _ _ (sym (after_append (uses_stand_before r n) [] (values w.imports) (values w.exports)) ∙ order))

    exports-pass : list_all (λ s. is_item [] s.key s.shown) scope.exports ≡ true
    exports-pass = all-from (λ s. is_item [] s.key s.shown) scope.exports (λ s c.
        let from = zip-left (ShowsItem r) w.exports.entries scope.exports s shows.exports c in
        seen-obeys r v n [] from.0 s (exports-are from.0 from.1) from.2 (free from.0 (export-freestanding r v n w there from.0 from.1)))
      where
        free : (e : WorldKey × WorldItem) → passes (λ f. is_freestanding f.kind) (item_function e.1) ≡ true → HasHome r v n [] e.1
        free e h f q m name at is = absurd (both_ways _ (ap is_none at) (ap (λ i. passes (λ (g : Function). is_freestanding g.kind) (item_function i)) (sym q) ∙ h))

    names : (es : List (WorldKey × WorldItem)) (ss : List Seen) → AllZip (ShowsItem r) es ss → AreEntries es → IsDistinct Rattle.wit_model.specs.Valid.key_eq (map (λ e. e.0) es)
        → distinct (map (λ s. s.key) ss) ≡ true
    names es ss z entries d = ap distinct (zip-same (ShowsItem r) (λ e. key_text r e.0) (λ (s : Seen). s.key) (key-seen r) es ss z ∙ sym (map-map (key_text r) (λ e. e.0) es))
        ∙ distinct-from _ (keys-distinct r v n (map (λ e. e.0) es) (λ k c.
        let e = contains-mapped (λ (e : WorldKey × WorldItem). e.0) es k c in
        subst (IsKey r) e.2 (entry-key r v n e.0.0 e.0.1 (entries e.0 e.1))) d)

    pub all-entries : AreEntries (w.imports.entries ++ w.exports.entries)
    all-entries e c = ⊎_elim (imports-are e) (exports-are e) (Contains-append_cases w.imports.entries w.exports.entries e c)

    pub all-shown : AllZip (ShowsItem r) (w.imports.entries ++ w.exports.entries) (scope.imports ++ scope.exports)
    all-shown = zip-append (ShowsItem r) w.imports.entries scope.imports w.exports.entries scope.exports shows.imports shows.exports

    earlier : stand_earlier [] (scope.imports ++ scope.exports) ≡ true
    earlier = earlier-stand [] [] (λ m path c p. none-in m c) (w.imports.entries ++ w.exports.entries) (scope.imports ++ scope.exports) all-shown all-entries
        (ap (each_after (uses_stand_before r n) []) (map-append (λ e. e.1) w.imports.entries w.exports.entries) ∙ order)

    pub world-obeys : is_world scope ≡ true
    world-obeys = both _ _ (both _ _ (both _ _ (both _ _ imports-pass exports-pass) (names w.imports.entries scope.imports shows.imports imports-are (v.distinct_keys.worlds n w there).0))
        (names w.exports.entries scope.exports shows.exports exports-are (v.distinct_keys.worlds n w there).1)) earlier
