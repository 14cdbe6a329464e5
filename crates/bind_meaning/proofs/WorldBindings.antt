-- A world of a valid `Resolve`, bound, is a binding.
use Rattle.std.proofs.Common.{Bool, ◌++◌, arith, rules as std_rules, slice_get, filter_map, ◌≡◌, refl, sym, ap, subst, ◌∙◌, ℕ, true, false, not, ◌&&◌, ◌||◌, List, [], ◌∷◌, map, length, Option, Some, option_map, option_and_then, unwrap_or, String, Contains}
use Rattle.std.proofs.lemmas.{Bool.false_from_ne_true, Bool.lt-ltb, List.Elements.Contains-append_left, List.Elements.Contains-append_right}
use Rattle.std.specs.{Prelude.is_some, Prelude.option_to_list, Map.keys_of, Option.option_map_or, Cmp.Lexicographic.nat_list_cmp_total, List.AllByRecursion, List.IsDistinct, List.list_all, List.list_any, FinMap.find, FinMap.from_entries, FinMap.get, FinMap.get-from_entries}
use Rattle.std.specs.declared.alloc.Global.{Global}
use Rattle.wit_model.specs.declared.model.{Package.Package, PackageId.PackageId, Resolve.Resolve, WorldItem.WorldItem, WorldKey.WorldKey}
use Rattle.wit_model.specs.declared.model.World.{World}
use Rattle.wit_model.specs.{Text.Text, Text.text_cmp, Text.text_eq, Text.text_of, Names.path_in, Meaning.Entry, Meaning.InterfaceMeaning, Meaning.WorldMeaning}
use Rattle.wit_model.specs.Lookup.{identity_of, interface_at, interface_path, key_text, path_in_package, path_of_interface, path_of_world, world_at}
use Rattle.wit_model.specs.Meant.{entries_meaning, entry_meaning, interface_meaning, interface_meaning_at, no_world, world_meaning, world_meaning_at}
use Rattle.wit_model.specs.Rules.{are_distinct, entries_in_range, export_stands, import_stands, in_list, is_interface_key, item_in_range, key_in_range, package_number, passes}
use Rattle.wit_model.specs.Valid.{IsValid, is_place, key_eq, numbers_in_range, places, world_items}
use Rattle.wit_model.proofs.{Elements.contains-filter_map, Elements.contains-get, OnePath.found-in, OnePath.has-path, OnePath.named-path, OnePath.path-once, AnyOrder.found-there as find-contains, TextLemmas.text_same as text-same, ValidLemmas.world_passes as world-passes}
use Rattle.wit_model.proofs.Maps.{there_some as contains-find}
use Rattle.bind_meaning.specs.{Binding.Stand, ByNumbers.WorldsAreBindings, ByNumbers.interfaces_by_path, ByNumbers.worlds_by_path}
use Rattle.bind_meaning.proofs.{KeyNames.Lacks, KeyNames.colon, KeyNames.goes-on, KeyNames.key_lacks, Listed.from-given, Listed.given, Listed.mapped}
use Rattle.bind_meaning.proofs.{Searches.stands-first, Searches.stands-second, WorldPaths.path-apart, WorldPaths.path_at, WorldPaths.world-once}
use Rattle.base_lemmas.proofs.{Bools.left_of as first_true, Bools.right_of as second_true, Numbers.same-number, Options.there as some-of}
use Rattle.base_lemmas.proofs.Elements.{all-contained, contains-later, contains-one, first-contained, get-contains}
use Rattle.wit_model.specs.declared.model.WorldKey.TheVariants as key

-- ---- what stands under a path

module _ {A X : Type 0} (path_of : A → Option Text) (meaning : A → X) (items : List A) (path : Text) where
  abbrev by_path : A → Option (Text × X)
  by_path a = option_map (λ p. (p, meaning a)) (path_of a)

  under-path : (x : X) → Contains (filter_map by_path items) (path, x) → (n : ℕ) × (a : A) × (slice_get items n ≡ Some a) × (path_of a ≡ Some path) × (meaning a ≡ x)
  under-path x c =
      let a = from-given by_path items (path, x) c in
      let n = contains-get items a.0 a.1.0 in
      let p = mapped (λ (t : Text). (t, meaning a.0)) (path_of a.0) (path, x) a.1.1 in
      (n.0, a.0, n.1, p.1 ∙ ap Some (ap (λ (e : Text × X). e.0) p.2), ap (λ (e : Text × X). e.1) p.2)

  path-found : (n : ℕ) (a : A) → slice_get items n ≡ Some a → path_of a ≡ Some path → (x : X) × (find text_cmp path (filter_map by_path items) ≡ Some x)
  path-found n a at is = contains-find (filter_map by_path items) path (meaning a) (contains-filter_map by_path items a (path, meaning a) (get-contains items n a at)
      (subst (λ (o : Option (Text × X)). Contains (option_to_list o) (path, meaning a)) (sym (ap (option_map (λ (t : Text). (t, meaning a))) is)) (contains-one (path, meaning a))))

module _ (r : Resolve) where
  -- an interface of this path, which means this
  pub record IsInterfaceUnder (path : Text) (x : InterfaceMeaning) : Type 0 where
    pub number : ℕ
    pub under : interface_path r number ≡ Some path
    pub means : interface_meaning_at r number ≡ x

  pub record IsWorldUnder (path : Text) (x : WorldMeaning) : Type 0 where
    pub number : ℕ
    pub under : path_at r number ≡ Some path
    pub means : world_meaning_at r number ≡ x

  interface-listed : (path : Text) (x : InterfaceMeaning) → Contains (interfaces_by_path r) (path, x) → IsInterfaceUnder path x
  interface-listed path x c = search (std_rules, under-path (path_of_interface r) (interface_meaning r) r.interfaces.items path x c)

  world-listed : (path : Text) (x : WorldMeaning) → Contains (worlds_by_path r) (path, x) → IsWorldUnder path x
  world-listed path x c = search (std_rules, under-path (path_of_world r) (world_meaning r) r.worlds.items path x c)

  -- what a binding has under a path stands there
  pub interface-under : (path : Text) (x : InterfaceMeaning) → get (from_entries {R = text_cmp} (interfaces_by_path r)) path ≡ Some x → IsInterfaceUnder path x
  interface-under path x e = interface-listed path x (find-contains (interfaces_by_path r) path x (sym (get-from_entries nat_list_cmp_total (interfaces_by_path r) path) ∙ e))

  pub world-under : (path : Text) (x : WorldMeaning) → get (from_entries {R = text_cmp} (worlds_by_path r)) path ≡ Some x → IsWorldUnder path x
  world-under path x e = world-listed path x (find-contains (worlds_by_path r) path x (sym (get-from_entries nat_list_cmp_total (worlds_by_path r) path) ∙ e))

  module _ (v : IsValid r) where
    -- and a binding has what stands there
    pub interface-found : (n : ℕ) (path : Text) → interface_path r n ≡ Some path → get (from_entries {R = text_cmp} (interfaces_by_path r)) path ≡ Some (interface_meaning_at r n)
    interface-found n path is =
        let i = given (path_of_interface r) (interface_at r n) path is in
        let found = path-found (path_of_interface r) (interface_meaning r) r.interfaces.items path n i.0 i.1 i.2 in
        let x = interface-listed path found.0 (find-contains (interfaces_by_path r) path found.0 found.1) in
        get-from_entries nat_list_cmp_total (interfaces_by_path r) path ∙ (found.1 ∙ ap Some (sym x.means ∙ ap (interface_meaning_at r) (path-once r v x.number n path x.under is)))

    pub world-found : (n : ℕ) (path : Text) → path_at r n ≡ Some path → get (from_entries {R = text_cmp} (worlds_by_path r)) path ≡ Some (world_meaning_at r n)
    world-found n path is =
        let w = given (path_of_world r) (world_at r n) path is in
        let found = path-found (path_of_world r) (world_meaning r) r.worlds.items path n w.0 w.1 w.2 in
        let x = world-listed path found.0 (find-contains (worlds_by_path r) path found.0 found.1) in
        get-from_entries nat_list_cmp_total (worlds_by_path r) path ∙ (found.1 ∙ ap Some (sym x.means ∙ ap (world_meaning_at r) (world-once r v x.number n path x.under is)))

    -- each world has a path
    pub world-path : (n : ℕ) (w : World) → world_at r n ≡ Some w → (path : Text) × (path_at r n ≡ Some path)
    unfolding places numbers_in_range
    world-path n w at =
        let home = some-of w.package (first_true (is_some w.package) _ (world-passes places r v.rules.places n w at)) in
        let inside = first_true (passes (in_list r.packages.items) (package_number w.package)) _ (second_true (is_place n) _ (world-passes numbers_in_range r v.rules.numbers_in_range n w at)) in
        let p = found-in r.packages.items home.0.0 (ap (λ p. passes (in_list r.packages.items) (package_number p)) (sym home.1) ∙ inside) in (
          path_in (identity_of p.0.name) (text_of w.name),
          ap (option_and_then (path_of_world r)) at ∙ (ap (λ (o : Option PackageId). option_and_then (λ q. path_in_package r q.0 (text_of w.name)) o) home.1
              ∙ ap (λ (o : Option Package). option_map (λ x. path_in (identity_of x.name) (text_of w.name)) o) p.1),
        )

    apart : (path : Text) → Stand (get (from_entries {R = text_cmp} (interfaces_by_path r)) path) (get (from_entries {R = text_cmp} (worlds_by_path r)) path) → ⊥
    apart path s =
        let x = some-of (get (from_entries {R = text_cmp} (interfaces_by_path r)) path) (stands-first _ _ s) in
        let y = stands-second _ _ s in
        let i = interface-under path x.0 x.1 in
        let w = world-under path y.0 y.1 in
        path-apart r v i.number w.number path i.under w.under

-- ---- the texts of keys

module _ (r : Resolve) (v : IsValid r) where
  -- a path, or a name without a colon
  abbrev pub IsKey : WorldKey → Type 0
  IsKey (key.Name name) = Lacks 58 (text_of name)
  IsKey (key.Interface id) = is_some (interface_path r id.0) ≡ true

  unlike : (s t : Text) → (s ≡ t → ⊥) → text_eq s t ≡ false
  unlike s t never = false_from_ne_true _ (λ e. never (text-same s t e))

  name-apart : (name : String Global) (m : ℕ) (path : Text) → Lacks 58 (text_of name) → interface_path r m ≡ Some path → text_of name ≡ path → ⊥
  name-apart name m path lacks is same = search (std_rules, has-path, goes-on, Lacks)

  pub keys-apart : (a b : WorldKey) → IsKey a → IsKey b → key_eq a b ≡ false → text_eq (key_text r a) (key_text r b) ≡ false
  keys-apart x y h g e = grind (arith, some-of, unwrap_or, unlike, name-apart, path-once, same-number)

  abbrev keyed : WorldKey × WorldItem → Text × Entry InterfaceMeaning
  keyed e = (key_text r e.0, entry_meaning r e.1)

  none-alike : (k : WorldKey) (es : List (WorldKey × WorldItem)) → IsKey k → ((e : WorldKey × WorldItem) → Contains es e → IsKey e.0) → AllByRecursion (λ l. key_eq k l ≡ false) (keys_of es)
      → list_any (text_eq (key_text r k)) (map (λ e. e.0) (entries_meaning r es)) ≡ false
  none-alike k [] h all d = refl
  none-alike k (e ∷ es) h all d = ap (λ b. b || list_any (text_eq (key_text r k)) (map (λ e. e.0) (entries_meaning r es))) (keys-apart k e.0 h (all e (first-contained e es)) d.0)
      ∙ none-alike k es h (λ f c. all f (contains-later e es f c)) d.1

  pub distinct-entries : (es : List (WorldKey × WorldItem)) → ((e : WorldKey × WorldItem) → Contains es e → IsKey e.0) → IsDistinct key_eq (keys_of es)
      → are_distinct (map (λ e. e.0) (entries_meaning r es)) ≡ true
  unfolding IsDistinct
  distinct-entries [] all d = refl
  distinct-entries (e ∷ es) all d = ap (λ b. not b && are_distinct (map (λ e. e.0) (entries_meaning r es)))
      (none-alike e.0 es (all e (first-contained e es)) (λ f c. all f (contains-later e es f c)) d.0) ∙ distinct-entries es (λ f c. all f (contains-later e es f c)) d.1

  module _ (n : ℕ) (w : World) (at : world_at r n ≡ Some w) where
    ranges : (entries_in_range r w.imports.entries && entries_in_range r w.exports.entries) ≡ true
    unfolding numbers_in_range
    ranges = second_true (passes (in_list r.packages.items) (package_number w.package)) _ (second_true (is_place n) _ (world-passes numbers_in_range r v.rules.numbers_in_range n w at))

    stand : (list_all (λ e. import_stands r n e.0 e.1) w.imports.entries && list_all (λ e. export_stands r e.0 e.1) w.exports.entries) ≡ true
    unfolding world_items
    stand = world-passes world_items r v.rules.world_items n w at

    interface-key : (k : ℕ) (shown : WorldItem) → is_interface_key r k shown ≡ true → in_list r.interfaces.items k ≡ true → is_some (interface_path r k) ≡ true
    interface-key k shown h inside = search (std_rules, found-in, named-path, second_true)

    side-key : (es : List (WorldKey × WorldItem)) (test : WorldKey × WorldItem → Bool)
        → ((k : ℕ) (shown : WorldItem) → test (key.Interface (record { 0 = k }), shown) ≡ true → is_interface_key r k shown ≡ true)
        → ((e : WorldKey × WorldItem) → Contains es e → Contains (w.imports.entries ++ w.exports.entries) e) → list_all test es ≡ true → entries_in_range r es ≡ true
        → (e : WorldKey × WorldItem) → Contains es e → IsKey e.0
    side-key es test shows among all inside (key.Name name, shown) c = key_lacks 58 colon r v n w at name shown (among (key.Name name, shown) c)
    side-key es test shows among all inside (key.Interface id, shown) c = interface-key id.0 shown (shows id.0 shown (all-contained test es (key.Interface id, shown) all c))
        (first_true (key_in_range r (key.Interface id)) _ (all-contained (λ e. key_in_range r e.0 && item_in_range r e.1) es (key.Interface id, shown) inside c))

    pub import-key : (e : WorldKey × WorldItem) → Contains w.imports.entries e → IsKey e.0
    import-key = side-key w.imports.entries (λ e. import_stands r n e.0 e.1) (λ k shown h. h) (Contains-append_left w.imports.entries w.exports.entries) (first_true _ _ stand) (first_true _ _ ranges)

    pub export-key : (e : WorldKey × WorldItem) → Contains w.exports.entries e → IsKey e.0
    export-key = side-key w.exports.entries (λ e. export_stands r e.0 e.1) (λ k shown h. h) (Contains-append_right w.imports.entries w.exports.entries)
        (second_true (list_all (λ e. import_stands r n e.0 e.1) w.imports.entries) _ stand) (second_true (entries_in_range r w.imports.entries) _ ranges)

    pub imports-distinct : are_distinct (map (λ e. e.0) (entries_meaning r w.imports.entries)) ≡ true
    imports-distinct = distinct-entries w.imports.entries import-key (v.distinct_keys.worlds n w at).0

    pub exports-distinct : are_distinct (map (λ e. e.0) (entries_meaning r w.exports.entries)) ≡ true
    exports-distinct = distinct-entries w.exports.entries export-key (v.distinct_keys.worlds n w at).1

pub worlds_are_bindings : WorldsAreBindings
worlds_are_bindings r v n inside imported exported =
    let w = found-in r.worlds.items n (lt-ltb n (length r.worlds.items) inside) in
    let path = world-path r v n w.0 w.1 in
    let here : world_meaning_at r n ≡ world_meaning r w.0 = ap (λ (o : Option World). option_map_or (world_meaning r) o no_world) w.1 in
    record {
      stands = ap (λ t. get (from_entries {R = text_cmp} (worlds_by_path r)) t) (ap (λ (o : Option Text). unwrap_or o []) path.1) ∙ world-found r v n path.0 path.1;
      apart = apart r v;
      imports = ap (λ (m : WorldMeaning). are_distinct (map (λ e. e.0) m.imports)) here ∙ imports-distinct r v n w.0 w.1;
      exports = ap (λ (m : WorldMeaning). are_distinct (map (λ e. e.0) m.exports)) here ∙ exports-distinct r v n w.0 w.1;
    }
