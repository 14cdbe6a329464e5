-- What shows a world of a valid `Resolve` means the world, with the interfaces that it shows.
use Rattle.std.proofs.Common.{rules as std_rules, ◌≡◌, refl, sym, subst, ap, ◌∙◌, ℕ, Bool, true, false, not, ◌&&◌, ◌||◌, List, [], ◌∷◌, ◌++◌, map, filter, option_map, Option, Some, None, String, arith, unwrap_or}
use Rattle.std.proofs.lemmas.{List.map-append, Grind.flat_map-append}
use Rattle.std.proofs.lemmas.{List.Folds.list_any_at, Bool.and_from as both, Bool.both_ways, Bool.false_from_ne_true, Option.same_Some as some-same}
use Rattle.std.specs.declared.alloc.Global.{Global}
use Rattle.std.specs.{Prelude.is_some, Prelude.filter_map, Prelude.flat_map, Prelude.option_and_then, List.AllZip, List.Contains, List.list_any, Str.bytes_eq}
use Rattle.std.specs.{Option.option_map_or, HashMap.get_by_text, FinMap.from_entries}
use Rattle.wit_model.specs.{Text.Text, Text.text_of, Text.text_eq, Names.is_label, Names.path_in, Meaning.InterfaceMeaning, Meaning.Item}
use Rattle.wit_model.specs.{Lookup.package_at, Lookup.world_at, Lookup.interface_path, Lookup.key_text, Lookup.identity_of, Uses.item_interface, Uses.shown_by}
use Rattle.wit_model.specs.Meant.{interface_meaning_at, item_meaning, item_external_id, entry_meaning, entries_meaning, package_of_world}
use Rattle.wit_model.specs.{Rules.is_id, Rules.package_number, Rules.world_is_listed, Rules.is_world_name, Valid.IsValid, Valid.labels, Valid.places}
use Rattle.wit_model.specs.declared.model.{Resolve.Resolve, Package.Package, PackageId.PackageId, WorldId.WorldId, WorldKey.WorldKey, WorldItem.WorldItem}
use Rattle.wit_model.specs.declared.model.World.{World}
use Rattle.wit_model.proofs.{Lists.lookup_any, TextLemmas.text_alike as text-alike, TextLemmas.text_same as text-same, ValidLemmas.world_passes as world-passes}
use Rattle.wit_model.proofs.{NameLaws.one_path, VersionLaws.same_name}
use Rattle.wit_model.proofs.OnePath.{HasPath, has-path, path-label, package-name, package-once, given-test}
use Rattle.comp_meaning.specs.Follow.{View, Seen, Shown, Instance, Scope, provided}
use Rattle.comp_meaning.specs.Reads.{Sight, of_instance, item_of, entry, meaning_of_scope, seen_meaning, world_with, meaning_of_view}
use Rattle.encode_shown.specs.Views.{instance_key, shown_item, instances_of, IsViewOf, ShowsItem, ShowsInterface, ShowsWorld}
use Rattle.encode_shown.proofs.{Interfaces.interface-means, Worlds.imports-are, Worlds.exports-are, Worlds.all-shown, Worlds.all-entries, Basics.given-by}
use Rattle.encode_shown.proofs.{Entries.IsEntry, Sights.IsSight, Sights.all-sights-agree, Sights.all-sights-obey, Sights.is_seen_whole, Sights.sight-means}
use Rattle.encode_shown.proofs.{Items.has_home, Items.instance-home, Items.entry-home, Owning.interface-unnamed}
use Rattle.base_lemmas.proofs.{Bools.left_of as first_true, Bools.right_of as second_true, Elements.contains-later, Elements.zip-kept}
use Rattle.wit_model.specs.Meant as meant
use Rattle.wit_model.specs.declared.model.WorldItem.TheVariants as item

module _ (r : Resolve) (v : IsValid r) (n : ℕ) where
  -- ---- entries

  instance-means : (k : WorldKey) (o : Option Text) (view : View) (i : InterfaceMeaning) → has_home k o ≡ true → meaning_of_view view view.functions ≡ i
      → item_of (Shown.instance (instance_key k o) view) ≡ option_map_or Item.interface o (Item.inline i)
  instance-means x y view i h e = search std_rules

  item-means : (k : WorldKey) (i : WorldItem) (view : View) → IsEntry r n (k, i) → IsViewOf r i view → item_of (shown_item r k i view) ≡ item_meaning r i
  item-means k (item.Interface id stability docs external_id) view is shows = search (std_rules, instance-means, entry-home, interface-means)
  item-means k _ view is shows = refl

  entry-means : (e : WorldKey × WorldItem) (s : Seen) → IsEntry r n e → ShowsItem r e s → entry s ≡ (key_text r e.0, entry_meaning r e.1)
  entry-means e s is shows = ap entry shows.is ∙ (λ j. (key_text r e.0, record { item = item-means e.0 e.1 shows.view is shows.is_view j; external_id = item_external_id r e.1 }))

  entries-mean : (es : List (WorldKey × WorldItem)) (ss : List Seen) → AllZip (ShowsItem r) es ss → ((e : WorldKey × WorldItem) → Contains es e → IsEntry r n e) → map entry ss ≡ entries_meaning r es
  entries-mean [] [] z entries = refl
  entries-mean (e ∷ es) (s ∷ ss) z entries = λ j. entry-means e s (entries e (0, omega arith, refl)) z.0 j ∷ entries-mean es ss z.1 (λ x c. entries x (contains-later e es x c)) j
  entries-mean _ _ z entries = absurd z

  -- ---- sights

  -- a sight of an interface, whole
  pub record IsWhole (m : ℕ) (s : Sight) : Type 0 where
    pub is : IsSight r m s
    pub whole : s.whole ≡ true

  abbrev is_named : ℕ → Bool
  is_named m = is_some (interface_path r m)

  abbrev named_in : List WorldItem → List ℕ
  named_in is = filter is_named (filter_map item_interface is)

  one-sight : (m : ℕ) (view : View) (o : Option Text) → interface_path r m ≡ o → ShowsInterface r m view → (ms : List ℕ) (ss : List Sight) → AllZip IsWhole (filter is_named ms) ss
      → AllZip IsWhole (filter is_named (m ∷ ms)) (of_instance (record { interface = o; view = view }) ++ ss)
  one-sight m view x e shows ms ss z = search std_rules

  item-sight : (k : WorldKey) (i : WorldItem) (view : View) → IsEntry r n (k, i) → IsViewOf r i view → (is : List WorldItem) (ss : List Sight) → AllZip IsWhole (named_in is) ss
      → AllZip IsWhole (named_in (i ∷ is)) (flat_map of_instance (instances_of (shown_item r k i view)) ++ ss)
  item-sight k x view entry shows is ss z = search (std_rules, instance-home, entry-home, one-sight)

  entries-sights : (es : List (WorldKey × WorldItem)) (ts : List Seen) → AllZip (ShowsItem r) es ts → ((e : WorldKey × WorldItem) → Contains es e → IsEntry r n e)
      → AllZip IsWhole (named_in (map (λ e. e.1) es)) (flat_map of_instance (flat_map (λ (s : Seen). instances_of s.shown) ts))
  entries-sights [] [] z entries = tt
  entries-sights (e ∷ es) (t ∷ ts) z entries =
      let rest = entries-sights es ts z.1 (λ x c. entries x (contains-later e es x c)) in
      let shown : t.shown ≡ shown_item r e.0 e.1 z.0.view = ap (λ (x : Seen). x.shown) z.0.is in
      let this = item-sight e.0 e.1 z.0.view (entries e (0, omega arith, refl)) z.0.is_view (map (λ e. e.1) es) (flat_map of_instance (flat_map (λ (s : Seen). instances_of s.shown) ts)) rest in
      subst (λ (xs : List Sight). AllZip IsWhole (named_in (map (λ e. e.1) (e ∷ es))) xs)
      ((λ j. flat_map of_instance (instances_of (sym shown j)) ++ flat_map of_instance (flat_map (λ (s : Seen). instances_of s.shown) ts))
      ∙ sym (flat_map-append of_instance (instances_of t.shown) (flat_map (λ (s : Seen). instances_of s.shown) ts)))
      this
  entries-sights _ _ z entries = absurd z

  -- each is seen whole
  wholes-mean : (all : List Sight) (ns : List ℕ) → AllZip (IsSight r) ns all → (ms : List ℕ) (ss : List Sight) → AllZip IsWhole ms ss → ((s : Sight) → Contains ss s → Contains all s)
      → map (seen_meaning all) ss ≡ map (λ m. (unwrap_or (interface_path r m) [], interface_meaning_at r m)) ms
  wholes-mean all ns w [] [] z c = refl
  wholes-mean all ns w (m ∷ ms) (s ∷ ss) z c =
      let there = c s (0, omega arith, refl) in
      let whole : is_seen_whole r v all s.path ≡ true = list_any_at (λ (t : Sight). text_eq s.path t.path && t.whole) all there.0 s there.1
      (ap (λ (t : Sight). text_eq s.path t.path && t.whole) there.2 ∙ both _ _ (text-alike s.path) z.0.whole) in
      let this : seen_meaning all s ≡ (unwrap_or (interface_path r m) [], interface_meaning_at r m) =
      sight-means r v ns all w m s z.0.is true whole ∙ (λ j. (unwrap_or (sym z.0.is.has_path j) [], interface_meaning_at r m)) in
      λ j. this j ∷ wholes-mean all ns w ms ss z.1 (λ t d. c t (contains-later s ss t d)) j
  wholes-mean all ns w _ _ z c = absurd z

  -- ---- the world

  module _ (w : World) (there : world_at r n ≡ Some w) (scope : Scope) (shows : ShowsWorld r w scope) where
    pub world-means : meaning_of_scope scope ≡ meant.world_meaning r w
    world-means = λ j. record {
      imports = entries-mean w.imports.entries scope.imports shows.imports (imports-are r v n w there scope shows) j;
      exports = entries-mean w.exports.entries scope.exports shows.exports (exports-are r v n w there scope shows) j;
    }

    abbrev pub seen : List Sight
    seen = flat_map of_instance scope.instances

    pub seen-whole : AllZip IsWhole (shown_by r w) seen
    seen-whole =
        let all = entries-sights (w.imports.entries ++ w.exports.entries) (scope.imports ++ scope.exports) (all-shown r v n w there scope shows) (all-entries r v n w there scope shows) in
        subst (λ (is : List Instance). AllZip IsWhole (shown_by r w) (flat_map of_instance is)) (sym shows.instances)
        (subst (λ (is : List WorldItem). AllZip IsWhole (named_in is) (flat_map of_instance (flat_map (λ (s : Seen). instances_of s.shown) (scope.imports ++ scope.exports))))
        (map-append (λ e. e.1) w.imports.entries w.exports.entries) all)

    pub seen-sights : AllZip (IsSight r) (shown_by r w) seen
    seen-sights = zip-kept IsWhole (IsSight r) (λ m s h. h.is) (shown_by r w) seen seen-whole

    shown-mean : map (seen_meaning seen) seen ≡ map (λ m. (unwrap_or (interface_path r m) [], interface_meaning_at r m)) (shown_by r w)
    shown-mean = wholes-mean seen (shown_by r w) seen-sights (shown_by r w) seen seen-whole (λ s c. c)

    -- ---- its name

    pub world-label : is_label (text_of w.name) ≡ true
    unfolding labels
    world-label = first_true (is_label (text_of w.name)) _ (world-passes labels r v.rules.labels n w there)

    module _ (p : Package) (home : PackageId) (at_home : w.package ≡ Some home) (stands : package_at r home.0 ≡ Some p) where
      -- the world's name is one of its package
      world-named : is_world_name p (text_of w.name) ≡ true
      unfolding places
      world-named =
          let rule = second_true (is_some w.package) _ (world-passes places r v.rules.places n w there) in
          let package_ : option_and_then (package_at r) (package_number w.package) ≡ Some p = ap (λ o. option_and_then (package_at r) (package_number o)) at_home ∙ stands in
          sym (lookup_any (λ (k : String Global). bytes_eq (text_of w.name) (text_of k)) p.worlds.entries)
          ∙ found (get_by_text p.worlds (text_of w.name)) (given-test (world_is_listed n (text_of w.name)) (option_and_then (package_at r) (package_number w.package)) true p package_ rule)
        where
          found : (o : Option WorldId) → is_id n (option_map (λ id. id.0) o) ≡ true → is_some o ≡ true
          found None h = absurd cc
          found (Some id) h = refl

      path-apart : (m : ℕ) (path : Text) → interface_path r m ≡ Some path → text_eq path (path_in (identity_of p.name) (text_of w.name)) ≡ false
      path-apart m path e = false_from_ne_true _ (λ q.
          let h : HasPath r m path = has-path r m path e in
          let a = package-name r v h.home.0 h.package_ h.stands in
          let b = package-name r v home.0 p stands in
          let parts = one_path (identity_of h.package_.name) (identity_of p.name) (text_of h.name) (text_of w.name) a.identity (path-label r v m path h) b.identity world-label
          (sym h.spelled ∙ text-same path (path_in (identity_of p.name) (text_of w.name)) q) in
          let homes : home.0 ≡ h.home.0 = package-once r v h.home.0 home.0 h.package_ p h.stands stands ((same_name h.package_.name p.name a.version b.version).1 parts.0) in
          let same : h.package_ ≡ p = some-same h.package_ p (sym h.stands ∙ ap (package_at r) (sym homes) ∙ stands) in
          let apart = interface-unnamed r v p m h.def h.name h.there h.named_ (ap (λ o. option_and_then (package_at r) (package_number o)) h.in_package ∙ h.stands ∙ ap Some same) in
          both_ways _ (ap (is_world_name p) (sym parts.1) ∙ apart) world-named)

      none-named : (ms : List ℕ) (ss : List Sight) → AllZip (IsSight r) ms ss → list_any (λ s. text_eq s.path (path_in (identity_of p.name) (text_of w.name))) ss ≡ false
      none-named [] [] z = refl
      none-named (m ∷ ms) (s ∷ ss) z = ap (λ b. b || list_any (λ s. text_eq s.path (path_in (identity_of p.name) (text_of w.name))) ss) (path-apart m s.path z.0.has_path) ∙ none-named ms ss z.1
      none-named _ _ z = absurd z

      package-means : world_with (identity_of p.name) (text_of w.name) scope ≡ Some (meant.world_package r p w)
      package-means =
          ap (λ b. provided b (record { identity = identity_of p.name; name = text_of w.name; world = meaning_of_scope scope; shown = from_entries (map (seen_meaning seen) seen) }))
          (both _ _ (all-sights-agree r v (shown_by r w) seen seen-sights) (both _ _ (all-sights-obey r v (shown_by r w) seen seen-sights) (ap not (none-named (shown_by r w) seen seen-sights))))
          ∙ (λ j. Some (record { identity = identity_of p.name; name = text_of w.name; world = world-means j; shown = from_entries (shown-mean j) }))

    pub world-package-means : (p : Package) → package_of_world r w ≡ Some p → world_with (identity_of p.name) (text_of w.name) scope ≡ Some (meant.world_package r p w)
    world-package-means p e = let home = given-by (λ (q : PackageId). package_at r q.0) w.package p e in package-means p home.0 home.1 home.2
