-- What shows an import or an export of a valid world obeys the rules of items.
use Rattle.std.proofs.Common.{rules as std_rules, ◌≡◌, refl, sym, subst, ap, ◌∙◌, ℕ, zero, suc, Bool, true, false, ◌&&◌, List, [], ◌∷◌, map, Option, Some, arith}
use Rattle.std.proofs.lemmas.{List.Elements.Contains-append_right, Option.same_Some as same-some}
use Rattle.std.specs.{Prelude.is_some, Prelude.option_to_list, Prelude.filter_map, List.AllZip, List.Contains, List.list_all, Option.option_map_or}
use Rattle.wit_model.specs.{Text.Text, Text.text_of, Uses.has, Uses.item_interface, Meant.type_meaning_at, Meant.signature_of, Valid.IsValid, Valid.as_world}
use Rattle.wit_model.specs.{Tree.Place, Types.number_of, Lookup.type_at, Lookup.interface_path, Lookup.key_text, Lookup.place_of_path, Lookup.resource_of}
use Rattle.wit_model.specs.Parts.{same_owner, has_owner, met_by, met_of, used_by_function, used_by_type, function_types, function_numbers}
use Rattle.wit_model.specs.Rules.{passes, text_is, is_name_key, item_type, used_types, used_interfaces, uses_stand_before}
use Rattle.wit_model.specs.declared.model.{Resolve.Resolve, TypeDef.TypeDef, TypeId.TypeId, WorldKey.WorldKey, WorldItem.WorldItem, Function.Function}
use Rattle.wit_model.proofs.{Owners.met_step, TextLemmas.text_named as text-named}
use Rattle.wit_model.proofs.{Elements.contains-flat, Elements.none-in, Elements.has-contains, OnePath.found-in, PartsLemmas.owner_same as same-owner}
use Rattle.comp_meaning.specs.Follow.{View, Seen, Shown, interface_of}
use Rattle.comp_meaning.specs.Rules.{is_interface, is_function, is_item, declares_a_resource, resources_seen}
use Rattle.encode_shown.specs.Views.{instance_key, shown_item, IsViewOf, ShowsItem}
use Rattle.encode_shown.proofs.{Basics.valid-references, Functions.IsResourceOf, Functions.function-shown, Entries.IsEntry, Entries.interface-key-path}
use Rattle.encode_shown.proofs.{Members.IsNamedType, Keys.named-key, Zips.zip-right, Zips.given-contains}
use Rattle.encode_shown.proofs.Interfaces.{interface-obeys, resource-declared, named-type-obeys, one-more-resource}
use Rattle.base_lemmas.proofs.Bools.{left_of as first_true, right_of as second_true}
use Rattle.base_lemmas.proofs.{Elements.all-contained, Elements.contains-one, Elements.filter_keeps as contains-filter, Numbers.equal}
use Rattle.wit_model.specs.Tree as tree
use Rattle.wit_model.specs.declared.model.WorldKey.TheVariants as key
use Rattle.wit_model.specs.declared.model.WorldItem.TheVariants as item
use Rattle.comp_meaning.specs.Follow as follow

-- ---- places

-- a key that is an interface has a path
abbrev pub has_home : WorldKey → Option Text → Bool
has_home (key.Interface id) o = is_some o
has_home (key.Name name) o = true

pub instance-home : (k : WorldKey) (o : Option Text) → has_home k o ≡ true → interface_of (instance_key k o) ≡ o
instance-home x y h = search std_rules

pub path-home : (o : Option Text) → follow.instance_place o ≡ place_of_path o
path-home x = search std_rules

pub typed-item : (i : WorldItem) (m : ℕ) → item_type i ≡ Some m → (id : TypeId) × (i ≡ item.Type_ id) × (id.0 ≡ m)
typed-item x m e = search std_rules

-- a resource that is seen
pub resource-among : (ss : List Seen) (s : Seen) (d : tree.TypeDeclaration) → Contains ss s → s.shown ≡ Shown.declares d → declares_a_resource d ≡ true → Contains (resources_seen ss) s.key
resource-among [] s d c e h = none-in s c
resource-among (x ∷ ss) s d (zero, l, q) e h = search std_rules
resource-among (x ∷ ss) s d (suc k, l, q) e h = search (std_rules, one-more-resource, resource-among ss s d (k, omega (arith, l), q) e h)

module _ (r : Resolve) (v : IsValid r) (n : ℕ) where
  -- an interface under a key that is an interface has a path
  pub entry-home : (k : WorldKey) (i : WorldItem) → IsEntry r n (k, i) → (m : ℕ) → item_interface i ≡ Some m → has_home k (interface_path r m) ≡ true
  entry-home x i is m e = search (std_rules, equal, first_true, interface-key-path)

  -- a type of a world is a named type of the world, under its name
  pub world-type : (k : WorldKey) (id : TypeId) → IsEntry r n (k, item.Type_ id) → IsNamedType r (as_world n) id.0 (key_text r k)
  world-type (key.Interface j) id is = absurd (let h = is.typed in cc)
  world-type (key.Name name) id is =
      let found = found-in r.types.items id.0 is.item_range in
      let tests = ap (passes (λ (def : TypeDef). text_is def.name (text_of name) && same_owner def.owner (as_world n))) (sym found.1) ∙ is.typed in
      let string = text-named found.0.name (text_of name) (first_true (text_is found.0.name (text_of name)) _ tests) in
      record {
        def = found.0;
        there = found.1;
        string = string.0;
        named_ = string.1;
        owned = same-owner found.0.owner (as_world n) (second_true (text_is found.0.name (text_of name)) _ tests);
        name = sym string.2;
      }

  -- where the resource of a function stands
  abbrev pub HasHome : List Text → WorldItem → Type 0
  HasHome resources i = (f : Function) → i ≡ item.Function f → (m : ℕ) (name : Text) → resource_of f.kind ≡ Some m → IsResourceOf r v (as_world n) m name → Contains resources name

  pub item-obeys : (resources : List Text) (k : WorldKey) (i : WorldItem) (view : View) → IsEntry r n (k, i) → IsViewOf r i view → HasHome resources i
      → is_item resources (key_text r k) (shown_item r k i view) ≡ true
  item-obeys resources k (item.Interface id stability docs external_id) view is shows home =
      ap (λ o. is_interface (follow.instance_place o) view) (instance-home k (interface_path r id.0) (entry-home k (item.Interface id stability docs external_id) is id.0 refl))
      ∙ ap (λ p. is_interface p view) (path-home (interface_path r id.0)) ∙ interface-obeys r v id.0 view shows
  item-obeys resources k (item.Function f) view is shows home =
      let named = named-key k (text_of f.name) (first_true (is_name_key (text_of f.name) k) _ is.named_) in
      ap (λ t. is_function Place.here resources t (signature_of r f)) (ap (key_text r) named.1 ∙ named.2)
      ∙ function-shown r v (as_world n) f resources is.item_range is.item_labelled is.stays is.flat (second_true (is_name_key (text_of f.name) k) _ is.named_) (home f refl)
  item-obeys resources k (item.Type_ id) view is shows home = named-type-obeys r v (as_world n) refl id.0 (key_text r k) (world-type k id is)

  pub seen-obeys : (resources : List Text) (e : WorldKey × WorldItem) (s : Seen) → IsEntry r n e → ShowsItem r e s → HasHome resources e.1 → is_item resources s.key s.shown ≡ true
  seen-obeys resources e s is shows home = ap (λ (x : Seen). is_item resources x.key x.shown) shows.is ∙ item-obeys resources e.0 e.1 shows.view is shows.is_view home

  -- ---- resources of a world

  -- a function uses its resource
  resource-used : (f : Function) (m : ℕ) (name : Text) → resource_of f.kind ≡ Some m → IsResourceOf r v (as_world n) m name → Contains (used_types r n (item.Function f)) m
  resource-used f m name e is =
      let number : Contains (function_numbers f) m = Contains-append_right (filter_map number_of (function_types f)) (option_to_list (resource_of f.kind)) m
      (subst (λ (o : Option ℕ). Contains (option_to_list o) m) (sym e) (contains-one m)) in
      let meets : Contains (met_by (met_of r) m) m = subst (λ (ns : List ℕ). Contains ns m)
      (sym (met_step r (valid-references r v) m is.def is.there ∙ ap (λ o. option_map_or (λ x. m ∷ []) o (used_by_type r is.def)) is.named_)) (contains-one m) in
      let own : has_owner r (as_world n) m ≡ true = ap (λ o. option_map_or (λ def. same_owner def.owner (as_world n)) o false) is.there ∙ ap (λ o. same_owner o (as_world n)) is.owned
      ∙ Rattle.base_lemmas.proofs.Numbers.same-number n in
      contains-filter (has_owner r (as_world n)) (used_by_function r f) m (contains-flat (met_by (met_of r)) (function_numbers f) m m number meets) own

  -- a resource of the world that stands among these is seen
  resource-seen : (before : List (WorldKey × WorldItem)) (ss : List Seen) → AllZip (ShowsItem r) before ss → ((e : WorldKey × WorldItem) → Contains before e → IsEntry r n e)
      → (m : ℕ) (name : Text) → has (filter_map item_type (map (λ e. e.1) before)) m ≡ true → IsResourceOf r v (as_world n) m name → Contains (resources_seen ss) name
  resource-seen before ss z entries m name h is =
      let given = given-contains item_type (map (λ e. e.1) before) m (has-contains _ m h) in
      let entry = Rattle.base_lemmas.proofs.Elements.map_from (λ (e : WorldKey × WorldItem). e.1) before given.0 given.1 in
      let typed = typed-item entry.0.1 m (ap item_type entry.2 ∙ given.2) in
      let seen = zip-right (ShowsItem r) before ss entry.0 z entry.1 in
      of-type entry.0.0 entry.0.1 (entries entry.0 entry.1) typed.0 typed.1 typed.2 seen.0 seen.1 seen.2
    where
      of-type : (k : WorldKey) (i : WorldItem) → IsEntry r n (k, i) → (id : TypeId) → i ≡ item.Type_ id → id.0 ≡ m → (s : Seen) → Contains ss s → ShowsItem r (k, i) s
          → Contains (resources_seen ss) name
      of-type k i entry id e q s c shows =
          let t = world-type k id (subst (λ (x : WorldItem). IsEntry r n (k, x)) e entry) in
          let same : t.def ≡ is.def = same-some t.def is.def (sym t.there ∙ ap (type_at r) q ∙ is.there) in
          let string : t.string ≡ is.string = same-some t.string is.string (sym t.named_ ∙ ap (λ (d : TypeDef). d.name) same ∙ is.named_) in
          let text : s.key ≡ name = ap (λ (x : Seen). x.key) shows.is ∙ t.name ∙ ap text_of string ∙ sym is.text in
          let shown : s.shown ≡ Shown.declares (type_meaning_at r id.0).declaration = ap (λ (x : Seen). x.shown) shows.is ∙ ap (λ x. shown_item r k x shows.view) e in
          let resource : declares_a_resource (type_meaning_at r id.0).declaration ≡ true =
          ap (λ j. declares_a_resource (type_meaning_at r j).declaration) q ∙ resource-declared r m is.def is.there is.itself in
          subst (λ (u : Text). Contains (resources_seen ss) u) text (resource-among ss s (type_meaning_at r id.0).declaration c shown resource)

  pub import-home : (before : List (WorldKey × WorldItem)) (ss : List Seen) → AllZip (ShowsItem r) before ss → ((e : WorldKey × WorldItem) → Contains before e → IsEntry r n e)
      → (i : WorldItem) → uses_stand_before r n (map (λ e. e.1) before) i ≡ true → HasHome (resources_seen ss) i
  import-home before ss z entries i h f e m name q is =
      let used : list_all (has (filter_map item_type (map (λ e. e.1) before))) (used_types r n i) ≡ true =
      second_true (list_all (has (filter_map item_interface (map (λ e. e.1) before))) (used_interfaces r i)) _ h in
      resource-seen before ss z entries m name
      (all-contained (has (filter_map item_type (map (λ e. e.1) before))) (used_types r n i) m used (subst (λ x. Contains (used_types r n x) m) (sym e) (resource-used f m name q is))) is
