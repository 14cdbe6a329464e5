-- What validity says of an import and of an export of a world.
use Rattle.std.proofs.Common.{rules as std_rules, ◌≡◌, sym, ◌∙◌, ℕ, Bool, true, ◌&&◌, List, ◌++◌, Option, Some, None}
use Rattle.std.proofs.lemmas.List.Elements.{Contains-append_left, Contains-append_right}
use Rattle.std.specs.{Prelude.is_some, Prelude.option_to_list, List.Contains, List.list_all}
use Rattle.indexmap.specs.IndexMap.{values}
use Rattle.wit_model.specs.{Text.text_of, Names.is_label, Lookup.world_at, Lookup.interface_path, Parts.function_types, Uses.items_of, Uses.item_interface}
use Rattle.wit_model.specs.Rules.{passes, in_list, is_id, key_in_range, item_in_range, entries_in_range, key_label, item_labels, entries_labels, is_name_key, is_member, is_stability, function_stays, is_shallow, is_interface_key, is_own_type, item_type, import_stands, export_stands, is_freestanding, package_number}
use Rattle.wit_model.specs.Valid.{IsValid, as_world, is_place, item_function, functions_of_world, numbers_in_range, labels, owners, depths, function_names, world_items}
use Rattle.wit_model.specs.declared.model.{Resolve.Resolve, World.World, WorldKey.WorldKey, WorldItem.WorldItem, Function.Function}
use Rattle.wit_model.proofs.{Lists.list_all_filter_map, OnePath.found-in, OnePath.named-path, ValidLemmas.world_passes as world-passes}
use Rattle.base_lemmas.proofs.{Bools.left_of as first_true, Bools.right_of as second_true, Elements.all-contained, Elements.contains-map}
use Rattle.wit_model.specs.declared.model.WorldKey.TheVariants as key

-- a key that is an interface is that of the item
abbrev pub key_stands : Resolve → WorldKey → WorldItem → Bool
key_stands r (key.Interface id) i = is_interface_key r id.0 i
key_stands r (key.Name name) i = true

pub record IsEntry (r : Resolve) (n : ℕ) (e : WorldKey × WorldItem) : Type 0 where
  pub key_range : key_in_range r e.0 ≡ true
  pub item_range : item_in_range r e.1 ≡ true
  pub key_labelled : key_label e.0 e.1 ≡ true
  pub item_labelled : item_labels e.1 ≡ true
  pub named_ : passes (λ f. is_name_key (text_of f.name) e.0 && is_member r (as_world n) f) (item_function e.1) ≡ true
  pub stays : passes (function_stays r (as_world n)) (item_function e.1) ≡ true
  pub flat : passes (λ f. list_all (is_shallow r) (function_types f)) (item_function e.1) ≡ true
  pub keyed : key_stands r e.0 e.1 ≡ true
  pub typed : passes (is_own_type r n e.0) (item_type e.1) ≡ true

given-list : {A : Type 0} (p : A → Bool) (o : Option A) → list_all p (option_to_list o) ≡ true → passes p o ≡ true
given-list p x h = search std_rules

-- an interface is no type
interface-item : (k : ℕ) (i : WorldItem) → is_id k (item_interface i) ≡ true → item_type i ≡ None
interface-item k x h = search std_rules

-- what may be exported may be imported
export-import : (r : Resolve) (n : ℕ) (k : WorldKey) (i : WorldItem) → export_stands r k i ≡ true → import_stands r n k i ≡ true
export-import r n x i h = search std_rules

-- an exported function is of no resource
export-free : (r : Resolve) (k : WorldKey) (i : WorldItem) → export_stands r k i ≡ true → passes (λ f. is_freestanding f.kind) (item_function i) ≡ true
export-free r k x h = search std_rules

module _ (r : Resolve) (v : IsValid r) (n : ℕ) (w : World) (there : world_at r n ≡ Some w) where
  -- what holds of each function of the world
  of-function : (p : Function → Bool) → list_all p (functions_of_world w) ≡ true → (i : WorldItem) → Contains (items_of w) i → passes p (item_function i) ≡ true
  of-function p h i c = given-list p (item_function i) (all-contained (λ i. list_all p (option_to_list (item_function i))) (items_of w) i
      (sym (list_all_filter_map p item_function (items_of w)) ∙ h) c)

  -- an entry of its imports or of its exports
  of-entry : (es : List (WorldKey × WorldItem)) (e : WorldKey × WorldItem) → Contains es e → Contains (items_of w) e.1 → Contains (w.imports.entries ++ w.exports.entries) e
      → entries_in_range r es ≡ true → entries_labels es ≡ true → import_stands r n e.0 e.1 ≡ true → IsEntry r n e
  unfolding owners depths function_names
  of-entry es e c i d ranges labelled stands =
      let range = all-contained (λ e. key_in_range r e.0 && item_in_range r e.1) es e ranges c in
      let label = all-contained (λ e. key_label e.0 e.1 && item_labels e.1) es e labelled c in
      record {
        key_range = first_true (key_in_range r e.0) _ range;
        item_range = second_true (key_in_range r e.0) _ range;
        key_labelled = first_true (key_label e.0 e.1) _ label;
        item_labelled = second_true (key_label e.0 e.1) _ label;
        named_ = all-contained (λ e. passes (λ f. is_name_key (text_of f.name) e.0 && is_member r (as_world n) f) (item_function e.1)) (w.imports.entries ++ w.exports.entries) e
            (world-passes function_names r v.rules.function_names n w there) d;
        stays = of-function (function_stays r (as_world n)) (world-passes owners r v.rules.owners n w there) e.1 i;
        flat = of-function (λ f. list_all (is_shallow r) (function_types f)) (world-passes depths r v.rules.depths n w there) e.1 i;
        keyed = search std_rules;
        typed = search std_rules;
      }

  ranges : (entries_in_range r w.imports.entries && entries_in_range r w.exports.entries) ≡ true
  unfolding numbers_in_range
  ranges = second_true (passes (in_list r.packages.items) (package_number w.package)) _ (second_true (is_place n) _ (world-passes numbers_in_range r v.rules.numbers_in_range n w there))

  names : (entries_labels w.imports.entries && entries_labels w.exports.entries) ≡ true
  unfolding labels
  names = second_true (is_stability w.stability) _ (second_true (is_label (text_of w.name)) _ (world-passes labels r v.rules.labels n w there))

  stands : (list_all (λ e. import_stands r n e.0 e.1) w.imports.entries && list_all (λ e. export_stands r e.0 e.1) w.exports.entries) ≡ true
  unfolding world_items
  stands = world-passes world_items r v.rules.world_items n w there

  pub import-stands : (e : WorldKey × WorldItem) → Contains w.imports.entries e → import_stands r n e.0 e.1 ≡ true
  import-stands e c = all-contained (λ e. import_stands r n e.0 e.1) w.imports.entries e (first_true (list_all (λ e. import_stands r n e.0 e.1) w.imports.entries) _ stands) c

  pub export-stands : (e : WorldKey × WorldItem) → Contains w.exports.entries e → export_stands r e.0 e.1 ≡ true
  export-stands e c = all-contained (λ e. export_stands r e.0 e.1) w.exports.entries e (second_true (list_all (λ e. import_stands r n e.0 e.1) w.imports.entries) _ stands) c

  pub import-entry : (e : WorldKey × WorldItem) → Contains w.imports.entries e → IsEntry r n e
  import-entry e c = of-entry w.imports.entries e c (Contains-append_left (values w.imports) (values w.exports) e.1 (contains-map (λ e. e.1) w.imports.entries e c))
      (Contains-append_left w.imports.entries w.exports.entries e c) (first_true (entries_in_range r w.imports.entries) _ ranges) (first_true (entries_labels w.imports.entries) _ names)
      (import-stands e c)

  pub export-entry : (e : WorldKey × WorldItem) → Contains w.exports.entries e → IsEntry r n e
  export-entry e c = of-entry w.exports.entries e c (Contains-append_right (values w.imports) (values w.exports) e.1 (contains-map (λ e. e.1) w.exports.entries e c))
      (Contains-append_right w.imports.entries w.exports.entries e c) (second_true (entries_in_range r w.imports.entries) _ ranges) (second_true (entries_labels w.imports.entries) _ names)
      (export-import r n e.0 e.1 (export-stands e c))

  pub export-freestanding : (e : WorldKey × WorldItem) → Contains w.exports.entries e → passes (λ f. is_freestanding f.kind) (item_function e.1) ≡ true
  export-freestanding e c = export-free r e.0 e.1 (export-stands e c)

-- a key that is an interface has a path
pub interface-key-path : (r : Resolve) → IsValid r → (n : ℕ) (e : WorldKey × WorldItem) → IsEntry r n e → (k : ℕ) → is_interface_key r k e.1 ≡ true → in_list r.interfaces.items k ≡ true
    → is_some (interface_path r k) ≡ true
interface-key-path r v n e is k h inside = search (std_rules, found-in, named-path, second_true)
