-- What is shown of a valid `Resolve`'s worlds is well named.
use Rattle.std.proofs.Common.{rules as std_rules, ◌≡◌, refl, sym, ◌∙◌, Bool, true, ◌&&◌, List, [], ◌∷◌, ◌++◌, map, filter, filter_map, Option, Some, ℕ, length}
use Rattle.std.proofs.lemmas.{Bool.ltb-true, Bool.and_from as both, List.Folds.list_all-append}
use Rattle.std.specs.{Prelude.String, Prelude.is_some, Prelude.if◌then◌else◌, Option.option_map_or, List.list_all, List.cons_option, Map.values_of}
use Rattle.std.specs.declared.alloc.Global.{Global}
use Rattle.wit_model.specs.declared.model.{Function.Function, Resolve.Resolve, WorldId.WorldId, WorldKey.WorldKey, Stability.Stability, InterfaceId.InterfaceId, PackageId.PackageId, WorldItem.WorldItem as Item, TypeOwner.TypeOwner, World.World, Docs.Docs}
use Rattle.wit_model.specs.{Text.Text, Text.text_of, Names.is_label, Lookup.interface_at, Lookup.world_at}
use Rattle.wit_model.specs.Rules.{in_list, passes, is_id, package_number, is_stability, key_in_range, item_in_range, entries_in_range, key_label, item_labels, entries_labels, item_type, is_name_key, is_named_of, is_member, is_interface_key, import_stands, export_stands, is_export_item}
use Rattle.wit_model.specs.Valid.{IsValid, is_place, item_function, numbers_in_range, labels, order_of_types, function_names, world_items}
use Rattle.print_output.specs.OutputCall.{is_one_line}
use Rattle.print_grammar.specs.Tree.{ExternTree.NamedPath, ExternTree.NamedInterface, WorldMember.WorldUse, WorldMember.WorldType, WorldMember}
use Rattle.print_grammar.specs.WellNamed.{is_well_prefix, is_well_extern, is_well_world_member}
use Rattle.print_items.specs.Shown.{WorldEntry, Used, shown_path, shown_uses, shown_declarations, shown_interface, extern_docs, extern_prefix, shown_extern, shown_import, shown_export, is_interface_item, is_freestanding_item, type_of_entry, listed_imports, imported_functions, shown_world_in, shown_world}
use Rattle.print_uses.proofs.WellLists.{all_both, each_well, kept_well, given_well}
use Rattle.print_uses.proofs.FunctionsWell.{signature_well, function_prefix_well}
use Rattle.print_uses.proofs.Valid.{is_known_function, is_named_interface, is_known_listed, world_rule}
use Rattle.print_uses.proofs.Valid.{is_known_use, is_well_declared_with, path_well, uses_known, declarations_well, freestanding_label, interface_well}
use Rattle.print_items.proofs.ShownWell.{docs_well, gates_well, external_id_well}
use Rattle.base_lemmas.proofs.{Bools.left_of, Bools.right_of, Elements.all_weaker as weaker_all, Elements.joined_well, Lists.within_there as one_there}
use Rattle.wit_model.specs.declared.model.WorldKey.TheVariants as key
use Rattle.wit_model.specs.declared.model.WorldItem.TheVariants as item
use Rattle.wit_model.specs.declared.model.TypeOwner.TheVariants as owner

-- what stands under an interface is that interface
abbrev stands_under : Resolve → WorldKey → Item → Bool
stands_under r (key.Interface id) i = is_interface_key r id.0 i
stands_under r (key.Name s) i = true

-- a function of an entry has its key's name and belongs to what it is a member of
abbrev is_own_entry : Resolve → ℕ → WorldEntry → Bool
is_own_entry r n e = passes (λ f. is_name_key (text_of f.name) e.0 && is_member r (owner.World (record { 0 = n })) f) (item_function e.1)

-- an entry of the world of this number, in range, under a label or an interface
abbrev pub is_known_entry : Resolve → ℕ → WorldEntry → Bool
is_known_entry r n e = (key_in_range r e.0 && item_in_range r e.1) && ((key_label e.0 e.1 && item_labels e.1) && (is_own_entry r n e && stands_under r e.0 e.1))

-- a function of such an entry belongs to a resource of the world, or to none
pub entry_member : (r : Resolve) (n : ℕ) (k : WorldKey) (f : Function) → is_known_entry r n (k, item.Function f) ≡ true → is_member r (owner.World (record { 0 = n })) f ≡ true
entry_member r n k f h = search (std_rules, right_of, left_of)

import_under : (r : Resolve) (n : ℕ) (k : WorldKey) (i : Item) → import_stands r n k i ≡ true → stands_under r k i ≡ true
import_under r n x i h = search std_rules

export_under : (r : Resolve) (k : WorldKey) (i : Item) → export_stands r k i ≡ true → stands_under r k i ≡ true
export_under r x i h = search std_rules

export_item : (r : Resolve) (k : WorldKey) (i : Item) → export_stands r k i ≡ true → is_export_item i ≡ true
export_item r x i h = search std_rules

pub interface_import : (i : Item) → is_interface_item i ≡ true → is_export_item i ≡ true
interface_import x h = search std_rules

pub function_import : (i : Item) → is_freestanding_item i ≡ true → is_export_item i ≡ true
function_import x h = search std_rules

module _ (r : Resolve) (valid : IsValid r) where
  -- ---- imports and exports

  key_named : (n : ℕ) → in_list r.interfaces.items n ≡ true → passes (λ other. is_some other.name) (interface_at r n) ≡ true → is_named_interface r n ≡ true
  key_named n inside h = search (std_rules, one_there r.interfaces.items n (ltb-true n (length r.interfaces.items) inside), ltb-true n (length r.interfaces.items) inside)

  extern_docs_well : (k : WorldKey) (id : InterfaceId) (docs : Docs) → list_all is_one_line (extern_docs r k id docs) ≡ true
  extern_docs_well x id docs = search (std_rules, docs_well)

  interface_prefix_well : (k : WorldKey) (id : InterfaceId) (gates : Stability) (docs : Docs) (external_id : Option (String Global)) → is_stability gates ≡ true
      → is_well_prefix (extern_prefix r k (item.Interface id gates docs external_id)) ≡ true
  interface_prefix_well k id gates docs external_id h = search (std_rules, both, extern_docs_well, gates_well, external_id_well)

  -- what an interface under a label is: a path, or what it has
  labelled_interface_well : (here : PackageId) (s : Text) (id : InterfaceId) → is_label s ≡ true → (b : Bool) → is_named_interface r id.0 ≡ b
      → is_well_extern (if b then NamedPath s (shown_path r here id) else NamedInterface s (option_map_or (shown_interface r id) (interface_at r id.0) [])) ≡ true
  labelled_interface_well here s id label x named = search (std_rules, both, path_well, interface_well)

  pub extern_well : (here : PackageId) (n : ℕ) (k : WorldKey) (i : Item) → is_known_entry r n (k, i) ≡ true → is_export_item i ≡ true
      → (is_well_prefix (extern_prefix r k i) && is_well_extern (shown_extern r here k i)) ≡ true
  extern_well here n (key.Interface m) (item.Interface id gates docs external_id) known shown =
      let stable : is_stability gates ≡ true = left_of _ _ (right_of (in_list r.interfaces.items m.0 && in_list r.interfaces.items id.0) _ known) in
      let stands = right_of (is_stability gates) _ (right_of (in_list r.interfaces.items m.0 && in_list r.interfaces.items id.0) _ known) in
      both (is_well_prefix (extern_prefix r (key.Interface m) (item.Interface id gates docs external_id))) _ (interface_prefix_well (key.Interface m) id gates docs external_id stable)
      (path_well r valid here m (key_named m.0 (left_of _ _ (left_of (in_list r.interfaces.items m.0 && in_list r.interfaces.items id.0) _ known)) (right_of (is_id m.0 (Some id.0)) _ stands)))
  extern_well here n (key.Interface m) (item.Function f) known shown = search (std_rules, right_of)
  extern_well here n (key.Name s) (item.Interface id gates docs external_id) known shown =
      let named : (is_label (text_of s) && is_stability gates) ≡ true = left_of _ _ (right_of (in_list r.interfaces.items id.0) _ known) in
      both (is_well_prefix (extern_prefix r (key.Name s) (item.Interface id gates docs external_id))) _
      (interface_prefix_well (key.Name s) id gates docs external_id (right_of (is_label (text_of s)) _ named))
      (labelled_interface_well here (text_of s) id (left_of _ _ named) (is_named_interface r id.0) refl)
  extern_well here n (key.Name s) (item.Function f) known shown = search (std_rules, left_of, right_of, both, function_prefix_well, freestanding_label, signature_well)
  extern_well here n _ (item.Type_ id) known shown = absurd cc

  -- ---- types and functions of a world

  pub entry_function_known : (n : ℕ) (k : WorldKey) (i : Item) → is_known_entry r n (k, i) ≡ true → passes (is_known_function r (owner.World (record { 0 = n }))) (item_function i) ≡ true
  entry_function_known n k x known = search std_rules

  listed_imports_known : (o : TypeOwner) (es : List WorldEntry) → entries_labels es ≡ true → list_all (is_named_of r o) (filter_map item_type (values_of es)) ≡ true
      → list_all (is_known_listed r o) (filter_map (λ e. type_of_entry e.0 e.1) es) ≡ true
  listed_imports_known o [] named own = refl
  listed_imports_known o (e ∷ es) named own = go e.0 e.1 (left_of _ _ named) own (listed_imports_known o es (right_of (key_label e.0 e.1 && item_labels e.1) _ named))
    where
      go : (k : WorldKey) (i : Item) → (key_label k i && item_labels i) ≡ true → list_all (is_named_of r o) (cons_option (item_type i) (filter_map item_type (values_of es))) ≡ true
          → (list_all (is_named_of r o) (filter_map item_type (values_of es)) ≡ true → list_all (is_known_listed r o) (filter_map (λ x. type_of_entry x.0 x.1) es) ≡ true)
          → list_all (is_known_listed r o) (cons_option (type_of_entry k i) (filter_map (λ x. type_of_entry x.0 x.1) es)) ≡ true
      go (key.Name s) (item.Type_ id) label first rest =
          both (is_label (text_of s) && is_named_of r o id.0) _ (both (is_label (text_of s)) _ (left_of _ _ label) (left_of _ _ first)) (rest (right_of (is_named_of r o id.0) _ first))
      go (key.Interface m) (item.Type_ id) label first rest = rest (right_of (is_named_of r o id.0) _ first)
      go _ _ label first rest = rest first

  -- ---- what validity says

  -- What is known of a world that is shown.
  pub record IsShownWorld (n : ℕ) (w : World) : Type 0 where
    pub imports : list_all (is_known_entry r n) w.imports.entries ≡ true
    pub exports : list_all (λ e. is_known_entry r n e && is_export_item e.1) w.exports.entries ≡ true
    pub types : list_all (is_known_listed r (owner.World (record { 0 = n }))) (listed_imports w) ≡ true

  entries_known : (n : ℕ) (es : List WorldEntry) → entries_in_range r es ≡ true → entries_labels es ≡ true → list_all (is_own_entry r n) es ≡ true → list_all (λ e. stands_under r e.0 e.1) es ≡ true
      → list_all (is_known_entry r n) es ≡ true
  entries_known n es range named own under = search (std_rules, all_both)

  pub world_is_shown : (n : ℕ) (w : World) → world_at r n ≡ Some w → IsShownWorld n w
  unfolding numbers_in_range labels order_of_types function_names world_items
  world_is_shown n w e =
      let range = right_of (passes (in_list r.packages.items) (package_number w.«package»)) _ (right_of (is_place n) _ (world_rule r valid numbers_in_range valid.rules.numbers_in_range n w e)) in
      let named = right_of (is_stability w.stability) _ (right_of (is_label (text_of w.name)) _ (world_rule r valid labels valid.rules.labels n w e)) in
      let stand = world_rule r valid world_items valid.rules.world_items n w e in
      let own = sym (list_all-append (is_own_entry r n) w.imports.entries w.exports.entries) ∙ world_rule r valid function_names valid.rules.function_names n w e in
      let exported = right_of (list_all (λ x. import_stands r n x.0 x.1) w.imports.entries) _ stand in
      record {
        imports = entries_known n w.imports.entries (left_of _ _ range) (left_of _ _ named) (left_of _ _ own)
            (weaker_all (λ x. import_stands r n x.0 x.1) (λ x. stands_under r x.0 x.1) (λ x h. import_under r n x.0 x.1 h) w.imports.entries (left_of _ _ stand));
        exports = all_both (is_known_entry r n) (λ x. is_export_item x.1) w.exports.entries
            (entries_known n w.exports.entries (right_of (entries_in_range r w.imports.entries) _ range) (right_of (entries_labels w.imports.entries) _ named)
            (right_of (list_all (is_own_entry r n) w.imports.entries) _ own) (weaker_all (λ x. export_stands r x.0 x.1) (λ x. stands_under r x.0 x.1) (λ x h. export_under r x.0 x.1 h)
            w.exports.entries exported)) (weaker_all (λ x. export_stands r x.0 x.1) (λ x. is_export_item x.1) (λ x h. export_item r x.0 x.1 h) w.exports.entries exported);
        types = listed_imports_known (owner.World (record { 0 = n })) w.imports.entries (left_of _ _ named) (left_of _ _ (world_rule r valid order_of_types valid.rules.order_of_types n w e));
      }

  -- ---- worlds

  use_well : (here : PackageId) (used : Used) → is_known_use r used ≡ true → is_well_world_member (WorldUse used.prefix (shown_path r here used.interface) used.names) ≡ true
  use_well here used known = search (std_rules, right_of, is_named_interface, both, left_of, path_well)

  world_in_well : (id : WorldId) (w : World) (here : PackageId) → IsShownWorld id.0 w → list_all is_well_world_member (shown_world_in r id w here) ≡ true
  world_in_well id w here h = joined_well is_well_world_member (interfaces ++ uses ++ declared ++ functions) (map (shown_export r here) w.exports.entries)
      (joined_well is_well_world_member (interfaces ++ uses ++ declared) functions
      (joined_well is_well_world_member (interfaces ++ uses) declared (joined_well is_well_world_member interfaces uses
      (kept_well (is_known_entry r id.0) (λ e. is_interface_item e.1) (shown_import r here) is_well_world_member (λ e known test. extern_well here id.0 e.0 e.1 known (interface_import e.1 test))
      w.imports.entries h.imports) (each_well (is_known_use r) (λ used. WorldUse used.prefix (shown_path r here used.interface) used.names) is_well_world_member (use_well here)
      (shown_uses r (owner.World id) (listed_imports w)) (uses_known r valid (owner.World id) refl (listed_imports w) h.types)))
      (each_well is_well_declared_with (λ d. WorldType d.prefix d.declared) is_well_world_member (λ d g. g) (shown_declarations r (owner.World id) (imported_functions w) (listed_imports w))
      (declarations_well r valid (owner.World id) refl (imported_functions w) (listed_imports w) functions_known h.types)))
      (kept_well (is_known_entry r id.0) (λ e. is_freestanding_item e.1) (shown_import r here) is_well_world_member (λ e known test. extern_well here id.0 e.0 e.1 known (function_import e.1 test))
      w.imports.entries h.imports)) (each_well (λ e. is_known_entry r id.0 e && is_export_item e.1) (shown_export r here) is_well_world_member
      (λ e known. extern_well here id.0 e.0 e.1 (left_of _ _ known) (right_of (is_known_entry r id.0 e) _ known)) w.exports.entries h.exports)
    where
      interfaces : List WorldMember
      interfaces = map (shown_import r here) (filter (λ e. is_interface_item e.1) w.imports.entries)

      uses : List WorldMember
      uses = map (λ used. WorldUse used.prefix (shown_path r here used.interface) used.names) (shown_uses r (owner.World id) (listed_imports w))

      declared : List WorldMember
      declared = map (λ d. WorldType d.prefix d.declared) (shown_declarations r (owner.World id) (imported_functions w) (listed_imports w))

      functions : List WorldMember
      functions = map (shown_import r here) (filter (λ e. is_freestanding_item e.1) w.imports.entries)

      functions_known : list_all (is_known_function r (owner.World id)) (imported_functions w) ≡ true
      functions_known = given_well (is_known_entry r id.0) (λ e. item_function e.1) (is_known_function r (owner.World id)) (λ e known. entry_function_known id.0 e.0 e.1 known)
          w.imports.entries h.imports

  -- What is shown of a world is well named.
  pub world_well : (id : WorldId) (w : World) → world_at r id.0 ≡ Some w → list_all is_well_world_member (shown_world r id w) ≡ true
  world_well id w e = search (std_rules, world_in_well, world_is_shown)
