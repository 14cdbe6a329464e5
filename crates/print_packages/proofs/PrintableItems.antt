-- What is known of an import or an export that can be printed.
use Rattle.std.proofs.Common.{rules as std_rules, ◌≡◌, refl, sym, ap, subst, ◌∙◌, Bool, true, false, ◌&&◌, ◌||◌, not, Option, Some}
use Rattle.std.specs.Prelude.{String, is_some}
use Rattle.std.specs.declared.alloc.Global.{Global}
use Rattle.wit_model.specs.declared.model.{Resolve.Resolve, Docs.Docs, Function.Function, WorldKey.WorldKey}
use Rattle.wit_model.specs.declared.model.{Interface.Interface, InterfaceId.InterfaceId, PackageId.PackageId, Stability.Stability, WorldItem.WorldItem}
use Rattle.wit_model.specs.{Lookup.interface_at, Text.Text, Text.text_of, Rules.is_export_item, Rules.item_in_range, Rules.key_in_range}
use Rattle.print_grammar.specs.{Tree.ExternTree.NamedFunction, Tree.ExternTree.NamedInterface, Tree.ExternTree.NamedPath, Calls.world_extern_calls}
use Rattle.print_grammar.specs.WellNamed.{is_well_extern, is_well_path, is_well_prefix, is_well_world_member}
use Rattle.print_items.specs.ItemCalls.{labelled_tree}
use Rattle.print_items.specs.Shown.{extern_prefix, function_prefix, shown_import, shown_interface, shown_path, shown_signature}
use Rattle.print_uses.specs.Printable.{entry_calls, is_printable_entry, is_printable_import, is_shown_item}
use Rattle.base_lemmas.proofs.Bools.{left_of, right_of}
use Rattle.wit_model.specs.declared.model.WorldKey.TheVariants as key
use Rattle.wit_model.specs.declared.model.WorldItem.TheVariants as item

module _ (r : Resolve) (here : PackageId) where
  -- what is shown as an import can be printed as one
  pub import_shown : (k : WorldKey) (i : WorldItem) → is_printable_import r here (k, i) ≡ true → is_export_item i ≡ true → is_printable_entry r here (k, i) ≡ true
  import_shown k i h e = subst (λ b. (not b || is_printable_entry r here (k, i)) ≡ true) e h

  well_of : (k : WorldKey) (i : WorldItem) → is_printable_entry r here (k, i) ≡ true → is_well_world_member (shown_import r here (k, i)) ≡ true
  well_of k i h = right_of (is_shown_item k i) _ (right_of (key_in_range r k && item_in_range r i) _ h)

  -- ---- interfaces

  module _ (k : WorldKey) (i : WorldItem) (id : InterfaceId) (gates : Stability) (docs : Docs) (external_id : Option (String Global)) (is : i ≡ item.Interface id gates docs external_id) (h : is_printable_entry r here (k, i) ≡ true) where
    known : is_printable_entry r here (k, item.Interface id gates docs external_id) ≡ true
    known = subst (λ j. is_printable_entry r here (k, j) ≡ true) is h

    pub key_path : (m : InterfaceId) → k ≡ key.Interface m → is_well_path (shown_path r here m) ≡ true
    key_path m e = right_of (is_well_prefix (extern_prefix r (key.Interface m) (item.Interface id gates docs external_id))) _
        (well_of (key.Interface m) (item.Interface id gates docs external_id) (rw e at known))

    pub label_well : (s : String Global) → k ≡ key.Name s → is_well_extern (labelled_tree r here (text_of s) id) ≡ true
    label_well s e =
        right_of (is_well_prefix (extern_prefix r (key.Name s) (item.Interface id gates docs external_id))) _ (well_of (key.Name s) (item.Interface id gates docs external_id) (rw e at known))

  -- ---- functions

  function_parts : (k : WorldKey) (f : Function) → is_printable_entry r here (k, item.Function f) ≡ true → (is_well_prefix (function_prefix f) ≡ true)
      × (is_well_extern (NamedFunction (text_of f.name) (shown_signature r f)) ≡ true)
  function_parts x f h = search (std_rules, well_of, left_of, right_of)

  function_calls_by : (k : WorldKey) (f : Function) (emits : Bool) (word : Text) → is_printable_entry r here (k, item.Function f) ≡ true
      → world_extern_calls emits (function_prefix f) word (NamedFunction (text_of f.name) (shown_signature r f)) ≡ entry_calls emits r here word (k, item.Function f)
  function_calls_by x f emits word h = search (std_rules, left_of, right_of)

  module _ (k : WorldKey) (i : WorldItem) (f : Function) (is : i ≡ item.Function f) (h : is_printable_entry r here (k, i) ≡ true) where
    pub function_known : (is_well_prefix (function_prefix f) ≡ true) × (is_well_extern (NamedFunction (text_of f.name) (shown_signature r f)) ≡ true)
    function_known = function_parts k f (subst (λ j. is_printable_entry r here (k, j) ≡ true) is h)

    pub function_entry : (emits : Bool) (word : Text) → world_extern_calls emits (function_prefix f) word (NamedFunction (text_of f.name) (shown_signature r f)) ≡ entry_calls emits r here word (k, i)
    function_entry emits word = function_calls_by k f emits word (subst (λ j. is_printable_entry r here (k, j) ≡ true) is h) ∙ sym (ap (λ j. entry_calls emits r here word (k, j)) is)

  -- ---- interfaces under a label

  pub named_tree : (label : Text) (id : InterfaceId) (i : Interface) → interface_at r id.0 ≡ Some i → is_some i.name ≡ true → labelled_tree r here label id ≡ NamedPath label (shown_path r here id)
  named_tree label id i e h = rw (e, h) refl

  pub inline_tree : (label : Text) (id : InterfaceId) (i : Interface) → interface_at r id.0 ≡ Some i → is_some i.name ≡ false
      → labelled_tree r here label id ≡ NamedInterface label (shown_interface r id i)
  inline_tree label id i e h = rw (e, h) refl
