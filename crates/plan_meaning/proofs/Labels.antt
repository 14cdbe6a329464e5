-- Names are labels, and lists of members don't repeat one.
use Rattle.std.proofs.Common.{rules as std_rules, ◌≡◌, refl, sym, ap, ◌∙◌, ℕ, Bool, true, ◌&&◌, ◌||◌, not, List, [], ◌∷◌, ◌++◌, map, option_to_list, Option, Some, String}
use Rattle.std.proofs.lemmas.{List.Folds.list_any-append, List.Folds.list_all-append, List.Folds.list_all-map, Bool.and_from as both}
use Rattle.std.specs.declared.alloc.Global.{Global}
use Rattle.std.specs.{List.list_all, List.list_any, Map.keys_of}
use Rattle.indexmap.specs.IndexMap.{keys}
use Rattle.wit_model.specs.declared.model.{Resolve.Resolve, World.World, WorldKey.WorldKey, TypeDef.TypeDef, Function.Function, Docs.Docs}
use Rattle.wit_model.specs.declared.model.{Interface.Interface, WorldItem.WorldItem, TypeDefKind.TypeDefKind, TypeOwner.TypeOwner, Stability.Stability}
use Rattle.wit_model.specs.{Text.Text, Text.text_of, Text.text_eq, Text.optional_text, Names.is_label}
use Rattle.wit_model.specs.Rules.{passes, are_distinct, are_member_labels, is_stability, key_label, item_labels, entries_labels}
use Rattle.wit_model.specs.{Valid.Keeps, Valid.labels, Valid.functions_of_interface, Valid.functions_of_world, Valid.item_function, Lookup.world_at}
use Rattle.wit_model.proofs.{Lists.list_all_filter_map, Checks.keeps_three, RulesLemmas.each_by_number}
use Rattle.plan_meaning.specs.PlanRules.{IsPlan, names_of}
use Rattle.plan_meaning.specs.Built.{planned_kind, planned_type, planned_function, planned_interface, planned_world, planned_key, planned_item, is_bare, is_bare_type, is_bare_function, is_bare_interface, is_bare_item, is_bare_world, IsBare}
use Rattle.plan_meaning.proofs.{Lists.all_built, Lists.all_there, Words.plan_of}
use Rattle.plan_meaning.proofs.FunctionRules.{interface_holds, world_holds, imports_there, exports_there}
use Rattle.base_lemmas.proofs.{Bools.left_of as first_true, Bools.right_of as second_true, Elements.all_two, Elements.any_of_map, Elements.all_get}
use Rattle.base_lemmas.proofs.Lists.{map_of_map}
use Rattle.wit_model.specs.Rules as rules
use Rattle.plan_meaning.specs.PlanRules as planned

-- ---- stabilities

bare_stability : (d : Docs) (s : Stability) → is_bare d s ≡ true → is_stability s ≡ true
bare_stability d s h = search std_rules

-- ---- labels

name_is : (o : Option (String Global)) → passes is_label (optional_text o) ≡ passes (λ name. is_label (text_of name)) o
name_is x = search std_rules

kind_labels_are : (k : TypeDefKind) → planned.kind_labels (planned_kind k) ≡ rules.kind_labels k
kind_labels_are y = search (std_rules, map_of_map)

type_passes : (def : TypeDef) → planned.type_labels (planned_type def) ≡ true → is_bare_type def ≡ true
    → (passes (λ name. is_label (text_of name)) def.name && (is_stability def.stability && are_member_labels (rules.kind_labels def.kind))) ≡ true
type_passes def h bare = search (std_rules, both, name_is, first_true, bare_stability, kind_labels_are, second_true)

function_passes : (f : Function) → planned.function_labels (planned_function f) ≡ true → is_bare_function f ≡ true → rules.function_labels f ≡ true
function_passes f h bare = search (std_rules, both, first_true, map_of_map, second_true, bare_stability)

-- ---- names that differ

missed : (a b : Bool) → not (a || b) ≡ true → not b ≡ true
missed x b h = search std_rules

-- no name of the first list stands in the second
pub apart : (xs ys : List Text) → are_distinct (xs ++ ys) ≡ true → list_all (λ x. not (list_any (text_eq x) ys)) xs ≡ true
apart [] ys h = refl
apart (x ∷ xs) ys h = search (std_rules, both, missed, list_any-append, first_true, second_true, apart xs ys (second_true (not (list_any (text_eq x) (xs ++ ys))) _ h))

pub names_are : {A B : Type 0} (g : A → B) (es : List (String Global × A)) → names_of (map (λ e. (text_of e.0, g e.1)) es) ≡ map text_of (keys_of es)
names_are g [] = refl
names_are g (e ∷ es) = ap (λ ts. text_of e.0 ∷ ts) (names_are g es)

pub keys_apart : (ks fs : List (String Global)) → are_distinct (map text_of ks ++ map text_of fs) ≡ true
    → list_all (λ name. not (list_any (λ other. text_eq (text_of name) (text_of other)) fs)) ks ≡ true
keys_apart ks fs h = search (std_rules, all_built, any_of_map, apart (map text_of ks) (map text_of fs) h)

module _ (r : Resolve) (m : ℕ) (is : IsPlan (plan_of r m)) (bare : IsBare r) where
  abbrev labelled : TypeOwner → Function → Bool
  labelled o f = planned.function_labels (planned_function f)

  interface_passes : (i : Interface) → planned.interface_labels (planned_interface i) ≡ true → is_bare_interface i ≡ true
      → list_all (λ f. planned.function_labels (planned_function f)) (functions_of_interface i) ≡ true
      → (passes (λ name. is_label (text_of name)) i.name && (is_stability i.stability && (list_all rules.function_labels (functions_of_interface i)
      && list_all (λ name. not (list_any (λ other. text_eq (text_of name) (text_of other)) (keys i.functions))) (keys i.types)))) ≡ true
  interface_passes i h bare functions = both _ _ (sym (name_is i.name) ∙ first_true (passes is_label (optional_text i.name)) _ h)
      (both _ _ (bare_stability i.docs i.stability (first_true (is_bare i.docs i.stability) _ bare))
      (both _ _ (all_two (λ f. planned.function_labels (planned_function f)) is_bare_function rules.function_labels function_passes (functions_of_interface i) functions
      (second_true (is_bare i.docs i.stability) _ bare)) (keys_apart (keys i.types) (keys i.functions)
      (ap are_distinct (λ j. sym (names_are (λ id. id.0) i.types.entries) j ++ sym (names_are planned_function i.functions.entries) j) ∙ second_true (passes is_label (optional_text i.name)) _ h))))

  -- ---- items

  export_key : (k : WorldKey) (x : WorldItem) → planned.export_stands (plan_of r m) (planned_key k, planned_item x) ≡ true → key_label k x ≡ true
  export_key x y h = search std_rules

  item_passes : (x : WorldItem) → list_all (λ f. planned.function_labels (planned_function f)) (option_to_list (item_function x)) ≡ true → is_bare_item x ≡ true → item_labels x ≡ true
  item_passes x h bare = search (std_rules, bare_stability, function_passes, first_true)

  abbrev labelled_item : WorldItem → Bool
  labelled_item x = list_all (λ f. planned.function_labels (planned_function f)) (option_to_list (item_function x))

  entries_pass : (test : WorldKey × WorldItem → Bool) → ((k : WorldKey) (x : WorldItem) → test (k, x) ≡ true → key_label k x ≡ true) → (es : List (WorldKey × WorldItem))
      → list_all test es ≡ true → list_all labelled_item (map (λ e. e.1) es) ≡ true → list_all is_bare_item (map (λ e. e.1) es) ≡ true → entries_labels es ≡ true
  entries_pass test keys_pass es h functions bare = all_two test (λ e. item_labels e.1) (λ e. key_label e.0 e.1 && item_labels e.1) (λ e a b. both _ _ (keys_pass e.0 e.1 a) b) es h
      (sym (list_all-map item_labels (λ e. e.1) es) ∙ all_two labelled_item is_bare_item item_labels item_passes (map (λ e. e.1) es) functions bare)

  module _ (n : ℕ) (w : World) (name : is_label (text_of w.name) ≡ true) (at : world_at r n ≡ Some w)
      (functions : list_all (λ f. planned.function_labels (planned_function f)) (functions_of_world w) ≡ true) (bare_world : is_bare_world w ≡ true) where
    items_labelled : (list_all labelled_item (map (λ e. e.1) w.imports.entries) && list_all labelled_item (map (λ e. e.1) w.exports.entries)) ≡ true
    items_labelled = search (std_rules, list_all-append, list_all_filter_map)

    bare_items : (list_all is_bare_item (map (λ e. e.1) w.imports.entries) && list_all is_bare_item (map (λ e. e.1) w.exports.entries)) ≡ true
    bare_items = second_true (is_bare w.docs w.stability) _ bare_world

    world_passes : (is_label (text_of w.name) && (is_stability w.stability && (entries_labels w.imports.entries && entries_labels w.exports.entries))) ≡ true
    world_passes = both _ _ name (both _ _ (bare_stability w.docs w.stability (first_true _ _ bare_world))
        (both _ _ (entries_pass (λ e. planned.import_stands (plan_of r m) n (planned_key e.0, planned_item e.1)) (λ x y h. search std_rules) w.imports.entries (imports_there r m is n w at)
        (first_true _ _ items_labelled) (first_true _ _ bare_items)) (entries_pass (λ e. planned.export_stands (plan_of r m) (planned_key e.0, planned_item e.1)) export_key w.exports.entries
        (exports_there r m is n w at) (second_true _ _ items_labelled) (second_true _ _ bare_items))))

  pub labels_kept : Keeps labels r
  unfolding labels
  labels_kept = keeps_three labels r refl (each_by_number _ _ (λ n i e. interface_passes i (all_there planned_interface planned.interface_labels r.interfaces.items is.interface_labels n i e)
      (all_get is_bare_interface r.interfaces.items n i bare.interfaces e) (interface_holds r m (λ o f. planned.function_labels f) labelled (λ o f h. h) is.functions_labelled n i e)))
      (each_by_number _ _ (λ n w e. world_passes n w (all_there planned_world (λ w. is_label w.name) r.worlds.items is.world_labels n w e) e
      (world_holds r m (λ o f. planned.function_labels f) labelled (λ o f h. h) is.functions_labelled n w e) (all_get is_bare_world r.worlds.items n w bare.worlds e)))
      (each_by_number _ _ (λ n def e. type_passes def (all_there planned_type planned.type_labels r.types.items is.type_labels n def e) (all_get is_bare_type r.types.items n def bare.types e)))
