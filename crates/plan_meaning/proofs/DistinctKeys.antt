-- No map of a built `Resolve` has a key twice.
use Rattle.std.proofs.Common.{rules as std_rules, ◌≡◌, sym, ◌∙◌, ℕ, Bool, true, false, ◌||◌, not, List, [], ◌∷◌, ◌++◌, map, Some, String}
use Rattle.std.specs.{Prelude.string_eq, List.list_any, List.IsDistinct, List.AllByRecursion, Map.keys_of}
use Rattle.std.specs.declared.alloc.Global.{Global}
use Rattle.indexmap.specs.IndexMap.{IsUnique}
use Rattle.wit_model.specs.declared.model.{Resolve.Resolve, Package.Package, Interface.Interface, WorldKey.WorldKey, WorldItem.WorldItem}
use Rattle.wit_model.specs.{Text.Text, Text.text_of, Text.text_eq, Text.optional_text, Names.is_label, Lookup.package_at, Lookup.interface_at}
use Rattle.wit_model.specs.{Rules.passes, Rules.are_distinct, Valid.HasDistinctKeys, Valid.key_eq}
use Rattle.plan_meaning.specs.PlanRules.{IsPlan, names_of, members_differ, same_key, keys_differ}
use Rattle.plan_meaning.specs.Built.{planned_function, planned_package, planned_interface, planned_key, planned_entries}
use Rattle.plan_meaning.proofs.{Lists.all_there, Words.plan_of, Labels.names_are, ListedTypes.distinct_front as front_distinct}
use Rattle.base_lemmas.proofs.Bools.{left_of as first_true, right_of as second_true}
use Rattle.plan_meaning.specs.PlanRules as planned

-- ---- parts of a list whose names differ

pub back_distinct : (xs ys : List Text) → are_distinct (xs ++ ys) ≡ true → are_distinct ys ≡ true
back_distinct [] ys h = h
back_distinct (x ∷ xs) ys h = back_distinct xs ys (second_true (not (list_any (text_eq x) (xs ++ ys))) _ h)

none_same : (a b : Bool) → not (a || b) ≡ true → (a ≡ false) × (not b ≡ true)
none_same x b h = search std_rules

others_differ : (x : String Global) (ks : List (String Global)) → not (list_any (text_eq (text_of x)) (map text_of ks)) ≡ true → AllByRecursion (λ y. string_eq x y ≡ false) ks
others_differ x [] h = tt
others_differ x (k ∷ ks) h = let split = none_same (text_eq (text_of x) (text_of k)) (list_any (text_eq (text_of x)) (map text_of ks)) h in (split.0, others_differ x ks split.1)

strings_distinct : (ks : List (String Global)) → are_distinct (map text_of ks) ≡ true → IsDistinct string_eq ks
unfolding IsDistinct
strings_distinct [] h = tt
strings_distinct (k ∷ ks) h = (others_differ k ks (first_true _ _ h), strings_distinct ks (second_true (not (list_any (text_eq (text_of k)) (map text_of ks))) _ h))

both_distinct : {A B C D : Type 0} (f : A → C) (g : B → D) (es : List (String Global × A)) (fs : List (String Global × B))
    → are_distinct (names_of (map (λ e. (text_of e.0, f e.1)) es) ++ names_of (map (λ e. (text_of e.0, g e.1)) fs)) ≡ true → IsDistinct string_eq (keys_of es) × IsDistinct string_eq (keys_of fs)
both_distinct f g es fs h = search (std_rules, strings_distinct, names_are, front_distinct, back_distinct)

-- ---- keys of worlds

other_keys : (k : WorldKey) (es : List (WorldKey × WorldItem)) → not (list_any (λ other. same_key (planned_key k) other.0) (planned_entries es)) ≡ true
    → AllByRecursion (λ y. key_eq k y ≡ false) (keys_of es)
other_keys k [] h = tt
other_keys k (e ∷ es) h =
    let split = none_same (same_key (planned_key k) (planned_key e.0)) (list_any (λ other. same_key (planned_key k) other.0) (planned_entries es)) h in
    (sym (search std_rules) ∙ split.0, other_keys k es split.1)

keys_distinct : (es : List (WorldKey × WorldItem)) → keys_differ (planned_entries es) ≡ true → IsDistinct key_eq (keys_of es)
unfolding IsDistinct
keys_distinct [] h = tt
keys_distinct (e ∷ es) h = (other_keys e.0 es (first_true _ _ h), keys_distinct es (second_true (not (list_any (λ other. same_key (planned_key e.0) other.0) (planned_entries es))) _ h))

module _ (r : Resolve) (m : ℕ) (is : IsPlan (plan_of r m)) where
  package_keys : (n : ℕ) (p : Package) → package_at r n ≡ Some p → IsUnique string_eq p.interfaces × IsUnique string_eq p.worlds
  package_keys n p e = both_distinct (λ id. id.0) (λ id. id.0) p.interfaces.entries p.worlds.entries (all_there planned_package members_differ r.packages.items is.members_differ n p e)

  interface_keys : (n : ℕ) (i : Interface) → interface_at r n ≡ Some i → IsUnique string_eq i.types × IsUnique string_eq i.functions
  interface_keys n i e = both_distinct (λ id. id.0) planned_function i.types.entries i.functions.entries
      (second_true (passes is_label (optional_text i.name)) _ (all_there planned_interface planned.interface_labels r.interfaces.items is.interface_labels n i e))

  pub keys_are_distinct : HasDistinctKeys r
  keys_are_distinct = record { packages = package_keys; interfaces = interface_keys; worlds = λ n w e. search (std_rules, all_there, keys_distinct, first_true, second_true) }
