-- The types of an interface's list: each is a named type of the interface, under its name, and they are all of those.
use Rattle.std.proofs.Common.{rules as std_rules, ◌≡◌, sym, ap, ◌∙◌, ℕ, true, false, ◌&&◌, ◌==◌, nat_lt, List, Option, count_by, Some, String, string_bytes, option_map}
use Rattle.std.proofs.lemmas.Bool.{both_ways, true_from_ne_false}
use Rattle.std.specs.declared.alloc.Global.{Global}
use Rattle.std.specs.{Prelude.is_some, List.Contains, List.list_all, Option.option_map_or, Map.lookup, Str.bytes_eq, HashMap.get_by_text}
use Rattle.indexmap.specs.IndexMap.{values}
use Rattle.wit_model.specs.{Text.Text, Text.text_of, Names.is_label}
use Rattle.wit_model.specs.{Lookup.type_at, Lookup.interface_at, Parts.kind_numbers, Parts.same_owner, Meant.type_meaning, Meant.type_meaning_at, Meant.no_type}
use Rattle.wit_model.specs.Rules.{passes, in_list, is_id, is_listed, is_listed_in_interface, is_named_of, interface_type_numbers, are_in_order, package_number}
use Rattle.wit_model.specs.Valid.{IsValid, as_interface, is_place, labels, numbers_in_range, order_of_types}
use Rattle.wit_model.specs.declared.model.{Resolve.Resolve, Interface.Interface, TypeDef.TypeDef, TypeId.TypeId, TypeOwner.TypeOwner}
use Rattle.wit_model.proofs.{Listed.misfit, PartsLemmas.owner_same as same-owner, TextLemmas.text_same as text-same, ValidLemmas.type_passes as type-passes}
use Rattle.wit_model.proofs.{Listings.given_all, Listings.given_found, Elements.contains-get, OnePath.found-in, OnePath.given-test, OnePath.interface-passes}
use Rattle.encode_shown.proofs.Basics.{Given}
use Rattle.base_lemmas.proofs.{Bools.left_of as first_true, Bools.right_of as second_true, Options.there as some-of}
use Rattle.base_lemmas.proofs.{Elements.all-contained, Elements.contains-map, Elements.lookup_stands, Numbers.same-number}
use Rattle.wit_model.specs.declared.model.TypeOwner.TheVariants as owner

-- what has this number
pub numbered-as : {V : Type 0} (number : V → ℕ) (n : ℕ) (o : Option V) → is_id n (option_map number o) ≡ true → Given o (λ x. number x ≡ n)
numbered-as number n y h = search std_rules

-- what a look-up by text finds
pub found-entry : {V : Type 0} (number : V → ℕ) (es : List (String Global × V)) (n : ℕ) (t : Text) → is_id n (option_map number (lookup (λ k. bytes_eq t (text_of k)) es)) ≡ true
    → (e : String Global × V) × Contains es e × (number e.1 ≡ n) × (text_of e.0 ≡ t)
found-entry number es n t h =
    let x = numbered-as number n (lookup (λ k. bytes_eq t (text_of k)) es) h in
    let key = lookup_stands (λ k. bytes_eq t (text_of k)) es x.0 x.1 in
    ((key.0, x.0), key.1, x.2, sym (text-same t (text_of key.0) key.2))

-- the entry of a number in the list of an interface's types
pub record HasEntry (es : List (String Global × TypeId)) (n : ℕ) (t : Text) : Type 0 where
  pub entry : String Global × TypeId
  pub there : Contains es entry
  pub number : entry.1.0 ≡ n
  pub text : text_of entry.0 ≡ t

-- a named type of an owner, under its name
pub record IsNamedType (r : Resolve) (o : TypeOwner) (n : ℕ) (text : Text) : Type 0 where
  pub def : TypeDef
  pub there : type_at r n ≡ Some def
  pub string : String Global
  pub named_ : def.name ≡ Some string
  pub owned : def.owner ≡ o
  pub name : text ≡ text_of string

-- what it means
pub meaning-there : (r : Resolve) (n : ℕ) (def : TypeDef) → type_at r n ≡ Some def → type_meaning_at r n ≡ type_meaning r def
meaning-there r n def at = ap (λ o. option_map_or (type_meaning r) o no_type) at

module _ (r : Resolve) (v : IsValid r) where
  -- a named type stands in its owner's list
  pub valid-listed : (n : ℕ) (def : TypeDef) (name : String Global) → type_at r n ≡ Some def → def.name ≡ Some name → is_listed r n (text_of name) def.owner ≡ true
  unfolding order_of_types
  valid-listed n def name is named = given-test (λ name. is_listed r n (text_of name) def.owner) def.name (same_owner def.owner owner.None) name named
      (second_true (list_all (λ m. nat_lt m n) (kind_numbers def.kind)) _ (type-passes order_of_types r v.rules.order_of_types n def is))

  -- its name is a label
  pub name-label : (n : ℕ) (def : TypeDef) (name : String Global) → type_at r n ≡ Some def → def.name ≡ Some name → is_label (text_of name) ≡ true
  unfolding labels
  name-label n def name at named = ap (passes (λ name. is_label (text_of name))) (sym named) ∙ first_true (passes (λ name. is_label (text_of name)) def.name) _
      (type-passes labels r v.rules.labels n def at)

  module _ (i : ℕ) (interface : Interface) (there : interface_at r i ≡ Some interface) where
    -- a named type of the interface has an entry
    pub entry-of : (n : ℕ) (def : TypeDef) (name : String Global) → type_at r n ≡ Some def → def.name ≡ Some name → def.owner ≡ as_interface i → HasEntry interface.types.entries n (text_of name)
    entry-of n def name at named here =
        let listed : is_listed r n (text_of name) (as_interface i) ≡ true = ap (is_listed r n (text_of name)) (sym here) ∙ valid-listed n def name at named in
        let at_home : is_listed_in_interface n (text_of name) interface ≡ true = ap (passes (is_listed_in_interface n (text_of name))) (sym there) ∙ listed in
        let found = found-entry (λ (id : TypeId). id.0) interface.types.entries n (text_of name)
        (first_true (is_id n (option_map (λ id. id.0) (get_by_text interface.types (text_of name)))) _ at_home) in
        record { entry = found.0; there = found.1; number = found.2; text = found.3 }

    all-named : list_all (is_named_of r (as_interface i)) (interface_type_numbers interface) ≡ true
    unfolding order_of_types
    all-named = first_true (list_all (is_named_of r (as_interface i)) (interface_type_numbers interface)) (are_in_order r (interface_type_numbers interface))
        (interface-passes order_of_types r v.rules.order_of_types i interface there)

    inside : list_all (λ (id : TypeId). in_list r.types.items id.0) (values interface.types) ≡ true
    unfolding numbers_in_range
    inside = first_true _ _ (second_true (passes (in_list r.packages.items) (package_number interface.package)) _
        (second_true (is_place i) _ (interface-passes numbers_in_range r v.rules.numbers_in_range i interface there)))

    -- an entry is a named type of the interface, under its name
    pub entry-type : (e : String Global × TypeId) → Contains interface.types.entries e → IsNamedType r (as_interface i) e.1.0 (text_of e.0)
    entry-type e c =
        let id_there = contains-map (λ x. x.1) interface.types.entries e c in
        let found = found-in r.types.items e.1.0 (all-contained (λ (id : TypeId). in_list r.types.items id.0) (values interface.types) e.1 inside id_there) in
        let named = all-contained (is_named_of r (as_interface i)) (interface_type_numbers interface) e.1.0 all-named (contains-map (λ (id : TypeId). id.0) (values interface.types) e.1 id_there) in
        let both_tests = ap (passes (λ (def : TypeDef). is_some def.name && same_owner def.owner (as_interface i))) (sym found.1) ∙ named in
        let name = some-of found.0.name (first_true (is_some found.0.name) _ both_tests) in
        let own = same-owner found.0.owner (as_interface i) (second_true (is_some found.0.name) _ both_tests) in
        record { def = found.0; there = found.1; string = name.0; named_ = name.1; owned = own; name = key found.0 name.0 found.1 name.1 own }
      where
        key : (def : TypeDef) (name : String Global) → type_at r e.1.0 ≡ Some def → def.name ≡ Some name → def.owner ≡ as_interface i → text_of e.0 ≡ text_of name
        key def name at named own = sym (text-same (text_of name) (text_of e.0) (true_from_ne_false (bytes_eq (text_of name) (string_bytes e.0)) (λ q.
            let place = contains-get interface.types.entries e c in
            let listed : is_listed_in_interface e.1.0 (text_of name) interface ≡ true =
            ap (passes (is_listed_in_interface e.1.0 (text_of name))) (sym there) ∙ ap (is_listed r e.1.0 (text_of name)) (sym own) ∙ valid-listed e.1.0 def name at named in
            let fails = (λ j. option_map_or (λ m. m == e.1.0) (sym (given_found (get_by_text interface.types (text_of name))) j) false &&
            (count_by (λ m. m == e.1.0) (sym (given_all (values interface.types)) j) == 1))
            ∙ misfit (λ key. bytes_eq (text_of name) (string_bytes key)) (λ (id : TypeId). Some id.0) e.1.0 interface.types.entries place.0 e place.1 (same-number e.1.0) q in
            both_ways _ fails listed)))
