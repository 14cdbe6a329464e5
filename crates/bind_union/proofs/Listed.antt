-- A copied type stands in its new owner's list under its name, once.
use Rattle.std.proofs.Common.{rules as std_rules, ◌≡◌, refl, sym, ap, ◌∙◌, ℕ, arith, Bool, true, false, ◌&&◌, cond, ◌==◌, List, [], ◌∷◌, ◌++◌, map, Option, Some, option_map, option_and_then, filter_map}
use Rattle.std.proofs.lemmas.{Bool.false_from_ne_true, Simd.map-map, Bool.and_from as both}
use Rattle.std.specs.{Prelude.count_by, Prelude.bytes_eq, List.list_any, Map.lookup, Map.keys_of, HashMap.get_by, HashMap.get_by_text}
use Rattle.wit_model.specs.declared.model.{Resolve.Resolve, Interface.Interface, TypeId.TypeId, WorldKey.WorldKey, WorldItem.WorldItem}
use Rattle.wit_model.specs.{Text.Text, Text.text_of, Uses.has, Valid.Keeps, Valid.KeepsRules, Checks.references}
use Rattle.wit_model.specs.Rules.{is_id, is_name_key, item_type, interface_type_numbers, is_listed_in_interface, is_listed_in_world}
use Rattle.bind_union.specs.Carried.{Renumbering, KeyBecomes, IsInterface, IsCarried}
use Rattle.bind_union.specs.Joined.{is_new, same_key, Joined, none, met, added, IsJoined}
use Rattle.bind_union.proofs.{Lists.no_true, InterfaceRules.count_same, InterfaceRules.copies_carried, InterfaceRules.type_numbers, ViewTests.id_under}
use Rattle.bind_union.proofs.Homes.{apart}
use Rattle.bind_union.proofs.WorldOrder.{items, types_in, becomes, id_stands, counted_append, counted_numbers, none_counted, met_is_other, same_times}
use Rattle.base_lemmas.proofs.{Bools.first_false, Bools.second_false, Bools.not-false, Elements.any-contains, Elements.any-at, Elements.any_of_map, Bools.left_of as first_true, Bools.right_of as second_true, Maps.lookup_of_map}
use Rattle.bind_union.proofs.InterfaceRules as interface_rules

-- ---- interfaces

-- what a text finds among names
abbrev pub under_text : Text → List (Text × ℕ) → Option ℕ
under_text name es = lookup (λ t. bytes_eq name t) es

pub found_by_text : (i : Interface) (name : Text) → option_map (λ id. id.0) (get_by_text i.types name) ≡ under_text name (map (λ e. (text_of e.0, e.1.0)) i.types.entries)
found_by_text i name = sym (lookup_of_map (λ t. bytes_eq name t) text_of (λ (id : TypeId). id.0) i.types.entries)

module _ (r s : Resolve) (f : Renumbering) (valid : KeepsRules r) (is : IsCarried r s f) (below_s : Keeps references s) where
  pub listed_in_interface : (n : ℕ) (copy : f.copies_interface n ≡ true) (m : ℕ) → f.copies_type m ≡ true → (name : Text)
      → is_listed_in_interface m name (interface_rules.i r s f valid is below_s n copy).old ≡ true
      → is_listed_in_interface (f.types m) name (interface_rules.i r s f valid is below_s n copy).image ≡ true
  listed_in_interface n copy m c name h = both _ _ (ap (is_id (f.types m)) (found_by_text i.image name ∙ (ap (under_text name) c_types ∙ new_found))
      ∙ id_under f.types m (under_text name (map (λ e. (text_of e.0, e.1.0)) i.old.types.entries)) (sym (ap (is_id m) (found_by_text i.old name)) ∙ first_true _ _ h))
      (ap (λ ns. count_by (λ k. k == f.types m) ns == 1) (type_numbers r s f valid is below_s n copy)
      ∙ (ap (λ k. k == 1) (count_same f.types f.carries_type f.copies_type is.types_rise is.copied_types (interface_type_numbers i.old)
      (copies_carried r s f valid is below_s (interface_type_numbers i.old) (interface_rules.all_copies r s f valid is below_s n copy)) m c)
      ∙ second_true (is_id m (option_map (λ id. id.0) (get_by_text i.old.types name))) _ h))
    where
      i : IsInterface r s f n
      i = is.interfaces n (is.copied_interfaces n copy)

      c_types : map {B = Text × ℕ} (λ e. (text_of e.0, e.1.0)) i.image.types.entries ≡ map {B = Text × ℕ} (λ e. (text_of e.0, f.types e.1.0)) i.old.types.entries
      c_types = (i.copied copy).types

      new_found : under_text name (map (λ e. (text_of e.0, f.types e.1.0)) i.old.types.entries) ≡ option_map f.types (under_text name (map (λ e. (text_of e.0, e.1.0)) i.old.types.entries))
      new_found = simp map-map at (lookup_of_map (λ t. bytes_eq name t) (λ (t : Text). t) f.types (map (λ e. (text_of e.0, e.1.0)) i.old.types.entries))

-- ---- worlds

pub lookup_append : {K X : Type 0} (test : K → Bool) (xs ys : List (K × X)) → list_any test (keys_of xs) ≡ false → lookup test (xs ++ ys) ≡ lookup test ys
lookup_append test [] ys h = refl
lookup_append test (x ∷ xs) ys h = ap (λ b. cond b (Some x.1) (lookup test (xs ++ ys))) (first_false _ _ h) ∙ lookup_append test xs ys (second_false (test x.0) _ h)

else_same : {A : Type 0} (b : Bool) (x y z v : A) → cond b x y ≡ v → (y ≡ v → z ≡ v) → cond b x z ≡ v
else_same x u y z v h more = search std_rules

pub lookup_first : {K X : Type 0} (test : K → Bool) (xs ys : List (K × X)) (v : X) → lookup test xs ≡ Some v → lookup test (xs ++ ys) ≡ Some v
lookup_first test [] ys v h = absurd cc
lookup_first test (x ∷ xs) ys v h = else_same (test x.0) (Some x.1) (lookup test xs) (lookup test (xs ++ ys)) (Some v) h (lookup_first test xs ys v)

-- a name is no key where it is new
name_key_new : (f : Renumbering) (name : Text) (k : WorldKey) → is_name_key name k ≡ true → (own : List (WorldKey × WorldItem)) → is_new f own k ≡ true
    → list_any (is_name_key name) (keys_of own) ≡ false
name_key_new f name k h own new = false_from_ne_true _ (λ e.
    let x = any-contains (λ (y : WorldKey × WorldItem). is_name_key name y.0) own (sym (any_of_map (is_name_key name) (λ (y : WorldKey × WorldItem). y.0) own) ∙ e) in
    not-false _ new (any-at (λ (y : WorldKey × WorldItem). same_key f k y.0) own x.0 x.1 (one_key k x.0.0 h x.2)))
  where
    one_key : (k l : WorldKey) → is_name_key name k ≡ true → is_name_key name l ≡ true → same_key f k l ≡ true
    one_key x y h e = search std_rules

by_cond : {A P : Type 0} (test : A → Bool) (b : Bool) (x y : A) → test (cond b x y) ≡ true → (b ≡ true → test x ≡ true → P) → (b ≡ false → test y ≡ true → P) → P
by_cond test x u y h p q = search std_rules

module _ (r s : Resolve) (f : Renumbering) (valid : KeepsRules r) (is : IsCarried r s f) (below_s : Keeps references s) (m : ℕ) (c : f.copies_type m ≡ true) (name : Text) where
  -- the copied type is none of those that were there
  abbrev IsFresh : List (WorldKey × WorldItem) → Type 0
  IsFresh own = has (filter_map item_type (items own)) (f.types m) ≡ false

  same_name_key : (k l : WorldKey) → KeyBecomes f k l → is_name_key name l ≡ is_name_key name k
  same_name_key x y z = search std_rules

  abbrev finds : ℕ → Option WorldItem → Bool
  finds n o = is_id n (option_and_then item_type o)

  -- it is found among what is added, under a new key
  found_added : (own : List (WorldKey × WorldItem)) → IsFresh own → (olds news : List (WorldKey × WorldItem)) → Joined f own olds news
      → finds m (lookup (is_name_key name) olds) ≡ true → (finds (f.types m) (lookup (is_name_key name) news) ≡ true) × (list_any (is_name_key name) (keys_of own) ≡ false)
  found_added own fresh _ _ none h = no_true h
  found_added own fresh _ _ (met old there olds news held k stands rest) h = by_cond (finds m) (is_name_key name old.0) (Some old.1) (lookup (is_name_key name) olds) h
      (λ k e. no_true (sym (met_is_other f (types_in f) m own fresh old.1 there held stands) ∙ e)) (λ k. found_added own fresh olds news rest)
  found_added own fresh _ _ (added old new olds news fresh_key z rest) h =
      let here = λ (b : Bool) (k : is_name_key name old.0 ≡ b). ap (λ x. finds (f.types m) (cond x (Some new.1) (lookup (is_name_key name) news))) (same_name_key old.0 new.0 z.0 ∙ k) in
      by_cond (finds m) (is_name_key name old.0) (Some old.1) (lookup (is_name_key name) olds) h
      (λ k e. (here true k ∙ id_stands f (types_in f) old.1 new.1 (becomes f old.1 new.1 z.1) m e, name_key_new f name old.0 k own fresh_key))
      (λ k e. let more = found_added own fresh olds news rest e in (here false k ∙ more.0, more.1))

  pub listed_in_world : (n : ℕ) (own_imports own_exports : List (WorldKey × WorldItem)) (j : IsJoined r s f n own_imports own_exports) → IsFresh own_imports → is_listed_in_world m name j.old ≡ true
      → is_listed_in_world (f.types m) name j.image ≡ true
  listed_in_world n own_imports own_exports j fresh h =
      let found = found_added own_imports fresh j.old.imports.entries j.new_imports j.joined_imports (first_true _ _ h) in
      let there = counted_numbers item_type (f.types m) (items (own_imports ++ j.new_imports)) in
      let parts = counted_append item_type (f.types m) own_imports j.new_imports in
      let own_part = none_counted item_type (f.types m) (items own_imports) fresh in
      let new_part = same_times f (types_in f) m own_imports fresh
      (λ a p e. apart f.types f.carries_type f.copies_type is.types_rise is.copied_types a m (is.copied_types a p) c e) j.old.imports.entries j.new_imports j.joined_imports in
      let here = counted_numbers item_type m (items j.old.imports.entries) in
      let count : count_by (λ k. k == f.types m) (filter_map item_type (items (own_imports ++ j.new_imports))) ≡ count_by (λ k. k == m) (filter_map item_type (items j.old.imports.entries)) =
      omega (arith, there, parts, own_part, new_part, here) in
      both _ _ (ap (λ es. is_id (f.types m) (option_and_then item_type (lookup (is_name_key name) es))) j.imports
      ∙ (ap (λ o. is_id (f.types m) (option_and_then item_type o)) (lookup_append (is_name_key name) own_imports j.new_imports found.1) ∙ found.0))
      (ap (λ es. count_by (λ k. k == f.types m) (filter_map item_type (items es)) == 1) j.imports
      ∙ (ap (λ k. k == 1) count ∙ second_true (is_id m (option_and_then item_type (get_by (is_name_key name) j.old.imports))) _ h))

-- what a world listed stays listed where nothing of its number is added
pub stays_listed : (name : Text) (n : ℕ) (own more : List (WorldKey × WorldItem)) → has (filter_map item_type (items more)) n ≡ false
    → (is_id n (option_and_then item_type (lookup (is_name_key name) own)) && (count_by (λ k. k == n) (filter_map item_type (items own)) == 1)) ≡ true
    → (is_id n (option_and_then item_type (lookup (is_name_key name) (own ++ more))) && (count_by (λ k. k == n) (filter_map item_type (items (own ++ more))) == 1)) ≡ true
stays_listed name n own more fresh h =
    let all = counted_numbers item_type n (items (own ++ more)) in
    let parts = counted_append item_type n own more in
    let new_part = none_counted item_type n (items more) fresh in
    let here = counted_numbers item_type n (items own) in
    let count : count_by (λ k. k == n) (filter_map item_type (items (own ++ more))) ≡ count_by (λ k. k == n) (filter_map item_type (items own)) = omega (arith, all, parts, new_part, here) in
    both _ _ (go (lookup (is_name_key name) own) refl (first_true _ _ h)) (ap (λ k. k == 1) count ∙ second_true (is_id n (option_and_then item_type (lookup (is_name_key name) own))) _ h)
  where
    go : (o : Option WorldItem) → lookup (is_name_key name) own ≡ o → is_id n (option_and_then item_type o) ≡ true
        → is_id n (option_and_then item_type (lookup (is_name_key name) (own ++ more))) ≡ true
    go x e k = search (std_rules, no_true, lookup_first)
