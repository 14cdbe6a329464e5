-- Owners' lists and types that name each other.
use Rattle.std.proofs.Common.{rules as std_rules, ◌≡◌, refl, sym, ap, ◌∙◌, ℕ, Bool, true, false, ◌&&◌, ◌||◌, not, ◌==◌, List, [], ◌∷◌, map, filter_map, count_by, option_map, option_and_then, Some, None, Option, slice_get, is_some, lit≤, eq-eqb, String, string_eq, string_bytes}
use Rattle.std.proofs.lemmas.{Cmp.nat_list_eq_equiv, List.Folds.list_all-map}
use Rattle.std.proofs.lemmas.{Bool.and_right as second_false, Bool.not-true as not_true, Option.same_Some as some_same}
use Rattle.std.specs.declared.alloc.Global.{Global}
use Rattle.std.specs.{List.list_all, List.find, Option.option_map_or, Str.bytes_eq, Map.values_of, HashMap.get_by, HashMap.get_by_text}
use Rattle.indexmap.specs.IndexMap.{IsUnique}
use Rattle.wit_model.specs.declared.model.{Resolve.Resolve, Interface.Interface, WorldKey.WorldKey, WorldItem.WorldItem, TypeDef.TypeDef, TypeOwner.TypeOwner}
use Rattle.wit_model.specs.declared.model.{World.World, TypeId.TypeId}
use Rattle.wit_model.specs.{Text.Text, Text.text_of, Text.text_eq, Lookup.type_at, Lookup.interface_at, Lookup.world_at, Parts.same_owner}
use Rattle.wit_model.specs.Rules.{passes, is_id, is_name_key, item_type, is_named_of, is_listed, is_listed_in_interface, is_listed_in_world, interface_type_numbers, world_type_numbers}
use Rattle.wit_model.specs.Valid.{Keeps, Breaks, HasDistinctKeys, key_eq, entry_keeps, as_interface, as_world, order_of_types}
use Rattle.wit_model.specs.Checks.{KeepsIn, listings, names_fit, has_name, key_fits, is_found}
use Rattle.wit_model.proofs.Lists.{list_all_filter_map}
use Rattle.wit_model.proofs.{Entries.each_from_at, Entries.lists_pass, Listed.misfit, Listed.fit_once, Listed.place_of_found, Listed.none_found}
use Rattle.base_lemmas.proofs.{Bools.left_of as first_true, Bools.right_of as second_true, Elements.all_get as all_at, Elements.all_weaker as all_imply}
use Rattle.wit_model.specs.declared.error.EntryList.TheVariants as lists
use Rattle.wit_model.specs.declared.model.TypeOwner.TheVariants as owner

-- the list of an interface's types, as one of what each gives
pub given_all : (ids : List TypeId) → filter_map (λ id. Some id.0) ids ≡ map (λ id. id.0) ids
given_all [] = refl
given_all (id ∷ ids) = ap (λ ns. id.0 ∷ ns) (given_all ids)

pub given_found : (o : Option TypeId) → option_and_then (λ id. Some id.0) o ≡ option_map (λ id. id.0) o
given_found x = search std_rules

-- ---- a type's own entry

module _ (r : Resolve) (n : ℕ) (def : TypeDef) (name : String Global) (is : type_at r n ≡ Some def) (named : def.name ≡ Some name) where
  own_name : (test : Text → Bool) → has_name r test n ≡ test (text_of name)
  own_name test = ap (passes (λ d. option_map_or (λ x. test (text_of x)) d.name false)) is ∙ ap (λ o. option_map_or (λ x. test (text_of x)) o false) named

  pub entry_fits : (test : Text → Bool) (m : ℕ) → has_name r test m ≡ true → (not (m == n) || test (text_of name)) ≡ true
  entry_fits test m h = search std_rules

  pub item_entry_fits : (test : Text → Bool) (o : Option ℕ) → passes (has_name r test) o ≡ true → (not (is_id n o) || test (text_of name)) ≡ true
  item_entry_fits test x h = search std_rules

  text_joins : (a b : String Global) → bytes_eq (text_of name) (string_bytes a) ≡ true → bytes_eq (text_of name) (string_bytes b) ≡ true → string_eq a b ≡ true
  text_joins a b ta tb = sym (nat_list_eq_equiv.congr (text_of name) (string_bytes a) (string_bytes b) ta) ∙ tb

  key_joins : (a b : WorldKey) → is_name_key (text_of name) a ≡ true → is_name_key (text_of name) b ≡ true → key_eq a b ≡ true
  key_joins x b ta tb = search std_rules

  once_more : (b : Bool) (m : ℕ) → (b ≡ true → m ≡ 1) → b ≡ (b && (m == 1))
  once_more x m h = search std_rules

  listed_in_interface : (i : Interface) → IsUnique string_eq i.types → list_all (λ e. has_name r (λ x. text_eq x (text_of e.0)) e.1.0) i.types.entries ≡ true
      → is_id n (option_map (λ id. id.0) (get_by_text i.types (text_of name))) ≡ is_listed_in_interface n (text_of name) i
  listed_in_interface i unique fits = once_more (is_id n (option_map (λ id. id.0) (get_by_text i.types (text_of name)))) (count_by (λ m. m == n) (interface_type_numbers i))
      (λ found. ap (count_by (λ m. m == n)) (sym (given_all (values_of i.types.entries)))
      ∙ fit_once (λ k. bytes_eq (text_of name) (string_bytes k)) (λ id. Some id.0) n string_eq text_joins i.types.entries unique
      (all_imply (λ e. has_name r (λ x. text_eq x (text_of e.0)) e.1.0) (λ e. not (is_id n (Some e.1.0)) || bytes_eq (text_of name) (string_bytes e.0))
      (λ e. entry_fits (λ x. text_eq x (text_of e.0)) e.1.0) i.types.entries fits) (ap (is_id n) (given_found (get_by_text i.types (text_of name))) ∙ found))

  listed_in_world : (w : World) → IsUnique key_eq w.imports → list_all (λ e. passes (has_name r (key_fits e.0)) (item_type e.1)) w.imports.entries ≡ true
      → is_id n (option_and_then item_type (get_by (is_name_key (text_of name)) w.imports)) ≡ is_listed_in_world n (text_of name) w
  listed_in_world w unique fits = once_more (is_id n (option_and_then item_type (get_by (is_name_key (text_of name)) w.imports))) (count_by (λ m. m == n) (world_type_numbers w))
      (fit_once (is_name_key (text_of name)) item_type n key_eq key_joins w.imports.entries unique
      (all_imply (λ e. passes (has_name r (key_fits e.0)) (item_type e.1)) (λ e. not (is_id n (item_type e.1)) || is_name_key (text_of name) e.0) (λ e. item_entry_fits (key_fits e.0) (item_type e.1))
      w.imports.entries fits))

  -- one that its owner's list finds stands there once
  pub listed_found : HasDistinctKeys r → Keeps names_fit r → (o : TypeOwner) → is_found r n (text_of name) o ≡ is_listed r n (text_of name) o
  unfolding names_fit
  listed_found distinct fit x = search (std_rules, listed_in_interface, each_from_at, lists_pass, listed_in_world)

-- ---- what breaks

pub interface_breaks : (r : Resolve) (n : ℕ) → entry_keeps listings r lists.Interfaces n ≡ Some false → Breaks r 5 lists.Interfaces n
unfolding listings order_of_types
interface_breaks r n e = search std_rules

pub world_breaks : (r : Resolve) (n : ℕ) → entry_keeps listings r lists.Worlds n ≡ Some false → Breaks r 5 lists.Worlds n
unfolding listings order_of_types
world_breaks r n e = search std_rules

pub type_breaks : (r : Resolve) (n : ℕ) → entry_keeps listings r lists.Types n ≡ Some false → Breaks r 5 lists.Types n
unfolding listings order_of_types
type_breaks r n e = search std_rules

-- ---- the walks over names

pub interface_fits : (r : Resolve) (i : Interface) → option_map (λ e. e.1.0) (find (λ e. not (has_name r (λ name. text_eq name (text_of e.0)) e.1.0)) i.types.entries) ≡ None
    → list_all (λ e. has_name r (λ name. text_eq name (text_of e.0)) e.1.0) i.types.entries ≡ true
interface_fits r i h = search (std_rules, none_found)

pub world_fits : (r : Resolve) (w : World) → option_and_then (λ e. item_type e.1) (find (λ e. not (passes (has_name r (key_fits e.0)) (item_type e.1))) w.imports.entries) ≡ None
    → list_all (λ e. passes (has_name r (key_fits e.0)) (item_type e.1)) w.imports.entries ≡ true
world_fits r w h = search (std_rules, none_found, place_of_found)

module _ (r : Resolve) (n : ℕ) (i : Interface) (at : interface_at r n ≡ Some i) where
  not_in_interface : (m : ℕ) (t : Text) (o : TypeOwner) → same_owner o (as_interface n) ≡ true → is_listed_in_interface m t i ≡ false → is_listed r m t o ≡ false
  not_in_interface m t x e h = search std_rules

  interface_entry : (q : ℕ) (x : String Global × TypeId) → slice_get i.types.entries q ≡ Some x → (t : Text) → text_eq t (text_of x.0) ≡ false → is_listed_in_interface x.1.0 t i ≡ false
  interface_entry q x place t fails = (λ j. is_id x.1.0 (sym (given_found (get_by_text i.types t)) j) && (count_by (λ m. m == x.1.0) (sym (given_all (values_of i.types.entries)) j) == 1))
      ∙ misfit (λ k. bytes_eq t (string_bytes k)) (λ id. Some id.0) x.1.0 i.types.entries q x place (eq-eqb x.1.0 x.1.0 refl) fails

  entry_belongs : KeepsIn listings r lists.Interfaces → (q : ℕ) (x : String Global × TypeId) → slice_get i.types.entries q ≡ Some x → is_named_of r (as_interface n) x.1.0 ≡ true
  unfolding listings
  entry_belongs own q x place = search (std_rules, each_from_at, all_at, list_all-map)

  misnamed_entry : KeepsIn listings r lists.Interfaces → (q : ℕ) (x : String Global × TypeId) → slice_get i.types.entries q ≡ Some x → has_name r (λ name. text_eq name (text_of x.0)) x.1.0 ≡ false
      → Breaks r 5 lists.Types x.1.0
  unfolding order_of_types
  misnamed_entry own q x place misnamed = (lit≤ tt, go (type_at r x.1.0) misnamed (entry_belongs own q x place))
    where
      named : (def : TypeDef) → same_owner def.owner (as_interface n) ≡ true → (o : Option (String Global)) → option_map_or (λ name. text_eq (text_of name) (text_of x.0)) o false ≡ false
          → is_some o ≡ true → option_map_or (λ name. is_listed r x.1.0 (text_of name) def.owner) o (same_owner def.owner owner.None) ≡ false
      named def own None h s = let wrong : ⊥ = cc in absurd wrong
      named def own (Some name) h s = not_in_interface x.1.0 (text_of name) def.owner own (interface_entry q x place (text_of name) h)

      go : (o : Option TypeDef) → passes (λ def. option_map_or (λ name. text_eq (text_of name) (text_of x.0)) def.name false) o ≡ false
          → passes (λ def. is_some def.name && same_owner def.owner (as_interface n)) o ≡ true → option_map (order_of_types.type_ r x.1.0) o ≡ Some false
      go None h b = let wrong : true ≡ false = h in cc
      go (Some def) h b = ap Some (second_false _ _ (named def (second_true _ _ b) def.name h (first_true _ _ b)))

module _ (r : Resolve) (n : ℕ) (w : World) (at : world_at r n ≡ Some w) where
  not_in_world : (m : ℕ) (t : Text) (o : TypeOwner) → same_owner o (as_world n) ≡ true → is_listed_in_world m t w ≡ false → is_listed r m t o ≡ false
  not_in_world m t x e h = search std_rules

  item_belongs : KeepsIn listings r lists.Worlds → (m q : ℕ) (x : WorldKey × WorldItem) → slice_get w.imports.entries q ≡ Some x → item_type x.1 ≡ Some m → is_named_of r (as_world n) m ≡ true
  unfolding listings
  item_belongs own m q x place typed = search (std_rules, each_from_at, all_at, list_all_filter_map, list_all-map, first_true)

  misnamed_item : KeepsIn listings r lists.Worlds → (m q : ℕ) (x : WorldKey × WorldItem) → slice_get w.imports.entries q ≡ Some x → item_type x.1 ≡ Some m → has_name r (key_fits x.0) m ≡ false
      → Breaks r 5 lists.Types m
  unfolding order_of_types
  misnamed_item own m q x place typed misnamed = (lit≤ tt, go (type_at r m) misnamed (item_belongs own m q x place typed))
    where
      shown : is_id m (item_type x.1) ≡ true
      shown = ap (is_id m) typed ∙ eq-eqb m m refl

      named : (def : TypeDef) → same_owner def.owner (as_world n) ≡ true → (o : Option (String Global)) → option_map_or (λ name. key_fits x.0 (text_of name)) o false ≡ false → is_some o ≡ true
          → option_map_or (λ name. is_listed r m (text_of name) def.owner) o (same_owner def.owner owner.None) ≡ false
      named def own None h s = let wrong : ⊥ = cc in absurd wrong
      named def own (Some name) h s = not_in_world m (text_of name) def.owner own (misfit (is_name_key (text_of name)) item_type m w.imports.entries q x place shown h)

      go : (o : Option TypeDef) → passes (λ def. option_map_or (λ name. key_fits x.0 (text_of name)) def.name false) o ≡ false
          → passes (λ def. is_some def.name && same_owner def.owner (as_world n)) o ≡ true → option_map (order_of_types.type_ r m) o ≡ Some false
      go None h b = let wrong : true ≡ false = h in cc
      go (Some def) h b = ap Some (second_false _ _ (named def (second_true _ _ b) def.name h (first_true _ _ b)))

pub misnamed_in_interface_breaks : (r : Resolve) (n : ℕ) (i : Interface) → interface_at r n ≡ Some i → KeepsIn listings r lists.Interfaces → (m : ℕ)
    → Some m ≡ option_map (λ e. e.1.0) (find (λ e. not (has_name r (λ name. text_eq name (text_of e.0)) e.1.0)) i.types.entries) → Breaks r 5 lists.Types m
misnamed_in_interface_breaks r n i at own m h = search (std_rules, place_of_found, some_same, misnamed_entry, not_true)

pub misnamed_in_world_breaks : (r : Resolve) (n : ℕ) (w : World) → world_at r n ≡ Some w → KeepsIn listings r lists.Worlds → (m : ℕ)
    → Some m ≡ option_and_then (λ e. item_type e.1) (find (λ e. not (passes (has_name r (key_fits e.0)) (item_type e.1))) w.imports.entries) → Breaks r 5 lists.Types m
misnamed_in_world_breaks r n w at own m h = search (std_rules, place_of_found, misnamed_item, not_true)
