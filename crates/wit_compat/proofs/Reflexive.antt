-- A world whose keys stand once shows nothing twice, so it may take its own place.
use Rattle.std.proofs.Common.{rules as std_rules, ◌≡◌, refl, sym, ap, subst, ◌∙◌, ℕ, ◌+◌, length, Bool, true, false, ◌&&◌, ◌||◌, not, cond, List, [], ◌∷◌, ◌++◌, map, Option, Some, None, String, option_map}
use Rattle.std.proofs.lemmas.{Cmp.nat_list_eq_equiv, Slice.Eq.bytes_eq-Decides, Bool.ltb-true as is_below}
use Rattle.std.specs.declared.alloc.Global.{Global}
use Rattle.std.specs.{List.AllByRecursion, List.Contains, List.IsDistinct, List.find, List.list_all, List.list_any, Option.option_map_or, Prelude.string_eq}
use Rattle.indexmap.specs.IndexMap.{keys, values}
use Rattle.wit_model.specs.declared.model.{Resolve.Resolve, World.World, Function.Function, TypeDef.TypeDef, TypeId.TypeId, Interface.Interface, WorldKey.WorldKey, WorldItem.WorldItem, FunctionKind.FunctionKind, TypeOwner.TypeOwner}
use Rattle.wit_model.specs.{Text.Text, Text.text_of, Text.text_eq, Lookup.interface_at, Lookup.type_at, Lookup.resource_of, Names.is_label, Checks.KeepsIn, Checks.has_name, Checks.listings}
use Rattle.wit_model.specs.Rules.{are_member_labels, function_labels, in_list, is_freestanding, is_member, is_member_of, is_stability, kind_labels, passes, resource_name}
use Rattle.wit_model.specs.Valid.{IsValid, as_interface, functions_of_interface, function_names, labels, order_of_types}
use Rattle.wit_model.proofs.Entries.{each_from_all, each_from_at, lists_pass, none_breaks}
use Rattle.wit_model.proofs.Listings.{interface_fits, misnamed_in_interface_breaks}
use Rattle.compat_meaning.specs.{Compatible.Accepts, Compatible.HasKeysOnce, Compatible.IsIncluded, Compatible.bare_keys, Opened.bare_key}
use Rattle.compat_meaning.specs.Flat.{FlatName, FlatShown, Thing, interface, of_type, of_function, entry_things, find_named, flat_form, function_member, members, same_name, shown, things_of, type_member}
use Rattle.compat_meaning.proofs.{Keyed.item_key, Keyed.of_members, Validity.interface_numbers}
use Rattle.wit_compat.proofs.{Including.found_shown, Indexing.same_name_is}
use Rattle.compat_meaning.proofs.Either.{flat_from, of_first, of_two}
use Rattle.base_lemmas.proofs.{Bools.left_of as first_true, Bools.right_of as second_true, Lists.within_there as found_at}
use Rattle.base_lemmas.proofs.Elements.{all-contained as all_contained, all_at, any-at as any_contained, contains-later, contains-map as contains_mapped, first-contained, map_from as contains_map, none_in as none_contained}
use Rattle.wit_model.specs.declared.error.EntryList.TheVariants as lists
use Rattle.wit_model.specs.declared.model.«Type».TheVariants as ty

-- ---- names that are all different

abbrev AreApart : {X : Type 0} → List (FlatName × X) → Type 0
AreApart [] = Unit {0}
AreApart {X} (x ∷ xs) = ((y : FlatName × X) → Contains xs y → x.0 ≡ y.0 → ⊥) × AreApart xs

same_itself : (n : FlatName) → same_name n n ≡ true
same_itself n = λ i. nat_list_eq_equiv.refl n.0 i && nat_list_eq_equiv.refl n.1 i

-- under its name each stands
stands_once : {X : Type 0} (xs : List (FlatName × X)) → AreApart xs → (e : FlatName × X) → Contains xs e → find_named e.0 xs ≡ Some e.1
stands_once [] h e c = absurd (none_contained e c)
stands_once {X} (x ∷ xs) h e c = of_first x xs e (λ q. subst (λ (z : FlatName × X). find_named z.0 (x ∷ xs) ≡ Some z.1) q (ap (λ b. cond b (Some x.1) (find_named x.0 xs)) (same_itself x.0)))
    (λ d. by d (stands_once xs h.1 e d) (same_name e.0 x.0) refl) c
  where
    by : Contains xs e → find_named e.0 xs ≡ Some e.1 → (b : Bool) → same_name e.0 x.0 ≡ b → cond b (Some x.1) (find_named e.0 xs) ≡ Some e.1
    by d later true s = absurd (h.0 e d (sym (same_name_is e.0 x.0 s)))
    by d later false s = later

apart_two : {X : Type 0} (xs ys : List (FlatName × X)) → AreApart xs → AreApart ys → ((x y : FlatName × X) → Contains xs x → Contains ys y → x.0 ≡ y.0 → ⊥) → AreApart (xs ++ ys)
apart_two [] ys h k other = k
apart_two (x ∷ xs) ys h k other = (λ y c e. of_two xs ys y (λ d. h.0 y d e) (λ d. other x y (first-contained x xs) d e) c, apart_two xs ys h.1 k (λ a b c d. other a b (contains-later x xs a c) d))

-- ---- entries under their keys

each_one : {X Y : Type 0} (p : Y → Type 0) (f : X → Y) (xs : List X) → AllByRecursion p (map f xs) → (x : X) → Contains xs x → p (f x)
each_one p f xs h x c = all_at p (map f xs) h (f x) (contains_mapped f xs x c)

module _ {V : Type 0} (k : Text) (of : V → Thing) where
  abbrev member : String Global × V → FlatName × Thing
  member e = ((k, text_of e.0), of e.1)

  -- the name in the interface
  abbrev inner : FlatName × Thing → Text
  inner x = x.0.1

  members_apart : (es : List (String Global × V)) → IsDistinct string_eq (map (λ e. e.0) es) → AreApart (map member es)
  unfolding IsDistinct
  members_apart [] d = tt
  members_apart (e ∷ es) d = (first, members_apart es d.1)
    where
      first : (y : FlatName × Thing) → Contains (map member es) y → (k, text_of e.0) ≡ y.0 → ⊥
      first y c q =
          let w = contains_map member es y c in
          let texts : text_of e.0 ≡ text_of w.0.0 = ap (λ (n : FlatName). n.1) q ∙ sym (ap inner w.2) in
          let differ : text_eq (text_of e.0) (text_of w.0.0) ≡ false = each_one (λ s. string_eq e.0 s ≡ false) (λ (x : String Global × V). x.0) es d.0 w.0 w.1 in
          let same : text_eq (text_of e.0) (text_of w.0.0) ≡ true = (bytes_eq-Decides (text_of e.0) (text_of w.0.0)).1 texts in
          let wrong : true ≡ false = sym same ∙ differ in
          cc

-- ---- names that aren't empty

no_label : (t : Text) → is_label t ≡ true → t ≡ [] → ⊥
no_label t h e = let wrong : false ≡ true = ap is_label (sym e) ∙ h in cc

function_not_empty : (r : Resolve) (o : TypeOwner) (f : Function) (k : FunctionKind) → passes (λ n. option_map_or (λ t. is_member_of r n t f k) (resource_name r o n) false) (resource_of k) ≡ true
    → (not (is_freestanding k) || is_label (text_of f.name)) ≡ true → text_of f.name ≡ [] → ⊥
function_not_empty r o f x m l e = search std_rules

-- ---- lists

module _ (r : Resolve) (v : IsValid r) where
  -- ---- what an interface shows

  kept_listings : KeepsIn listings r lists.Interfaces
  unfolding listings order_of_types
  kept_listings = search (std_rules, each_from_all, first_true, each_from_at, lists_pass)

  module _ (n : ℕ) (i : Interface) (at : interface_at r n ≡ Some i) where
    abbrev misnamed : String Global × TypeId → Bool
    misnamed e = not (has_name r (λ name. text_eq name (text_of e.0)) e.1.0)

    -- types stand under their own names
    own_names : list_all (λ e. has_name r (λ name. text_eq name (text_of e.0)) e.1.0) i.types.entries ≡ true
    own_names = by (option_map (λ e. e.1.0) (find misnamed i.types.entries)) refl
      where
        by : (o : Option ℕ) → option_map (λ e. e.1.0) (find misnamed i.types.entries) ≡ o → list_all (λ e. has_name r (λ name. text_eq name (text_of e.0)) e.1.0) i.types.entries ≡ true
        by None q = interface_fits r i q
        by (Some m) q = absurd (none_breaks r v.rules 5 lists.Types m (misnamed_in_interface_breaks r n i at kept_listings m (sym q)))

    labelled : (list_all function_labels (functions_of_interface i) ≡ true)
        × (list_all (λ name. not (list_any (λ other. text_eq (text_of name) (text_of other)) (keys i.functions))) (keys i.types) ≡ true)
    unfolding labels
    labelled =
        let rest = second_true (passes (λ name. is_label (text_of name)) i.name) _ (each_from_at (labels.interface_ r) 0 r.interfaces.items n i (lists_pass labels r v.rules.labels).1 at) in
        let both = second_true (is_stability i.stability) _ rest in
        (first_true (list_all function_labels (functions_of_interface i)) _ both, second_true (list_all function_labels (functions_of_interface i)) _ both)

    type_label : (m : ℕ) (def : TypeDef) → type_at r m ≡ Some def → passes (λ name. is_label (text_of name)) def.name ≡ true
    unfolding labels
    type_label m def there = first_true (passes (λ name. is_label (text_of name)) def.name) (is_stability def.stability && are_member_labels (kind_labels def.kind))
        (each_from_at (labels.type_ r) 0 r.types.items m def (lists_pass labels r v.rules.labels).3 there)

    type_not_empty : (e : String Global × TypeId) → Contains i.types.entries e → text_of e.0 ≡ [] → ⊥
    type_not_empty e c q =
        let low = all_contained (λ id. in_list r.types.items id.0) (values i.types) e.1 (interface_numbers r v n i at).0 (contains_mapped (λ (x : String Global × TypeId). x.1) i.types.entries e c) in
        let there = found_at r.types.items e.1.0 (is_below e.1.0 (length r.types.items) low) in
        let fits = all_contained (λ x. has_name r (λ name. text_eq name (text_of x.0)) x.1.0) i.types.entries e own_names c in
        by there.0.name (ap (passes (λ def. option_map_or (λ name. text_eq (text_of name) (text_of e.0)) def.name false)) (sym there.1) ∙ fits) (type_label e.1.0 there.0 there.1)
      where
        by : (name : Option (String Global)) → option_map_or (λ x. text_eq (text_of x) (text_of e.0)) name false ≡ true → passes (λ x. is_label (text_of x)) name ≡ true → ⊥
        by None h l = let z : ⊥ = cc in z
        by (Some x) h l = no_label (text_of x) l ((bytes_eq-Decides (text_of x) (text_of e.0)).0 h ∙ q)

    function_key_not_empty : (e : String Global × Function) → Contains i.functions.entries e → text_of e.0 ≡ [] → ⊥
    unfolding function_names
    function_key_not_empty e c q =
        let all = each_from_at (function_names.interface_ r) 0 r.interfaces.items n i (lists_pass function_names r v.rules.function_names).1 at in
        let one = all_contained (λ (x : String Global × Function). text_eq (text_of x.0) (text_of x.1.name) && is_member r (as_interface (0 + n)) x.1) i.functions.entries e all c in
        let same = first_true (text_eq (text_of e.0) (text_of e.1.name)) (is_member r (as_interface (0 + n)) e.1) one in
        let member = second_true (text_eq (text_of e.0) (text_of e.1.name)) (is_member r (as_interface (0 + n)) e.1) one in
        let label = all_contained function_labels (functions_of_interface i) e.1 labelled.0 (contains_mapped (λ (x : String Global × Function). x.1) i.functions.entries e c) in
        function_not_empty r (as_interface (0 + n)) e.1 e.1.kind member (first_true (not (is_freestanding e.1.kind) || is_label (text_of e.1.name))
        (are_member_labels (map (λ p. text_of p.name) e.1.params.items) && is_stability e.1.stability) label) (sym ((bytes_eq-Decides (text_of e.0) (text_of e.1.name)).0 same) ∙ q)

    module _ (k : Text) where
      types_and_functions : (x y : FlatName × Thing) → Contains (map (type_member k) i.types.entries) x → Contains (map (function_member k) i.functions.entries) y → x.0 ≡ y.0 → ⊥
      types_and_functions x y c d q =
          let a = contains_map (type_member k) i.types.entries x c in
          let b = contains_map (function_member k) i.functions.entries y d in
          let texts : text_of a.0.0 ≡ text_of b.0.0 = ap (λ (z : FlatName × Thing). z.0.1) a.2 ∙ ap (λ (m : FlatName). m.1) q ∙ sym (ap (λ (z : FlatName × Thing). z.0.1) b.2) in
          let none = all_contained (λ name. not (list_any (λ other. text_eq (text_of name) (text_of other)) (keys i.functions))) (keys i.types) a.0.0 labelled.1
          (contains_mapped (λ (z : String Global × TypeId). z.0) i.types.entries a.0 a.1) in
          let wrong : false ≡ true = ap not (sym (any_contained (λ other. text_eq (text_of a.0.0) (text_of other)) (keys i.functions) b.0.0
          (contains_mapped (λ (z : String Global × Function). z.0) i.functions.entries b.0 b.1) ((bytes_eq-Decides (text_of a.0.0) (text_of b.0.0)).1 texts))) ∙ none in
          cc

      interface_members_apart : AreApart (members k i)
      interface_members_apart = apart_two (map (type_member k) i.types.entries) (map (function_member k) i.functions.entries)
          (members_apart k (λ (id : TypeId). of_type (ty.Id id)) i.types.entries (v.distinct_keys.interfaces n i at).0)
          (members_apart k of_function i.functions.entries (v.distinct_keys.interfaces n i at).1) types_and_functions

      members_not_empty : (y : FlatName × Thing) → Contains (members k i) y → (k, []) ≡ y.0 → ⊥
      members_not_empty y c q = of_members (λ z. z.0.1 ≡ [] → ⊥) k i type_not_empty function_key_not_empty y c (sym (ap (λ (m : FlatName). m.1) q))

  -- ---- what an item shows

  one_apart : (x : FlatName × Thing) → AreApart (x ∷ [])
  one_apart x = ((λ y c e. none_contained y c), tt)

  optional_apart : (k : Text) (n : ℕ) (o : Option Interface) → interface_at r n ≡ o → AreApart (((k, []), interface) ∷ option_map_or (members k) o [])
  optional_apart k n None at = one_apart ((k, []), interface)
  optional_apart k n (Some i) at = (members_not_empty n i at k, interface_members_apart n i at k)

  entry_key : (es : List (WorldKey × WorldItem)) (x : FlatName × Thing) → Contains (things_of r es) x → (e : WorldKey × WorldItem) × Contains es e × (x.0.0 ≡ bare_key r e.0)
  entry_key es x c = let w = flat_from (entry_things r) es x c in (w.0, w.1, item_key r (bare_key r w.0.0) w.0.1 x w.2)

  -- ---- what a world shows

  things_apart : (es : List (WorldKey × WorldItem)) → IsDistinct text_eq (bare_keys r es) → AreApart (things_of r es)
  unfolding IsDistinct
  things_apart [] d = tt
  things_apart (e ∷ es) d = apart_two (entry_things r e) (things_of r es) (search (std_rules, one_apart, optional_apart)) (things_apart es d.1) across
    where
      across : (x y : FlatName × Thing) → Contains (entry_things r e) x → Contains (things_of r es) y → x.0 ≡ y.0 → ⊥
      across x y a b q =
          let w = entry_key es y b in
          let texts : bare_key r e.0 ≡ bare_key r w.0.0 = sym (item_key r (bare_key r e.0) e.1 x a) ∙ ap (λ (m : FlatName). m.0) q ∙ w.2 in
          let differ : text_eq (bare_key r e.0) (bare_key r w.0.0) ≡ false = each_one (λ t. text_eq (bare_key r e.0) t ≡ false) (λ (z : WorldKey × WorldItem). bare_key r z.0) es d.0 w.0 w.1 in
          let wrong : true ≡ false = sym ((bytes_eq-Decides (bare_key r e.0) (bare_key r w.0.0)).1 texts) ∙ differ in
          cc

  included_in_itself : (es : List (WorldKey × WorldItem)) → IsDistinct text_eq (bare_keys r es) → IsIncluded (flat_form r es) (flat_form r es)
  included_in_itself es d e c =
      let w = contains_map (λ (x : FlatName × Thing). (x.0, shown r x.1)) (things_of r es) e c in
      subst (λ (x : FlatName × FlatShown). find_named x.0 (flat_form r es) ≡ Some x.1) w.2
      (found_shown r w.0.0 (things_of r es) ∙ ap (option_map (shown r)) (stands_once (things_of r es) (things_apart es d) w.0 w.1))

  pub accepts_itself : (w : World) → HasKeysOnce r w → Accepts r w w
  accepts_itself w h = search (std_rules, included_in_itself)
