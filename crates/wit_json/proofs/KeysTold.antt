-- In a valid `Resolve` the keys of maps are told by what they lead to.
use Rattle.std.proofs.Common.{rules as std_rules, arith, ◌≡◌, ◌∙◌, sym, ap, refl, ℕ, suc, Bool, true, false, ◌&&◌, not, ◌==◌, cond, nat_lt, List, [], ◌∷◌, map, count_by, slice_get, Some, option_map, option_and_then, unwrap_or, is_some, eq-eqb, String, string_bytes}
use Rattle.std.proofs.lemmas.{Bool.true≢false, List.Folds.list_any-append}
use Rattle.std.specs.declared.alloc.Global.{Global}
use Rattle.std.specs.{List.list_all, Map.keys_of, Map.values_of, Option.option_map_or, Str.bytes_eq, HashMap.get_by_text}
use Rattle.indexmap.specs.IndexMap.{values}
use Rattle.base_lemmas.proofs.{Bools.left_of as first_true, Bools.right_of as second_true, Elements.all_get, Elements.not_all, Numbers.equal as equal-numbers}
use Rattle.base_lemmas.proofs.{Lists.map_of_map, Lists.mapped_get, Options.there as some-of}
use Rattle.wit_model.specs.declared.model.{Resolve.Resolve, Package.Package, World.World, WorldId.WorldId, TypeId.TypeId, Function.Function}
use Rattle.wit_model.specs.declared.model.{Interface.Interface, InterfaceId.InterfaceId, WorldKey.WorldKey, WorldItem.WorldItem, «TypeOwner».TypeOwner}
use Rattle.wit_model.specs.{Text.Text, Text.text_of, Text.text_eq, Names.is_label, Lookup.interface_at, Lookup.interface_path, Lookup.world_at}
use Rattle.wit_model.specs.Parts.{kind_numbers, same_owner}
use Rattle.wit_model.specs.Rules.{entries_in_range, entries_labels, export_stands, import_stands, in_list, interface_type_numbers, is_id, is_interface_key, is_listed, is_listed_in_interface, is_member, is_named_of, is_stability, item_in_range, item_labels, key_in_range, key_label, package_number, passes, text_is}
use Rattle.wit_model.specs.Valid.{IsValid, as_interface, function_names, is_place, labels, names_in_packages, numbers_in_range, order_of_types, world_items}
use Rattle.wit_model.proofs.{Listed.misfit, TextLemmas.text_named, TextLemmas.text_same, ValidLemmas.type_passes, ValidLemmas.world_passes}
use Rattle.wit_model.proofs.Listings.{given_all, given_found}
use Rattle.wit_model.proofs.{NameLaws.label_lacks, OnePath.found-in, OnePath.has-path, OnePath.interface-passes, OnePath.named-path, OnePath.package-passes}
use Rattle.wit_json.specs.Bare.{bare, bare_entry, bare_function, bare_item, bare_type, bare_world}
use Rattle.wit_json.specs.Keys.{BareKey, KeysAreTold, MapKeys, ValidTextsTell, bare_key, interface_key, interface_name, is_path, name_key, told_key, told_keys, type_name, world_name}
use Rattle.wit_json.proofs.{Codes.cons_same, Codes.pair_same, Held.valid_are_small, Told.texts_tell}
use Rattle.wit_model.specs.declared.model.WorldKey.TheVariants as key
use Rattle.wit_model.specs.declared.model.WorldItem.TheVariants as item
use Rattle.wit_model.specs.declared.model.«TypeOwner».TheVariants as owner

-- ---- lists

-- what two maps over a list make is the same where each element is
pub mapped_alike : {A B : Type 0} (f g : A → B) (xs : List A) → ((n : ℕ) (x : A) → slice_get xs n ≡ Some x → f x ≡ g x) → map f xs ≡ map g xs
mapped_alike f g [] h = refl
mapped_alike f g (x ∷ xs) h = cons_same (h 0 x refl) (mapped_alike f g xs (λ n y e. h (suc n) y e))

-- the keys of entries, where each is what is made of its value
keys_by_values : {K V X : Type 0} (f : K → X) (g : V → X) (es : List (K × V)) → ((n : ℕ) (e : K × V) → slice_get es n ≡ Some e → f e.0 ≡ g e.1) → map f (keys_of es) ≡ map g (values_of es)
keys_by_values f g es h = map_of_map f (λ e. e.0) es ∙ mapped_alike (λ e. f e.0) (λ e. g e.1) es h ∙ sym (map_of_map g (λ e. e.1) es)

-- ---- packages and interfaces

module _ (r : Resolve) (v : IsValid r) where
  -- an interface that is there, by its name
  interface_says : (n : ℕ) (t : Text) → in_list r.interfaces.items n ≡ true → passes (λ i. text_is i.name t) (interface_at r n) ≡ true → t ≡ interface_name (bare r) n
  interface_says n t inside h = grind (arith, found-in, text_named, unwrap_or, mapped_get)

  world_says : (n : ℕ) (t : Text) → in_list r.worlds.items n ≡ true → passes (λ w. text_eq (text_of w.name) t) (world_at r n) ≡ true → t ≡ world_name (bare r) n
  world_says n t inside h =
      let found = found-in r.worlds.items n inside in
      sym (text_same (text_of found.0.name) t (ap (passes (λ w. text_eq (text_of w.name) t)) (sym found.1) ∙ h))
      ∙ sym (ap (λ o. option_map_or (λ w. w.name) o []) (mapped_get (bare_world r) r.worlds.items n found.0 found.1))

  package_keys : (n : ℕ) (p : Package) → slice_get r.packages.items n ≡ Some p
      → ◌≡◌ {A = List Text × List Text} (map text_of (keys_of p.interfaces.entries), map text_of (keys_of p.worlds.entries))
      (map (interface_name (bare r)) (map (λ id. id.0) (values p.interfaces)), map (world_name (bare r)) (map (λ id. id.0) (values p.worlds)))
  unfolding numbers_in_range names_in_packages
  package_keys n p at =
      let names = package-passes names_in_packages r v.rules.names_in_packages n p at in
      let range = second_true (is_place n) _ (package-passes numbers_in_range r v.rules.numbers_in_range n p at) in
      let inside = first_true (list_all (λ id. in_list r.interfaces.items id.0) (values p.interfaces)) _ range in
      let worlds_inside = second_true (list_all (λ id. in_list r.interfaces.items id.0) (values p.interfaces)) _ range in
      let one : (q : ℕ) (e : String Global × InterfaceId) → slice_get p.interfaces.entries q ≡ Some e → text_of e.0 ≡ interface_name (bare r) e.1.0 = λ q e place.
      interface_says e.1.0 (text_of e.0)
      (all_get (λ (id : InterfaceId). in_list r.interfaces.items id.0) (values p.interfaces) q e.1 inside (mapped_get (λ (x : String Global × InterfaceId). x.1) p.interfaces.entries q e place))
      (all_get (λ (x : String Global × InterfaceId). passes (λ i. text_is i.name (text_of x.0)) (interface_at r x.1.0)) p.interfaces.entries q e (first_true _ _ names) place) in
      let other : (q : ℕ) (e : String Global × WorldId) → slice_get p.worlds.entries q ≡ Some e → text_of e.0 ≡ world_name (bare r) e.1.0 = λ q e place.
      world_says e.1.0 (text_of e.0)
      (all_get (λ (id : WorldId). in_list r.worlds.items id.0) (values p.worlds) q e.1 worlds_inside (mapped_get (λ (x : String Global × WorldId). x.1) p.worlds.entries q e place))
      (all_get (λ (x : String Global × WorldId). passes (λ w. text_eq (text_of w.name) (text_of x.0)) (world_at r x.1.0)) p.worlds.entries q e (second_true _ _ names) place) in
      pair_same (keys_by_values text_of (λ id. interface_name (bare r) id.0) p.interfaces.entries one ∙ sym (map_of_map (interface_name (bare r)) (λ (id : InterfaceId). id.0) (values p.interfaces)))
      (keys_by_values text_of (λ id. world_name (bare r) id.0) p.worlds.entries other ∙ sym (map_of_map (world_name (bare r)) (λ (id : WorldId). id.0) (values p.worlds)))

  -- ---- types and functions

  -- a named type that an interface owns stands in its list under its name
  listed_there : (n : ℕ) (i : Interface) → interface_at r n ≡ Some i → (m : ℕ) (t : Text) (o : TypeOwner) → same_owner o (as_interface n) ≡ true → is_listed r m t o ≡ true
      → is_listed_in_interface m t i ≡ true
  listed_there n i at m t x own h = search std_rules

  type_says : (n : ℕ) (i : Interface) → interface_at r n ≡ Some i → (q : ℕ) (e : String Global × TypeId) → slice_get i.types.entries q ≡ Some e → text_of e.0 ≡ type_name (bare r) e.1.0
  unfolding numbers_in_range order_of_types
  type_says n i at q e place =
      let value = mapped_get (λ (x : String Global × TypeId). x.1) i.types.entries q e place in
      let range = second_true (is_place n) _ (interface-passes numbers_in_range r v.rules.numbers_in_range n i at) in
      let inside = first_true (list_all (λ id. in_list r.types.items id.0) (values i.types)) _ (second_true (passes (in_list r.packages.items) (package_number i.package)) _ range) in
      let found = found-in r.types.items e.1.0 (all_get (λ (id : TypeId). in_list r.types.items id.0) (values i.types) q e.1 inside value) in
      let belongs : is_named_of r (as_interface n) e.1.0 ≡ true =
      all_get (is_named_of r (as_interface n)) (interface_type_numbers i) q e.1.0 (first_true (list_all (is_named_of r (as_interface n)) (interface_type_numbers i)) _
      (interface-passes order_of_types r v.rules.order_of_types n i at)) (mapped_get (λ (id : TypeId). id.0) (values i.types) q e.1 value) in
      let own : (is_some found.0.name && same_owner found.0.owner (as_interface n)) ≡ true = ap (passes (λ def. is_some def.name && same_owner def.owner (as_interface n))) (sym found.1) ∙ belongs in
      let name = some-of found.0.name (first_true (is_some found.0.name) _ own) in
      let stands : is_listed r e.1.0 (text_of name.0) found.0.owner ≡ true =
      ap (λ o. option_map_or (λ s. is_listed r e.1.0 (text_of s) found.0.owner) o (same_owner found.0.owner owner.None)) (sym name.1)
      ∙ second_true (list_all (λ m. nat_lt m e.1.0) (kind_numbers found.0.kind)) _ (type_passes order_of_types r v.rules.order_of_types e.1.0 found.0 found.1) in
      let listed = listed_there n i at e.1.0 (text_of name.0) found.0.owner (second_true (is_some found.0.name) _ own) stands in
      sym (text_same (text_of name.0) (text_of e.0) (go (text_of name.0) listed (text_eq (text_of name.0) (text_of e.0)) refl))
      ∙ sym (ap (λ o. unwrap_or (option_and_then (λ def. def.name) o) []) (mapped_get bare_type r.types.items e.1.0 found.0 found.1) ∙ ap (λ o. unwrap_or (option_map text_of o) []) name.1)
    where
      fails : (t : Text) → text_eq t (text_of e.0) ≡ false → is_listed_in_interface e.1.0 t i ≡ false
      fails t differs = (λ j. is_id e.1.0 (sym (given_found (get_by_text i.types t)) j) && (count_by (λ m. m == e.1.0) (sym (given_all (values_of i.types.entries)) j) == 1))
          ∙ misfit (λ k. bytes_eq t (string_bytes k)) (λ id. Some id.0) e.1.0 i.types.entries q e place (eq-eqb e.1.0 e.1.0 refl) differs

      go : (t : Text) → is_listed_in_interface e.1.0 t i ≡ true → (b : Bool) → text_eq t (text_of e.0) ≡ b → text_eq t (text_of e.0) ≡ true
      go t listed true same = same
      go t listed false same = absurd (true≢false (sym listed ∙ fails t same))

  interface_keys : (n : ℕ) (i : Interface) → slice_get r.interfaces.items n ≡ Some i
      → ◌≡◌ {A = List Text × List Text} (map text_of (keys_of i.types.entries), map text_of (keys_of i.functions.entries))
      (map (type_name (bare r)) (map (λ id. id.0) (values i.types)), map (λ f. f.name) (map bare_function (values i.functions)))
  unfolding function_names
  interface_keys n i at =
      let named : (q : ℕ) (e : String Global × Function) → slice_get i.functions.entries q ≡ Some e → text_of e.0 ≡ text_of e.1.name = λ q e place.
      text_same (text_of e.0) (text_of e.1.name) (first_true (text_eq (text_of e.0) (text_of e.1.name)) _
      (all_get (λ (x : String Global × Function). text_eq (text_of x.0) (text_of x.1.name) && is_member r (as_interface n) x.1) i.functions.entries q e
      (interface-passes function_names r v.rules.function_names n i at) place)) in
      pair_same (keys_by_values text_of (λ id. type_name (bare r) id.0) i.types.entries (type_says n i at) ∙ sym (map_of_map (type_name (bare r)) (λ (id : TypeId). id.0) (values i.types)))
      (keys_by_values text_of (λ f. text_of f.name) i.functions.entries named ∙ sym (map_of_map (λ f. f.name) bare_function (values i.functions)))

  -- ---- worlds

  -- a label is no path
  label_told : (name : String Global) → is_label (text_of name) ≡ true → is_path (text_of name) ≡ false
  label_told name h = not_all (λ c. c == 58) (text_of name) ∙ ap not (label_lacks 58 refl (text_of name) h)

  -- a path has a colon
  path_told : (n : ℕ) (path : Text) → interface_path r n ≡ Some path → is_path path ≡ true
  path_told n path h = grind (arith, has-path, list_any-append)

  -- a key that is an interface has that interface as its item, which is named
  abbrev KeyStands : WorldKey → WorldItem → Type 0
  KeyStands (key.Name name) i = Unit {0}
  KeyStands (key.Interface id) i = is_interface_key r id.0 i ≡ true

  named_told : (name : String Global) (i : WorldItem) → key_label (key.Name name) i ≡ true → name_key (text_of name) ≡ told_key (text_of name, bare_item i)
  named_told name x h = search (std_rules, label_told)

  interface_told : (n : ℕ) (i : WorldItem) → in_list r.interfaces.items n ≡ true → is_interface_key r n i ≡ true → interface_key n ≡ told_key (unwrap_or (interface_path r n) [], bare_item i)
  interface_told n (item.Interface id stability docs external_id) inside h =
      let found = found-in r.interfaces.items n inside in
      let named : is_some found.0.name ≡ true = ap (passes (λ other. is_some other.name)) (sym found.1) ∙ second_true (is_id n (Some id.0)) _ h in
      let path = some-of (interface_path r n) (named-path r v n (ap (λ o. option_map_or (λ other. is_some other.name) o false) found.1 ∙ named)) in
      let same : id.0 ≡ n = equal-numbers id.0 n (first_true (is_id n (Some id.0)) _ h) in
      sym (ap (λ b. cond b (interface_key id.0) (name_key (unwrap_or (interface_path r n) []))) (ap (λ o. is_path (unwrap_or o [])) path.1 ∙ path_told n path.0 path.1) ∙ ap interface_key same)
  interface_told n (item.Function f) inside h = let wrong : ⊥ = cc in absurd wrong
  interface_told n (item.Type_ id) inside h = let wrong : ⊥ = cc in absurd wrong

  entry_told : (k : WorldKey) (i : WorldItem) → key_in_range r k ≡ true → key_label k i ≡ true → KeyStands k i → bare_key k ≡ told_key (bare_entry r (k, i))
  entry_told x i range label stands = search (std_rules, named_told, interface_told)

  import_key : (n : ℕ) (k : WorldKey) (i : WorldItem) → import_stands r n k i ≡ true → KeyStands k i
  import_key n x i h = search std_rules

  export_key : (k : WorldKey) (i : WorldItem) → export_stands r k i ≡ true → KeyStands k i
  export_key x i h = search std_rules

  side_told : (es : List (WorldKey × WorldItem)) → entries_in_range r es ≡ true → entries_labels es ≡ true
      → ((q : ℕ) (e : WorldKey × WorldItem) → slice_get es q ≡ Some e → KeyStands e.0 e.1) → map bare_key (keys_of es) ≡ map told_key (map (bare_entry r) es)
  side_told es range labelled stands = map_of_map bare_key (λ (e : WorldKey × WorldItem). e.0) es
      ∙ mapped_alike (λ e. bare_key e.0) (λ e. told_key (bare_entry r e)) es
      (λ q e place. entry_told e.0 e.1 (first_true _ _ (all_get (λ (x : WorldKey × WorldItem). key_in_range r x.0 && item_in_range r x.1) es q e range place))
      (first_true _ _ (all_get (λ (x : WorldKey × WorldItem). key_label x.0 x.1 && item_labels x.1) es q e labelled place)) (stands q e place)) ∙ sym (map_of_map told_key (bare_entry r) es)

  world_keys : (n : ℕ) (w : World) → slice_get r.worlds.items n ≡ Some w
      → ◌≡◌ {A = List BareKey × List BareKey} (map bare_key (keys_of w.imports.entries), map bare_key (keys_of w.exports.entries))
      (map told_key (map (bare_entry r) w.imports.entries), map told_key (map (bare_entry r) w.exports.entries))
  unfolding numbers_in_range labels world_items
  world_keys n w at =
      let range = second_true (passes (in_list r.packages.items) (package_number w.package)) _ (second_true (is_place n) _ (world_passes numbers_in_range r v.rules.numbers_in_range n w at)) in
      let labelled = second_true (is_stability w.stability) _ (second_true (is_label (text_of w.name)) _ (world_passes labels r v.rules.labels n w at)) in
      let stand = world_passes world_items r v.rules.world_items n w at in
      let imports = list_all (λ (e : WorldKey × WorldItem). import_stands r n e.0 e.1) w.imports.entries in
      pair_same (side_told w.imports.entries (first_true (entries_in_range r w.imports.entries) _ range) (first_true (entries_labels w.imports.entries) _ labelled) (λ q e place.
      import_key n e.0 e.1 (all_get (λ (x : WorldKey × WorldItem). import_stands r n x.0 x.1) w.imports.entries q e (first_true imports _ stand) place)))
      (side_told w.exports.entries (second_true (entries_in_range r w.imports.entries) _ range) (second_true (entries_labels w.imports.entries) _ labelled) (λ q e place.
      export_key e.0 e.1 (all_get (λ (x : WorldKey × WorldItem). export_stands r x.0 x.1) w.exports.entries q e (second_true imports _ stand) place)))

-- ---- all of them

keys_same : {a b : List (List Text × List Text)} {c d : List (List BareKey × List BareKey)} {e f : List (List Text × List Text)} → a ≡ b → c ≡ d → e ≡ f
    → ◌≡◌ {A = MapKeys} (record { packages = a; worlds = c; interfaces = e }) (record { packages = b; worlds = d; interfaces = f })
keys_same p q s = λ i. record { packages = p i; worlds = q i; interfaces = s i }

pub keys_are_told : KeysAreTold
keys_are_told r v = grind (arith, keys_same, mapped_alike, package_keys, map_of_map, world_keys, interface_keys)

pub valid_texts_tell : ValidTextsTell
valid_texts_tell text subject r s n m v w small small' a b =
    let told = texts_tell text subject r s n m (valid_are_small r v) (valid_are_small s w) small small' a b in
    (told.0, keys_are_told r v ∙ ap told_keys told.0 ∙ sym (keys_are_told s w), told.1)
