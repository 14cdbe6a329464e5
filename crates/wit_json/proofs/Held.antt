-- The numbers of a valid `Resolve` are of 32 bits.
use Rattle.std.proofs.Common.{rules as std_rules, ◌≡◌, ◌∙◌, sym, refl, ℕ, suc, ◌≤◌, Bool, true, ◌&&◌, List, [], ◌∷◌, ◌++◌, map, filter_map, length, slice_get, option_to_list, Option, Some, arith, nat_lt, inl, inr}
use Rattle.std.proofs.lemmas.{Bool.ltb-true, Bool.false≢true, List.Folds.list_all-append, List.Folds.list_all-map, Option.slice_get_cases}
use Rattle.std.specs.List.{AllByRecursion, list_all}
use Rattle.indexmap.specs.IndexMap.{values}
use Rattle.base_lemmas.proofs.Bools.{left_of as first_true, right_of as second_true}
use Rattle.wit_model.specs.declared.model.{Resolve.Resolve, PackageId.PackageId, TypeDefKind.TypeDefKind, «Type».«Type» as ValueType, FunctionKind.FunctionKind}
use Rattle.wit_model.specs.declared.model.{Package.Package, Interface.Interface, WorldItem.WorldItem, TypeDef.TypeDef, TypeOwner.TypeOwner, Function.Function}
use Rattle.wit_model.specs.declared.model.World.{World}
use Rattle.wit_model.specs.{Types.number_of, Uses.alias_target, Valid.IsValid, Valid.is_place, Valid.numbers_in_range, Valid.shapes}
use Rattle.wit_model.specs.{Parts.function_numbers, Parts.function_types, Parts.handled, Parts.kind_numbers, Parts.member_types, Lookup.resource_of}
use Rattle.wit_model.specs.Rules.{entries_in_range, function_in_range, has_shape, in_list, item_in_range, key_in_range, owner_in_range, package_number, passes}
use Rattle.wit_model.proofs.{Lists.list_all_filter_map, Lists.list_all_given, Lists.list_all_mapped, ValidLemmas.type_passes, ValidLemmas.world_passes}
use Rattle.wit_model.proofs.OnePath.{interface-passes, package-passes}
use Rattle.wit_json.specs.Small.{HasSmallFunction, HasSmallInterface, HasSmallItem, HasSmallPackage, HasSmallType, HasSmallWorld, IsSmall, IsSmallFunctionKind, IsSmallHome, IsSmallKind, IsSmallOwner, IsSmallType, ValidAreSmall}
use Rattle.wit_model.specs.declared.model.WorldItem.TheVariants as item
use Rattle.wit_model.specs.declared.model.TypeDefKind.TheVariants as kind
use Rattle.wit_model.specs.declared.model.Handle.TheVariants as handle

-- ---- lists

all_of : {A : Type 0} {P : A → Type 0} (p : A → Bool) → ((x : A) → p x ≡ true → P x) → (xs : List A) → list_all p xs ≡ true → AllByRecursion P xs
all_of p h [] e = tt
all_of p h (x ∷ xs) e = (h x (first_true (p x) (list_all p xs) e), all_of p h xs (second_true (p x) (list_all p xs) e))

-- what each entry of a list keeps, by the entry's number
abbrev Keeps : {A : Type 0} → (A → Bool) → List A → Type 0
Keeps {A} q xs = (n : ℕ) (x : A) → slice_get xs n ≡ Some x → (is_place n && q x) ≡ true

few : {A : Type 0} (q : A → Bool) (xs : List A) → Keeps q xs → length xs ≤ 4294967295
few q xs h = elim (slice_get_cases xs 4294967295).1 [ inl w ↦ absurd (false≢true (first_true (is_place 4294967295) (q w.0) (h 4294967295 w.0 w.2))) | inr w ↦ w.0 ]

all_kept : {A : Type 0} {P : A → Type 0} (q : A → Bool) (xs : List A) → Keeps q xs → ((x : A) → q x ≡ true → P x) → AllByRecursion P xs
all_kept q xs h k = passing q xs (λ n x e. second_true (is_place n) (q x) (h n x e)) k
  where
    passing : {A : Type 0} {P : A → Type 0} (q : A → Bool) (xs : List A) → ((n : ℕ) (x : A) → slice_get xs n ≡ Some x → q x ≡ true) → ((x : A) → q x ≡ true → P x) → AllByRecursion P xs
    passing q [] h k = tt
    passing q (x ∷ xs) h k = (k x (h 0 x refl), passing q xs (λ n y e. h (suc n) y e) k)

-- ---- numbers below the length of a list

module _ {A : Type 0} (T : List A) (short : length T ≤ 4294967295) where
  below : (n : ℕ) → in_list T n ≡ true → IsSmall n
  below n e = let h = ltb-true n (length T) e in omega arith

  home_small : (p : Option PackageId) → passes (in_list T) (package_number p) ≡ true → IsSmallHome p
  home_small x e = search std_rules

  one_small : (n : ℕ) → list_all (in_list T) (n ∷ []) ≡ true → IsSmall n
  one_small n e = below n (first_true (in_list T n) true e)

  type_small : (t : ValueType) → list_all (in_list T) (option_to_list (number_of t)) ≡ true → IsSmallType (Some t)
  type_small x e = search std_rules

  optional_small : (t : Option ValueType) → list_all (λ y. list_all (in_list T) (option_to_list (number_of y))) (option_to_list t) ≡ true → IsSmallType t
  optional_small x e = search std_rules

  -- what a kind or a function is made of, by its types
  by_types : (ts : List ValueType) → list_all (in_list T) (filter_map number_of ts) ≡ true → list_all (λ y. list_all (in_list T) (option_to_list (number_of y))) ts ≡ true
  by_types ts e = sym (list_all_filter_map (in_list T) number_of ts) ∙ e

  members_of : (k : TypeDefKind) → list_all (in_list T) (kind_numbers k) ≡ true → list_all (in_list T) (filter_map number_of (member_types k)) ≡ true
  members_of k e = search std_rules

  others_of : (k : TypeDefKind) → list_all (in_list T) (kind_numbers k) ≡ true → list_all (in_list T) (option_to_list (handled k) ++ option_to_list (alias_target k)) ≡ true
  others_of k e = search std_rules

  first_of : (t : ValueType) (ts : List ValueType) → list_all (in_list T) (filter_map number_of (t ∷ ts)) ≡ true → IsSmallType (Some t)
  first_of t ts e = type_small t (first_true (list_all (in_list T) (option_to_list (number_of t))) _ (by_types (t ∷ ts) e))

  second_of : (t u : ValueType) → list_all (in_list T) (filter_map number_of (t ∷ u ∷ [])) ≡ true → IsSmallType (Some u)
  second_of t u e = type_small u (first_true (list_all (in_list T) (option_to_list (number_of u))) true (second_true (list_all (in_list T) (option_to_list (number_of t))) _ (by_types (t ∷ u ∷ []) e)))

  side_of : (t : Option ValueType) → list_all (in_list T) (filter_map number_of (option_to_list t)) ≡ true → IsSmallType t
  side_of t e = optional_small t (by_types (option_to_list t) e)

  sides : (t u : Option ValueType) → list_all (in_list T) (filter_map number_of (option_to_list t ++ option_to_list u)) ≡ true → IsSmallType t × IsSmallType u
  sides t u e = search std_rules

  fixed_small : (n : ℕ) (t : ValueType) → has_shape (kind.FixedLengthList t n) ≡ true → IsSmall n
  fixed_small n t e = ltb-true n 4294967296 (second_true _ (nat_lt n 4294967296) e)

  kind_small : (k : TypeDefKind) → list_all (in_list T) (kind_numbers k) ≡ true → has_shape k ≡ true → IsSmallKind k
  kind_small (kind.Record record_) e s = search (std_rules, all_of, type_small, list_all_mapped, members_of)
  kind_small (kind.Handle (handle.Own id)) e s = one_small id.0 (others_of (kind.Handle (handle.Own id)) e)
  kind_small (kind.Handle (handle.Borrow id)) e s = one_small id.0 (others_of (kind.Handle (handle.Borrow id)) e)
  kind_small (kind.Tuple tuple) e s = all_of _ type_small tuple.types.items (by_types tuple.types.items (members_of (kind.Tuple tuple) e))
  kind_small (kind.Variant variant) e s = search (std_rules, all_of, optional_small, list_all_given, members_of)
  kind_small (kind.Option t) e s = first_of t [] (members_of (kind.Option t) e)
  kind_small (kind.Result result) e s = sides result.ok result.err (members_of (kind.Result result) e)
  kind_small (kind.List t) e s = first_of t [] (members_of (kind.List t) e)
  kind_small (kind.Map k v) e s = (first_of k (v ∷ []) (members_of (kind.Map k v) e), second_of k v (members_of (kind.Map k v) e))
  kind_small (kind.FixedLengthList t n) e s = (first_of t [] (members_of (kind.FixedLengthList t n) e), fixed_small n t s)
  kind_small (kind.Future t) e s = side_of t (members_of (kind.Future t) e)
  kind_small (kind.Stream t) e s = side_of t (members_of (kind.Stream t) e)
  kind_small (kind.Type_ t) e s = type_small t (others_of (kind.Type_ t) e)
  kind_small _ e s = tt

  call_small : (k : FunctionKind) → list_all (in_list T) (option_to_list (resource_of k)) ≡ true → IsSmallFunctionKind k
  call_small x e = search std_rules

  function_small : (f : Function) → list_all (in_list T) (function_numbers f) ≡ true → HasSmallFunction f
  function_small f e =
      let both = sym (list_all-append (in_list T) (filter_map number_of (function_types f)) (option_to_list (resource_of f.kind))) ∙ e in
      let types = by_types (function_types f) (first_true _ (list_all (in_list T) (option_to_list (resource_of f.kind))) both) in
      let parts = sym (list_all-append (λ y. list_all (in_list T) (option_to_list (number_of y))) (map (λ p. p.ty) f.params.items) (option_to_list f.result)) ∙ types in
      let params = first_true (list_all (λ y. list_all (in_list T) (option_to_list (number_of y))) (map (λ p. p.ty) f.params.items)) _ parts in
      record {
        kind = call_small f.kind (second_true (list_all (in_list T) (filter_map number_of (function_types f))) _ both);
        params = all_of _ (λ p h. type_small p.ty h) f.params.items (sym (list_all-map (λ y. list_all (in_list T) (option_to_list (number_of y))) (λ p. p.ty) f.params.items) ∙ params);
        result = optional_small f.result (second_true (list_all (λ y. list_all (in_list T) (option_to_list (number_of y))) (map (λ p. p.ty) f.params.items)) _ parts);
      }

-- ---- entries

-- how many entries the lists have
record FewEntries (r : Resolve) : Type 0 where
  packages : length r.packages.items ≤ 4294967295
  interfaces : length r.interfaces.items ≤ 4294967295
  worlds : length r.worlds.items ≤ 4294967295
  types : length r.types.items ≤ 4294967295

module _ (r : Resolve) where
  package_test : Package → Bool
  package_test p = list_all (λ id. in_list r.interfaces.items id.0) (values p.interfaces) && list_all (λ id. in_list r.worlds.items id.0) (values p.worlds)

  interface_test : Interface → Bool
  interface_test i = passes (in_list r.packages.items) (package_number i.package)
      && (list_all (λ id. in_list r.types.items id.0) (values i.types) && list_all (function_in_range r) (values i.functions))

  world_test : World → Bool
  world_test w = passes (in_list r.packages.items) (package_number w.package) && (entries_in_range r w.imports.entries && entries_in_range r w.exports.entries)

  range_test : TypeDef → Bool
  range_test def = list_all (in_list r.types.items) (kind_numbers def.kind) && owner_in_range r def.owner

module _ (r : Resolve) (v : IsValid r) where
  packages_keep : Keeps (package_test r) r.packages.items
  unfolding numbers_in_range package_test
  packages_keep n p at = package-passes numbers_in_range r v.rules.numbers_in_range n p at

  interfaces_keep : Keeps (interface_test r) r.interfaces.items
  unfolding numbers_in_range interface_test
  interfaces_keep n i at = interface-passes numbers_in_range r v.rules.numbers_in_range n i at

  worlds_keep : Keeps (world_test r) r.worlds.items
  unfolding numbers_in_range world_test
  worlds_keep n w at = world_passes numbers_in_range r v.rules.numbers_in_range n w at

  types_keep : Keeps (λ def. range_test r def && has_shape def.kind) r.types.items
  unfolding numbers_in_range shapes range_test
  types_keep n def at = search (std_rules, type_passes numbers_in_range r v.rules.numbers_in_range n def, range_test r def, type_passes shapes r v.rules.shapes n def)

  few_entries : FewEntries r
  few_entries = record {
    packages = few (package_test r) r.packages.items packages_keep;
    interfaces = few (interface_test r) r.interfaces.items interfaces_keep;
    worlds = few (world_test r) r.worlds.items worlds_keep;
    types = few (λ def. range_test r def && has_shape def.kind) r.types.items types_keep;
  }

module _ (r : Resolve) (f : FewEntries r) where
  package_small : (p : Package) → package_test r p ≡ true → HasSmallPackage p
  unfolding package_test
  package_small p lists = record {
    interfaces = all_of _ (λ id h. below r.interfaces.items f.interfaces id.0 h) (values p.interfaces) (first_true _ (list_all (λ id. in_list r.worlds.items id.0) (values p.worlds)) lists);
    worlds = all_of _ (λ id h. below r.worlds.items f.worlds id.0 h) (values p.worlds) (second_true (list_all (λ id. in_list r.interfaces.items id.0) (values p.interfaces)) _ lists);
  }

  interface_small : (i : Interface) → interface_test r i ≡ true → HasSmallInterface i
  unfolding interface_test
  interface_small i all =
      let lists = second_true (passes (in_list r.packages.items) (package_number i.package)) _ all in
      record {
        home = home_small r.packages.items f.packages i.package (first_true (passes (in_list r.packages.items) (package_number i.package)) _ all);
        types = all_of _ (λ id h. below r.types.items f.types id.0 h) (values i.types) (first_true _ (list_all (function_in_range r) (values i.functions)) lists);
        functions = all_of _ (function_small r.types.items f.types) (values i.functions) (second_true (list_all (λ id. in_list r.types.items id.0) (values i.types)) _ lists);
      }

  item_small : (i : WorldItem) → item_in_range r i ≡ true → HasSmallItem i
  item_small (item.Interface id stability docs external_id) e = below r.interfaces.items f.interfaces id.0 e
  item_small (item.Function g) e = function_small r.types.items f.types g e
  item_small (item.Type_ id) e = below r.types.items f.types id.0 e

  world_small : (w : World) → world_test r w ≡ true → HasSmallWorld w
  unfolding world_test
  world_small w all =
      let lists = second_true (passes (in_list r.packages.items) (package_number w.package)) _ all in
      record {
        home = home_small r.packages.items f.packages w.package (first_true (passes (in_list r.packages.items) (package_number w.package)) _ all);
        imports = all_of _ (λ e h. item_small e.1 (second_true (key_in_range r e.0) _ h)) w.imports.entries (first_true _ (entries_in_range r w.exports.entries) lists);
        exports = all_of _ (λ e h. item_small e.1 (second_true (key_in_range r e.0) _ h)) w.exports.entries (second_true (entries_in_range r w.imports.entries) _ lists);
      }

  owner_small : (o : TypeOwner) → owner_in_range r o ≡ true → IsSmallOwner o
  owner_small x e = search std_rules

  def_small : (def : TypeDef) → (range_test r def && has_shape def.kind) ≡ true → HasSmallType def
  unfolding range_test
  def_small def all =
      let range = first_true (range_test r def) (has_shape def.kind) all in (
        kind_small r.types.items f.types def.kind (first_true _ (owner_in_range r def.owner) range) (second_true (range_test r def) (has_shape def.kind) all),
        owner_small def.owner (second_true (list_all (in_list r.types.items) (kind_numbers def.kind)) _ range),
      )

pub valid_are_small : ValidAreSmall
valid_are_small r v =
    let f = few_entries r v in
    record {
      packages = all_kept (package_test r) r.packages.items (packages_keep r v) (package_small r f);
      worlds = all_kept (world_test r) r.worlds.items (worlds_keep r v) (world_small r f);
      interfaces = all_kept (interface_test r) r.interfaces.items (interfaces_keep r v) (interface_small r f);
      types = all_kept (λ def. range_test r def && has_shape def.kind) r.types.items (types_keep r v) (def_small r f);
    }
