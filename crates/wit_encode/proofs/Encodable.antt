-- An interface meets types of its own, and types of interfaces that it uses: where these stand around, all of it can be encoded.
use Rattle.std.proofs.Common.{rules as std_rules, ◌≡◌, refl, sym, subst, ap, ◌∙◌, ℕ, suc, Bool, true, false, not, cond, ◌&&◌, ◌||◌, ◌==◌, List, [], ◌∷◌, map, length, option_to_list, Option, Some, String, is_some, arith}
use Rattle.std.proofs.lemmas.{Bool.lt-ltb, Simd.map-map, Option.same_Some as some-same}
use Rattle.std.specs.declared.alloc.Global.{Global}
use Rattle.std.specs.{List.Contains, List.list_all, Option.option_map_or, Prelude.option_map, Prelude.option_and_then, Str.bytes_eq, HashMap.get_by_text}
use Rattle.std.specs.Map.{lookup}
use Rattle.indexmap.specs.IndexMap.{values}
use Rattle.wit_model.specs.{Text.Text, Text.text_of, Valid.IsValid, Valid.numbers_in_range, Valid.order_of_types, Valid.is_place, Valid.functions_of_interface}
use Rattle.wit_model.specs.{Lookup.type_at, Lookup.interface_at, Parts.same_owner}
use Rattle.wit_model.specs.Meant.{type_meaning, type_meaning_at, interface_meaning, interface_meaning_at, no_interface, no_type}
use Rattle.wit_model.specs.Uses.{owner_interface, used_interface, interface_used_by, direct_deps, has}
use Rattle.wit_model.specs.Rules.{in_list, is_id, is_listed, is_listed_in_interface, is_named_of, is_use, passes, package_number, interface_type_numbers, function_in_range}
use Rattle.wit_model.specs.declared.model.{Resolve.Resolve, TypeDef.TypeDef, TypeId.TypeId}
use Rattle.wit_model.specs.declared.model.{Interface.Interface, InterfaceId.InterfaceId, Function.Function, TypeOwner.TypeOwner, «Type».«Type» as ValueType}
use Rattle.wit_encode.specs.declared.interface.Foreign.{Foreign}
use Rattle.wit_model.proofs.{Shown.deps_pass, OnePath.found-in, OnePath.interface-passes as interface_passes, Elements.contains-has, Elements.has-contains}
use Rattle.wit_model.proofs.PartsLemmas.{owner_same as same-owner}
use Rattle.comp_bytes.specs.Raw.{Declarations}
use Rattle.encode_types.specs.{KeyLaws.text_same, Resources.is_met_owner, Fits.CanEncode, Scope.Scope, Known.UsedStand, Plan.Reaches, Plan.itself, Plan.through}
use Rattle.wit_encode.specs.Instance.{CanEncodeFunction, CanEncodeInterface, encoder_scope, opened, keyed, standing_instances, around_at}
use Rattle.wit_encode.specs.OwnerScope.{IsScopeOf, IsUsedBy, UsesStand, IsTypeOf, InterfaceUses, functions_of}
use Rattle.wit_encode.proofs.{Naming.one-home, Naming.names-agree, Opening.opened-sound, Opening.opened-around}
use Rattle.wit_encode.proofs.{OwnerScope.types_encode, OwnerScope.types_use, OwnerScope.functions_encode, OwnerScope.functions_use, Validity.valid-layered}
use Rattle.base_lemmas.proofs.{Bools.left_of as first_true, Bools.right_of as second_true, Options.there as some-of, Elements.all_pass}
use Rattle.base_lemmas.proofs.{Elements.all-contained, Elements.contains-map, Elements.last_of as one-contained, Numbers.equal as equal-numbers}
use Rattle.encode_shown.proofs.Members.{valid-listed}
use Rattle.wit_model.specs.declared.model.TypeOwner.TheVariants as owner
use Rattle.wit_model.specs.declared.model.«Type».TheVariants as ty

-- ---- look-ups

-- an entry of this number and this text
record HasEntry (es : List (String Global × TypeId)) (n : ℕ) (t : Text) : Type 0 where
  pub entry : String Global × TypeId
  pub there : Contains es entry
  pub number : entry.1.0 ≡ n
  pub text : text_of entry.0 ≡ t

abbrev is_found : List (String Global × TypeId) → ℕ → Text → Bool
is_found es n t = is_id n (option_map (λ id. id.0) (lookup (λ k. bytes_eq t (text_of k)) es))

-- a look-up by text finds one
listed-entry : (es : List (String Global × TypeId)) (n : ℕ) (t : Text) → is_found es n t ≡ true → HasEntry es n t
listed-entry [] n t h = absurd cc
listed-entry (e ∷ es) n t h = go (listed-entry es n t) (bytes_eq t (text_of e.0)) refl h
  where
    go : (is_found es n t ≡ true → HasEntry es n t) → (b : Bool) → bytes_eq t (text_of e.0) ≡ b
        → is_id n (option_map (λ id. id.0) (cond b (Some e.1) (lookup (λ k. bytes_eq t (text_of k)) es))) ≡ true → HasEntry (e ∷ es) n t
    go more true q h = record { entry = e; there = (0, omega arith, refl); number = equal-numbers e.1.0 n h; text = sym (text_same t (text_of e.0) q) }
    go more false q h =
        let rest = more h in
        record { entry = rest.entry; there = (suc rest.there.0, omega (arith, rest.there.1), rest.there.2); number = rest.number; text = rest.text }

-- ---- uses

abbrev named-interface : Resolve → Option ℕ → Bool
named-interface r o = option_map_or (λ i. option_map_or (λ other. is_some other.name) (interface_at r i) false) o false

-- whether the owner of a target is another than that of its alias, and a named interface
abbrev is-other : Resolve → TypeOwner → TypeOwner → Bool
is-other r own a = not (same_owner a own) && named-interface r (owner_interface a)

-- an alias of a type of another interface
abbrev UsesOther : Resolve → TypeDef → InterfaceId → Type 0
UsesOther r def i = (m : ℕ) × (used_interface r def ≡ Some m) × ((m == i.0) ≡ false)

-- a use is one
-- a use is one
used-other : (r : Resolve) (def : TypeDef) (i : InterfaceId) → def.owner ≡ owner.Interface i → is_use r def ≡ true → UsesOther r def i
used-other r def i own h = search std_rules

module _ (r : Resolve) (v : IsValid r) (i : InterfaceId) (home : Interface) (there : interface_at r i.0 ≡ Some home) where
  abbrev own : TypeOwner
  own = owner.Interface i

  -- ---- the interface's own types

  -- a named type of the interface has an entry there
  entry-of : (n : ℕ) (def : TypeDef) (name : String Global) → type_at r n ≡ Some def → def.name ≡ Some name → def.owner ≡ own → HasEntry home.types.entries n (text_of name)
  entry-of n def name is named here =
      let listed : is_listed r n (text_of name) own ≡ true = ap (is_listed r n (text_of name)) (sym here) ∙ valid-listed r v n def name is named in
      let at_home : is_listed_in_interface n (text_of name) home ≡ true = ap (passes (is_listed_in_interface n (text_of name))) (sym there) ∙ listed in
      listed-entry home.types.entries n (text_of name) (first_true (is_id n (option_map (λ id. id.0) (get_by_text home.types (text_of name)))) _ at_home)

  -- so it is one of the declarations
  own-there : (n : ℕ) (def : TypeDef) (name : String Global) → type_at r n ≡ Some def → def.name ≡ Some name → def.owner ≡ own
      → Contains (interface_meaning_at r i.0).types (text_of name, type_meaning r def)
  own-there n def name is named here =
      let e = entry-of n def name is named here in
      let meant : type_meaning_at r e.entry.1.0 ≡ type_meaning r def = ap (type_meaning_at r) e.number ∙ ap (λ o. option_map_or (type_meaning r) o no_type) is in
      let same : (text_of e.entry.0, type_meaning_at r e.entry.1.0) ≡ (text_of name, type_meaning r def) = λ j. (e.text j, meant j) in
      subst (λ d. Contains (interface_meaning_at r i.0).types d) same
      (subst (λ (o : Option Interface). Contains (option_map_or (interface_meaning r) o no_interface).types (text_of e.entry.0, type_meaning_at r e.entry.1.0)) (sym there)
      (contains-map (λ e. (text_of e.0, type_meaning_at r e.1.0)) home.types.entries e.entry e.there))

  -- a type that is listed is a named one of the interface
  listed-own : (t : TypeId) → Contains (values home.types) t → (def : TypeDef) → type_at r t.0 ≡ Some def → (is_some def.name && same_owner def.owner own) ≡ true
  unfolding order_of_types
  listed-own t c def is =
      let passed = first_true (list_all (is_named_of r own) (interface_type_numbers home)) _ (interface_passes order_of_types r v.rules.order_of_types i.0 home there) in
      let one = all-contained (is_named_of r own) (interface_type_numbers home) t.0 passed (contains-map (λ id. id.0) (values home.types) t c) in
      ap (passes (λ def. is_some def.name && same_owner def.owner own)) (sym is) ∙ one

  -- ---- what is in range

  ranges : (list_all (λ id. in_list r.types.items id.0) (values home.types) && list_all (function_in_range r) (values home.functions)) ≡ true
  unfolding numbers_in_range
  ranges = second_true (passes (in_list r.packages.items) (package_number home.package)) _ (second_true (is_place i.0) _ (interface_passes numbers_in_range r v.rules.numbers_in_range i.0 home there))

  types-inside : (t : TypeId) → Contains (values home.types) t → in_list r.types.items t.0 ≡ true
  types-inside t c = all-contained (λ id. in_list r.types.items id.0) (values home.types) t (first_true (list_all (λ id. in_list r.types.items id.0) (values home.types)) _ ranges) c

  -- ---- types of interfaces that are used

  -- an interface is used where a type is an alias of a type of it
  abbrev is_dep : ℕ → Bool
  is_dep m = (m == i.0) || has (direct_deps r i.0) m

  all-deps : list_all (λ id. list_all is_dep (option_to_list (interface_used_by r id.0))) (values home.types) ≡ true
  all-deps = deps_pass (has (direct_deps r i.0)) r i.0 home there ∙ all_pass (has (direct_deps r i.0)) (direct_deps r i.0) (contains-has (direct_deps r i.0))

  dep-there : (n : ℕ) (def : TypeDef) (name : String Global) → type_at r n ≡ Some def → def.name ≡ Some name → def.owner ≡ own → (m : ℕ) → used_interface r def ≡ Some m → (m == i.0) ≡ false
      → Contains (direct_deps r i.0) m
  dep-there n def name is named here m used other =
      let e = entry-of n def name is named here in
      let listed = contains-map (λ e. e.1) home.types.entries e.entry e.there in
      let one = all-contained (λ id. list_all is_dep (option_to_list (interface_used_by r id.0))) (values home.types) e.entry.1 all-deps listed in
      let at : interface_used_by r e.entry.1.0 ≡ Some m = ap (interface_used_by r) e.number ∙ ap (option_and_then (used_interface r)) is ∙ used in
      let passed : (is_dep m && true) ≡ true = ap (λ o. list_all is_dep (option_to_list o)) (sym at) ∙ one in
      has-contains (direct_deps r i.0) m (sym (ap (λ b. b || has (direct_deps r i.0) m) other) ∙ first_true (is_dep m) true passed)

  -- so each interface that its types use is one of these
  used-there : (j : ℕ) → IsUsedBy r own j → Contains (direct_deps r i.0) j
  used-there j u =
      let name = some-of u.def.name u.named_ in
      let used = used-other r u.def i u.owned u.uses in
      let same : used.0 ≡ j = some-same used.0 j (sym used.1 ∙ u.interface) in
      subst (λ (m : ℕ). Contains (direct_deps r i.0) m) same (dep-there u.number u.def name.0 u.there name.1 u.owned used.0 used.1 used.2)

  -- ---- the scope

  type-of : (t : TypeId) → Contains (values home.types) t → IsTypeOf r own t
  type-of t c =
      let found = found-in r.types.items t.0 (types-inside t c) in
      let listed = listed-own t c found.0 found.1 in
      record { def = found.0; there = found.1; named_ = first_true (is_some found.0.name) _ listed; owned = same-owner found.0.owner own (second_true (is_some found.0.name) _ listed) }

  function-of : (f : Function) → Contains (functions_of_interface home) f → Contains (functions_of r own) f
  function-of f c = subst (λ (o : Option Interface). Contains (option_map_or functions_of_interface o []) f) (sym there) c

  module _ (outer : Declarations) (known : Foreign) where
    abbrev scope : Scope
    scope = encoder_scope r outer (opened i known)

    -- the scope of the interface is that of its owner
    pub opened-scope : IsScopeOf r own scope
    opened-scope = record { packages_ = refl; place_ = refl; own = refl; declares = own-there; names = names-agree r v (is_met_owner r own) (one-home r v own); sound = opened-sound r outer i known }

    module _ (around : UsedStand r (standing_instances r (around_at outer known)) i.0) where
      uses : UsesStand r own scope
      uses j u = opened-around r outer i known j (around j (used-there j u))

      type-encodes : (t : TypeId) → Contains (values home.types) t → CanEncode r scope (ty.Id t ∷ [])
      type-encodes t c = types_encode r own scope t v opened-scope (type-of t c) (types_use r own scope t v opened-scope (type-of t c) uses)

      function-encodes : (f : Function) → Contains (functions_of_interface home) f → CanEncodeFunction r scope f
      function-encodes f c = functions_encode r own scope f v opened-scope (function-of f c) (functions_use r own scope f v opened-scope (function-of f c) uses)

pub interface_uses : InterfaceUses
interface_uses r i j v inside u =
    let found = found-in r.interfaces.items i.0 (lt-ltb i.0 (length r.interfaces.items) inside) in
    used-there r v i found.0 found.1 j u

-- In valid packages an interface can be encoded where those that it uses stand around.
pub valid-encodable : (r : Resolve) → IsValid r → (outer : Declarations) (i : InterfaceId) (known : Foreign) (def : Interface) → interface_at r i.0 ≡ Some def
    → UsedStand r (standing_instances r (around_at outer known)) i.0 → CanEncodeInterface r outer i known def
valid-encodable r v outer i known def there around = record {
  types = type-encodes r v i def there outer known around;
  functions = λ f c. function-encodes r v i def there outer known around f.1 (listed f c);
}
  where
    listed : (f : Text × Function) → Contains (map keyed def.functions.entries) f → Contains (functions_of_interface def) f.1
    listed f c = subst (λ (fs : List Function). Contains fs f.1) (map-map (λ e. e.1) keyed def.functions.entries) (contains-map (λ e. e.1) (map keyed def.functions.entries) f c)

-- a primitive type can be encoded in any scope of valid packages
pub primitive-encodes : (r : Resolve) → IsValid r → (s : Scope) → s.packages ≡ r → CanEncode r s (ty.U32 ∷ [])
primitive-encodes r v s p =
    let layered = valid-layered r v in
    record { packages_ = p; layered = layered; in_range = λ t h id e. absurd (cc (one-contained ty.U32 t h ∙ e)); fits = λ t h n k. absurd (nothing-reached t n (one-contained ty.U32 t h) k) }
  where
    nothing-reached : (t : ValueType) (n : ℕ) → ty.U32 ≡ t → Reaches r s.own_interface t n → ⊥
    nothing-reached _ _ e (itself id) = cc
    nothing-reached _ _ e (through id def t n at f c k) = cc
