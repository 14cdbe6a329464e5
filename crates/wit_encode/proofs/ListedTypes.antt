-- The types of an interface in valid packages: each stands in the list once, under its name, behind those of the list that it uses.
use Rattle.std.proofs.Common.{◌≡◌, refl, sym, subst, ap, ◌∙◌, ℕ, ◌⊎◌, inl, inr, true, false, not, ◌&&◌, ◌||◌, ◌==◌, nat_lt, List, [], take, count_by, slice_get, Option, Some, None, is_some, String, string_bytes, option_map}
use Rattle.std.proofs.{lemmas.Option.slice_get-map, lemmas.Bool.cases_Bool}
use Rattle.std.specs.declared.alloc.Global.{Global}
use Rattle.std.specs.{Prelude.is_none, List.Contains, List.list_all, Option.option_map_or, Str.bytes_eq, HashMap.get_by_text}
use Rattle.indexmap.specs.IndexMap.{values}
use Rattle.wit_model.specs.{Text.Text, Text.text_of, Uses.has, Uses.owner_interface, Parts.kind_numbers, Parts.used_by_type, Parts.same_owner, Parts.has_owner}
use Rattle.wit_model.specs.{Lookup.type_at, Lookup.interface_at, Valid.IsValid, Valid.as_interface, Valid.numbers_in_range, Valid.order_of_types}
use Rattle.wit_model.specs.Rules.{passes, in_list, is_listed, is_listed_in_interface, is_named_of, is_use, interface_type_numbers, used_by_number, are_in_order}
use Rattle.wit_model.specs.declared.model.{Resolve.Resolve, Interface.Interface, TypeDef.TypeDef, TypeId.TypeId, TypeOwner.TypeOwner}
use Rattle.wit_model.proofs.{Listed.misfit, InOrder.found_stands, Elements.has-contains, PartsLemmas.owner_same as same-owner, ValidLemmas.type_passes}
use Rattle.wit_model.proofs.{Listings.given_all, Listings.given_found, OnePath.given-test, OnePath.found-in, OnePath.interface-passes as interface_passes}
use Rattle.encode_types.specs.{KeyLaws.text_same, Kinds.parts_of, Plan.foreign_owner, Table.interface_of_owner}
use Rattle.wit_encode.proofs.{Owned.alias-part, Owned.own-interface, Owned.owner-kept as kept-of-owner, Numbers.after-at}
use Rattle.encode_shown.proofs.Basics.{or-cases}
use Rattle.base_lemmas.proofs.{Bools.left_of as first_true, Bools.not-false, Bools.right_of as second_true, Elements.all-contained, Elements.get-contains}
use Rattle.base_lemmas.proofs.Numbers.{same-number}
use Rattle.wit_model.specs.declared.model.TypeOwner.TheVariants as owner
use Rattle.wit_model.specs.declared.model.«Type».TheVariants as ty

-- a type of an interface's list
pub record IsListedType (r : Resolve) (i : ℕ) (e : String Global × TypeId) : Type 0 where
  pub def : TypeDef
  pub there : type_at r e.1.0 ≡ Some def
  pub name : String Global
  pub named_ : def.name ≡ Some name
  pub owned : same_owner def.owner (as_interface i) ≡ true

module _ (r : Resolve) (v : IsValid r) (i : ℕ) (interface : Interface) (there : interface_at r i ≡ Some interface) where
  abbrev pub numbers : List ℕ
  numbers = interface_type_numbers interface

  all-named : list_all (is_named_of r (as_interface i)) numbers ≡ true
  unfolding order_of_types
  all-named = first_true (list_all (is_named_of r (as_interface i)) numbers) (are_in_order r numbers) (interface_passes order_of_types r v.rules.order_of_types i interface there)

  in-order : are_in_order r numbers ≡ true
  unfolding order_of_types
  in-order = second_true (list_all (is_named_of r (as_interface i)) numbers) (are_in_order r numbers) (interface_passes order_of_types r v.rules.order_of_types i interface there)

  inside : list_all (λ (id : TypeId). in_list r.types.items id.0) (values interface.types) ≡ true
  unfolding numbers_in_range
  inside = first_true _ _ (second_true _ _ (second_true _ _ (interface_passes numbers_in_range r v.rules.numbers_in_range i interface there)))

  passed : (m : ℕ) (def : TypeDef) → type_at r m ≡ Some def → option_map_or (λ name. is_listed r m (text_of name) def.owner) def.name (same_owner def.owner owner.None) ≡ true
  unfolding order_of_types
  passed m def at = second_true (list_all (λ k. nat_lt k m) (kind_numbers def.kind)) _ (type_passes order_of_types r v.rules.order_of_types m def at)

  owner-kept : (m : ℕ) (def : TypeDef) → type_at r m ≡ Some def → (is_none def.name || (list_all (has_owner r def.owner) (used_by_type r def) || is_use r def)) ≡ true
  owner-kept m def at = kept-of-owner r v m def at

  -- ---- the types of the owner

  owner-named : (m : ℕ) (def : TypeDef) → type_at r m ≡ Some def → same_owner def.owner (as_interface i) ≡ true → (name : String Global) × (def.name ≡ Some name)
  owner-named m def at s = go def.name refl (passed m def at)
    where
      go : (x : Option (String Global)) → def.name ≡ x → option_map_or (λ name. is_listed r m (text_of name) def.owner) x (same_owner def.owner owner.None) ≡ true
          → (name : String Global) × (def.name ≡ Some name)
      go None e h = cc (subst (λ (a : TypeOwner). same_owner a owner.None ≡ true) (same-owner def.owner (as_interface i) s) h)
      go (Some name) e h = (name, e)

  -- a type of the owner stands in the list under its name
  listed-as : (m : ℕ) (def : TypeDef) (name : String Global) → type_at r m ≡ Some def → def.name ≡ Some name → same_owner def.owner (as_interface i) ≡ true
      → is_listed_in_interface m (text_of name) interface ≡ true
  listed-as m def name at named s = ap (passes (is_listed_in_interface m (text_of name))) (sym there)
      ∙ subst (λ (a : TypeOwner). is_listed r m (text_of name) a ≡ true) (same-owner def.owner (as_interface i) s)
      (given-test (λ name. is_listed r m (text_of name) def.owner) def.name (same_owner def.owner owner.None) name named (passed m def at))

  stands : (m : ℕ) (t : Text) → is_listed_in_interface m t interface ≡ true → has numbers m ≡ true
  stands m t h = ap (λ ns. has ns m) (sym (given_all (values interface.types)))
      ∙ found_stands (λ k. bytes_eq t (string_bytes k)) (λ (id : TypeId). Some id.0) m interface.types.entries
      (ap (λ o. option_map_or (λ k. k == m) o false) (given_found (get_by_text interface.types t)) ∙ first_true _ _ h)

  pub owned-listed : (m : ℕ) → has_owner r (as_interface i) m ≡ true → has numbers m ≡ true
  owned-listed m h = go (type_at r m) refl h
    where
      go : (o : Option TypeDef) → type_at r m ≡ o → option_map_or (λ def. same_owner def.owner (as_interface i)) o false ≡ true → has numbers m ≡ true
      go None e h = absurd cc
      go (Some def) e h = let named = owner-named m def e h in stands m (text_of named.0) (listed-as m def named.0 e named.1 h)

  -- ---- an entry

  module _ (k : ℕ) (e : String Global × TypeId) (at : slice_get interface.types.entries k ≡ Some e) where
    pub type-there : slice_get (values interface.types) k ≡ Some e.1
    type-there = slice_get-map (λ x. x.1) interface.types.entries k ∙ ap (option_map (λ x. x.1)) at

    pub number-there : slice_get numbers k ≡ Some e.1.0
    number-there = slice_get-map (λ (id : TypeId). id.0) (values interface.types) k ∙ ap (option_map (λ (id : TypeId). id.0)) type-there

    pub listed-type : IsListedType r i e
    listed-type =
        let found = found-in r.types.items e.1.0 (all-contained (λ (id : TypeId). in_list r.types.items id.0) (values interface.types) e.1 inside
        (get-contains (values interface.types) k e.1 type-there)) in
        let named = all-contained (is_named_of r (as_interface i)) numbers e.1.0 all-named (get-contains numbers k e.1.0 number-there) in
        let owned = second_true (is_some found.0.name) (same_owner found.0.owner (as_interface i))
        (ap (passes (λ (def : TypeDef). is_some def.name && same_owner def.owner (as_interface i))) (sym found.1) ∙ named) in
        let name = owner-named e.1.0 found.0 found.1 owned in
        record { def = found.0; there = found.1; name = name.0; named_ = name.1; owned = owned }

    module _ (h : IsListedType r i e) where
      listed-here : is_listed_in_interface e.1.0 (text_of h.name) interface ≡ true
      listed-here = listed-as e.1.0 h.def h.name h.there h.named_ h.owned

      -- once
      pub listed-once : (count_by (λ m. m == e.1.0) numbers == 1) ≡ true
      listed-once = second_true _ _ listed-here

      -- its key is its name
      pub listed-key : text_of e.0 ≡ text_of h.name
      listed-key = elim (cases_Bool (bytes_eq (text_of h.name) (string_bytes e.0))) [
        | inl q ↦ sym (text_same (text_of h.name) (text_of e.0) q)
        | inr q ↦ (let fails = (λ j. option_map_or (λ m. m == e.1.0) (sym (given_found (get_by_text interface.types (text_of h.name))) j) false &&
            (count_by (λ m. m == e.1.0) (sym (given_all (values interface.types)) j) == 1))
            ∙ misfit (λ key. bytes_eq (text_of h.name) (string_bytes key)) (λ (id : TypeId). Some id.0) e.1.0 interface.types.entries k e at (same-number e.1.0) q in
            cc (sym listed-here ∙ fails))
      ]

      used-before : (x : ℕ) → Contains (used_by_type r h.def) x → has numbers x ≡ true → Contains (take k numbers) x
      used-before x c s =
          let all : list_all (λ m. not (has numbers m) || has (take k numbers) m) (used_by_number r e.1.0) ≡ true = after-at
          (λ before n. list_all (λ m. not (has numbers m) || has before m) (used_by_number r n)) [] numbers k e.1.0 in-order number-there in
          let one = all-contained (λ m. not (has numbers m) || has (take k numbers) m) (used_by_type r h.def) x
          (ap (λ o. list_all (λ m. not (has numbers m) || has (take k numbers) m) (option_map_or (used_by_type r) o [])) (sym h.there) ∙ all) c in
          has-contains (take k numbers) x (ap (λ b. not b || has (take k numbers) x) (sym s) ∙ one)

      -- what an alias of a type of another interface names belongs there
      use-foreign : is_use r h.def ≡ true → (id : TypeId) → Contains (parts_of h.def.kind) (ty.Id id) → (def : TypeDef) → type_at r id.0 ≡ Some def
          → foreign_owner (interface_of_owner (as_interface i)) def.owner ≡ None → ⊥
      use-foreign u id c def is f =
          let at = alias-part _ h.def.kind id u c in
          let target = sym (ap (λ t. option_map_or (λ target. not (same_owner target.owner h.def.owner) && option_map_or
          (λ i. option_map_or (λ other. is_some other.name) (interface_at r i) false) (owner_interface target.owner) false) t false) is) ∙ at in
          not-false (same_owner def.owner h.def.owner) (first_true _ _ target)
          (subst (λ (a : TypeOwner). same_owner def.owner a ≡ true) (sym (same-owner h.def.owner (as_interface i) h.owned)) (belongs (owner_interface def.owner) refl (second_true _ _ target)))
        where
          belongs : (j : Option ℕ) → owner_interface def.owner ≡ j
              → option_map_or (λ j. option_map_or (λ other. is_some other.name) (interface_at r j) false) j false ≡ true → same_owner def.owner (as_interface i) ≡ true
          belongs None q g = absurd cc
          belongs (Some j) q g = own-interface (as_interface i) def.owner j q f

      -- What it uses stands before it in the list, or it names a type of another interface.
      pub uses-before : ((x : ℕ) → Contains (used_by_type r h.def) x → Contains (take k numbers) x)
          ⊎ ((id : TypeId) → Contains (parts_of h.def.kind) (ty.Id id) → (def : TypeDef) → type_at r id.0 ≡ Some def → foreign_owner (interface_of_owner (as_interface i)) def.owner ≡ None → ⊥)
      uses-before = or-cases (is_none h.def.name) (list_all (has_owner r h.def.owner) (used_by_type r h.def) || is_use r h.def) (owner-kept e.1.0 h.def h.there) (λ none. absurd (named-none none))
          (λ rest. or-cases (list_all (has_owner r h.def.owner) (used_by_type r h.def)) (is_use r h.def) rest (λ used. inl (all-before used)) (λ used. inr (use-foreign used)))
        where
          named-none : is_none h.def.name ≡ true → ⊥
          named-none none = cc (ap is_none (sym h.named_) ∙ none)

          all-before : list_all (has_owner r h.def.owner) (used_by_type r h.def) ≡ true → (x : ℕ) → Contains (used_by_type r h.def) x → Contains (take k numbers) x
          all-before used x c = used-before x c (owned-listed x (subst (λ (a : TypeOwner). has_owner r a x ≡ true) (same-owner h.def.owner (as_interface i) h.owned)
              (all-contained (has_owner r h.def.owner) (used_by_type r h.def) x used c)))
