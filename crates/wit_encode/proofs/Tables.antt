-- An encoder of an interface of valid packages over one table: what can be encoded in it, and that it stays one.
use Rattle.std.proofs.Common.{rules as std_rules, ◌⊎◌, ◌≡◌, refl, sym, subst, ap, ◌∙◌, ℕ, ◌+◌, ◌<◌, Bool, true, false, not, ◌&&◌, ◌||◌, is_some, List, [], ◌∷◌, ◌++◌, inl, inr, map, take, length, get_or, Some, arith}
use Rattle.std.proofs.lemmas.{List.take_more, List.map-append, List.Elements.Contains-append_cases, Bool.lt-ltb, Bool.and_from as both}
use Rattle.std.specs.List.{list_all}
use Rattle.wit_model.specs.{Lookup.type_at, Lookup.is_async, Valid.IsValid, Meant.signature_of, Parts.function_types, Parts.is_resource, Parts.is_resource_kind, Parts.is_resource_type, Parts.same_owner}
use Rattle.wit_model.specs.declared.model.{Resolve.Resolve, TypeDef.TypeDef, Param.Param, Function.Function, TypeDefKind.TypeDefKind, TypeOwner.TypeOwner, InterfaceId.InterfaceId, «Type».«Type» as ValueType}
use Rattle.encode_types.specs.{View.View, Kinds.parts_of, Kinds.has_definition, Kinds.kind_tree, Plan.InRange, Plan.AllInRange, Plan.foreign_owner, Fits.CanEncode, Formed.IsFormed, Formed.IsFormedSignature, Scope.Scope, Scope.IsImportable}
use Rattle.encode_types.specs.Table.{table_scope, interface_of_owner, is_met_by, has_named_owner, AllMetBy, IsTableOf, IsDefined, AllDefined}
use Rattle.wit_model.proofs.{OnePath.found-in, PartsLemmas.owner_same as same-owner}
use Rattle.wit_encode.proofs.Validity.{parts-in_range, valid-resource, valid-formed, signature-formed, table-agree, all-met, named-met, foreign-interface, importable}
use Rattle.wit_encode.proofs.{OwnerScope.names_encode, OwnerScope.table_is_scope, Naming.named-owner}
use Rattle.wit_encode.specs.OwnerScope.{NamesStand, IsOfInstance}
use Rattle.base_lemmas.proofs.{Bools.left_of as first_true, Bools.right_of as second_true, Elements.all_get as all-at, Elements.contains-later, Elements.first-contained}
use Rattle.base_lemmas.proofs.{Elements.last_of as one-contained, Options.there as some-of}
use Rattle.wit_model.specs.declared.model.«Type».TheVariants as ty
use Rattle.wit_model.specs.declared.model.TypeOwner.TheVariants as owner

module _ (r : Resolve) (own : InterfaceId) (valid : IsValid r) where
  -- each name that is met is of the owner, or of another interface, which has a name
  named-stands : (ts : List ValueType) → AllMetBy r (owner.Interface own) ts → NamesStand r (owner.Interface own) (table_scope r (owner.Interface own)) ts
  named-stands ts met n def m is named = go (same_owner def.owner (owner.Interface own)) refl (named-met r valid (owner.Interface own) def (met n def m is) named)
    where
      go : (b : Bool) → same_owner def.owner (owner.Interface own) ≡ b → (b || (is_some (foreign_owner (interface_of_owner (owner.Interface own)) def.owner) && has_named_owner r def)) ≡ true
          → (def.owner ≡ owner.Interface own) ⊎ IsOfInstance r (table_scope r (owner.Interface own)) def
      go true e h = inl (same-owner def.owner (owner.Interface own) e)
      go false e h =
          let f = some-of (foreign_owner (interface_of_owner (owner.Interface own)) def.owner) (first_true _ (has_named_owner r def) h) in
          inr (record {
            interface = f.0;
            owned = foreign-interface (interface_of_owner (owner.Interface own)) def.owner f.0 f.1;
            named_ = named-owner r valid def (second_true (is_some (foreign_owner (interface_of_owner (owner.Interface own)) def.owner)) _ h);
            stands = (importable r valid (owner.Interface own) n def is f.0 f.1).stands;
          })

  encodes : (ts : List ValueType) → AllInRange r ts → AllMetBy r (owner.Interface own) ts → CanEncode r (table_scope r (owner.Interface own)) ts
  encodes ts inside met = names_encode r (owner.Interface own) (table_scope r (owner.Interface own)) ts valid (table_is_scope r (owner.Interface own) valid) inside (named-stands ts met)

-- where all types may be met from those of an owner, all that a list meets may be
pub all-may-be-met : (r : Resolve) (o : TypeOwner) → list_all (is_met_by r o) r.types.items ≡ true → (ts : List ValueType) → AllMetBy r o ts
all-may-be-met r o met ts n def m is = all-at (is_met_by r o) r.types.items n def met is

pub table-encodes : (r : Resolve) (own : InterfaceId) (v : View) → IsTableOf r own v → (ts : List ValueType) → AllInRange r ts → AllMetBy r (owner.Interface own) ts → CanEncode r v.scope ts
table-encodes r own v t ts inside met = subst (λ (s : Scope). CanEncode r s ts) (sym t.scope_) (encodes r own t.valid ts inside met)

-- a type of another interface can be imported into a table
pub table-imports : (r : Resolve) (own : InterfaceId) (v : View) → IsTableOf r own v → (n : ℕ) (def : TypeDef) (i : InterfaceId) → type_at r n ≡ Some def
    → foreign_owner v.scope.own_interface def.owner ≡ Some i → IsImportable v.scope i.0 n
table-imports r own v t n def i is f = subst (λ (s : Scope). IsImportable s i.0 n) (sym t.scope_)
    (importable r t.valid (owner.Interface own) n def is i (ap (λ (s : Scope). foreign_owner s.own_interface def.owner) (sym t.scope_) ∙ f))

-- the parts of a type are in range
pub table-parts : (r : Resolve) → IsValid r → (n : ℕ) (def : TypeDef) → n < length r.types.items → type_at r n ≡ Some def → AllInRange r (parts_of def.kind)
table-parts r valid n def inside is = parts-in_range r valid n def is

-- what is in range of two lists is in range of both, one after the other
pub both-in_range : (r : Resolve) (xs ys : List ValueType) → AllInRange r xs → AllInRange r ys → AllInRange r (xs ++ ys)
both-in_range r xs ys p q t c = elim (Contains-append_cases xs ys t c) [ inl h ↦ p t h | inr h ↦ q t h ]

-- one more of a list is in range
pub more-in_range : (r : Resolve) (ps : List Param) (i : ℕ) (p : Param) → i < length ps → p ≡ get_or ps i p → AllInRange r (map (λ q. q.ty) (take i ps)) → InRange r p.ty
    → AllInRange r (map (λ q. q.ty) (take (i + 1) ps))
more-in_range r ps i p lt is all here = subst (λ (xs : List Param). AllInRange r (map (λ q. q.ty) xs)) (ap (λ x. take i ps ++ x ∷ []) is ∙ sym (take_more ps i p lt))
    (subst (AllInRange r) (sym (map-append (λ q. q.ty) (take i ps) (p ∷ []))) (both-in_range r (map (λ q. q.ty) (take i ps)) (p.ty ∷ []) all (λ t c id e. here id (one-contained p.ty t c ∙ e))))

pub none-in_range : (r : Resolve) → AllInRange r []
none-in_range r t c = absurd (omega (arith, c.1))

-- ---- what is well formed

-- what a type of a table is defined as is well formed
pub table-formed : (r : Resolve) (own : InterfaceId) (v : View) → IsTableOf r own v → (n : ℕ) (def : TypeDef) → n < length r.types.items → type_at r n ≡ Some def
    → AllMetBy r (owner.Interface own) (parts_of def.kind) → has_definition def.kind ≡ true → IsFormed v.scope (kind_tree r def.kind)
table-formed r own v t n def inside is met d = subst (λ (s : Scope). IsFormed s (kind_tree r def.kind)) (sym t.scope_) (record {
  sound = refl;
  formed = valid-formed r (table_scope r (owner.Interface own)).resources t.valid n def is
      (table-agree r t.valid (owner.Interface own) (parts_of def.kind) (parts-in_range r t.valid n def is) (all-met r t.valid (owner.Interface own) (parts_of def.kind) met)) d;
})

defined-kind : (f : ℕ → Bool) (k : TypeDefKind) → has_definition k ≡ true → is_resource_kind f k ≡ false
defined-kind f x e = search std_rules

-- a type with a definition of its own is no resource
defined-value : (r : Resolve) → IsValid r → (t : ValueType) → InRange r t → IsDefined r t → is_resource_type r t ≡ false
defined-value r v (ty.Id id) inside d =
    let found = found-in r.types.items id.0 (lt-ltb id.0 (length r.types.items) (inside id refl)) in
    valid-resource r v id.0 found.0 found.1 ∙ defined-kind (is_resource r) found.0.kind (d id refl found.0 found.1)
defined-value r v _ inside d = refl

defined-values : (r : Resolve) → IsValid r → (ts : List ValueType) → AllInRange r ts → AllDefined r ts → list_all (λ t. not (is_resource_type r t)) ts ≡ true
defined-values r v [] inside d = refl
defined-values r v (t ∷ ts) inside d = both _ _ (ap not (defined-value r v t (inside t (first-contained t ts)) (d t (first-contained t ts))))
    (defined-values r v ts (λ u c. inside u (contains-later t ts u c)) (λ u c. d u (contains-later t ts u c)))

-- a function that takes and gives types with definitions of their own
pub table-signature : (r : Resolve) (own : InterfaceId) (v : View) → IsTableOf r own v → (f : Function) → AllInRange r (function_types f) → AllMetBy r (owner.Interface own) (function_types f)
    → AllDefined r (function_types f) → IsFormedSignature v.scope (signature_of r f)
table-signature r own v t f inside met d = subst (λ (s : Scope). IsFormedSignature s (signature_of r f)) (sym t.scope_)
    (signature-formed r (table_scope r (owner.Interface own)) f.params.items f.result refl (is_async f.kind) (defined-values r t.valid (function_types f) inside d)
    (table-agree r t.valid (owner.Interface own) (function_types f) inside (all-met r t.valid (owner.Interface own) (function_types f) met)))

pub formed-as : (r : Resolve) (scope : Scope) (k k' : TypeDefKind) → k ≡ k' → has_definition k' ≡ true → (has_definition k ≡ true → IsFormed scope (kind_tree r k)) → IsFormed scope (kind_tree r k')
formed-as r scope k k' e d h = subst (λ (x : TypeDefKind). IsFormed scope (kind_tree r x)) e (h (ap has_definition e ∙ d))

-- ---- what holds of each of a list

pub both-defined : (r : Resolve) (xs ys : List ValueType) → AllDefined r xs → AllDefined r ys → AllDefined r (xs ++ ys)
both-defined r xs ys p q t c = elim (Contains-append_cases xs ys t c) [ inl h ↦ p t h | inr h ↦ q t h ]

pub more-defined : (r : Resolve) (ps : List Param) (i : ℕ) (p : Param) → i < length ps → p ≡ get_or ps i p → AllDefined r (map (λ q. q.ty) (take i ps)) → IsDefined r p.ty
    → AllDefined r (map (λ q. q.ty) (take (i + 1) ps))
more-defined r ps i p lt is all here = subst (λ (xs : List Param). AllDefined r (map (λ q. q.ty) xs)) (ap (λ x. take i ps ++ x ∷ []) is ∙ sym (take_more ps i p lt))
    (subst (AllDefined r) (sym (map-append (λ q. q.ty) (take i ps) (p ∷ []))) (both-defined r (map (λ q. q.ty) (take i ps)) (p.ty ∷ []) all (λ t c id e. here id (one-contained p.ty t c ∙ e))))

pub none-defined : (r : Resolve) → AllDefined r []
none-defined r t c = absurd (omega (arith, c.1))
