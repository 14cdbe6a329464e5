-- What a valid `Resolve` gives for encoding.
use Rattle.std.proofs.Common.{rules as std_rules, ◌≡◌, refl, sym, subst, ap, ◌∙◌, ℕ, ◌+◌, ◌<◌, ◌⊎◌, inl, inr, Bool, true, false, cond, not, ◌&&◌, ◌||◌, T, ltb→lt, List, [], ◌∷◌, length, unwrap_or, Option, Some, None, String, arith, ◌++◌, map, option_map, option_to_list}
use Rattle.std.proofs.lemmas.{Bool.or_left as or-first, Bool.or_right as or-second, Bool.lt-ltb, List.Folds.list_all-append, Option.slice_get_within}
use Rattle.std.proofs.lemmas.List.Elements.{Contains-append_left, Contains-append_right}
use Rattle.std.specs.declared.alloc.Global.{Global}
use Rattle.std.specs.{Prelude.is_some, Prelude.is_none, List.Contains, List.list_all, Option.option_map_or}
use Rattle.wit_model.specs.{Text.text_of, Text.Text, Rules.is_named_kind, Rules.owner_in_range, Rules.passes, Tree.Tree, Lookup.type_at, Lookup.place_of, Lookup.is_async, Meant.type_meaning}
use Rattle.wit_model.specs.Parts.{same_owner, member_types, handled, is_resource, is_resource_kind, is_resource_type}
use Rattle.wit_model.specs.{Valid.IsValid, Valid.named_kinds, Valid.order_of_types, Valid.shapes, Valid.handles, Meaning.Signature}
use Rattle.wit_model.specs.Types.{type_tree, number_tree, no_tree, trees_of, tree_of_definition, declaration_of}
use Rattle.wit_model.specs.declared.model.{Resolve.Resolve, Param.Param, TypeDef.TypeDef, TypeOwner.TypeOwner, TypeId.TypeId, InterfaceId.InterfaceId, «Type».«Type» as ValueType, TypeDefKind.TypeDefKind}
use Rattle.wit_model.proofs.{Entries.each_from_at, Entries.lists_pass, Resources.resource_step, PartsLemmas.owner_same as same-owner, ValidLemmas.type_passes, Elements.contains-flat, TreeTable.kept_numbers, TreeTable.kept_trees_at, OnePath.found-in}
use Rattle.encode_types.specs.{Plan.IsLayered, Plan.InRange, Plan.AllInRange, Plan.Reaches, Plan.itself, Plan.foreign_owner, Scope.IsImportable, Scope.Scope}
use Rattle.encode_types.specs.Table.{table_scope, interface_of_owner, declaration_in, named_declaration, is_met_by, is_met_owner, has_named_owner, AllMetBy}
use Rattle.encode_types.specs.{Kinds.parts_of, Kinds.has_definition, Kinds.kind_tree, Formed.is_formed, Formed.are_values, Formed.IsFormedSignature}
use Rattle.encode_types.specs.Resources.{Names, is_resource_tree, is_resource_declaration, is_named_interface, resource_names}
use Rattle.wit_encode.specs.OwnerScope.{NamesAgree}
use Rattle.encode_types.proofs.Planning.{part-smaller}
use Rattle.wit_encode.proofs.Naming.{HaveHomes, named-owner, valid-owner_in_range, one-home, names-agree}
use Rattle.wit_encode.proofs.Forming.{Agree, kind-formed, kind-alike, values-of, optional-values}
use Rattle.wit_encode.proofs.ImportsStand.{below-there as below-contains}
use Rattle.encode_shown.proofs.Basics.{valid-references}
use Rattle.base_lemmas.proofs.{Bools.left_of as first_true, Bools.not_or as unnamed-of, Bools.right_of as second_true, Options.nameless}
use Rattle.base_lemmas.proofs.Elements.{contains-one, get-contains}
use Rattle.wit_model.specs.declared.model.TypeOwner.TheVariants as owner
use Rattle.wit_model.specs.declared.model.«Type».TheVariants as ty

abbrev signature_like : Resolve → Bool → List Param → Option ValueType → Signature
signature_like r a ps o = record { is_async = a; params = map (λ p. (text_of p.name, type_tree r p.ty)) ps; result = option_map (type_tree r) o }

pub signature-formed : (r : Resolve) (scope : Scope) (ps : List Param) (o : Option ValueType) → scope.is_sound ≡ true → (a : Bool)
    → list_all (λ t. not (is_resource_type r t)) (map (λ p. p.ty) ps ++ option_to_list o) ≡ true → Agree r scope.resources (map (λ p. p.ty) ps ++ option_to_list o)
    → IsFormedSignature scope (signature_like r a ps o)
signature-formed r scope ps o sound a h agree =
    let split = sym (list_all-append (λ t. not (is_resource_type r t)) (map (λ p. p.ty) ps) (option_to_list o)) ∙ h in
    record {
      sound = sound;
      params = ap (are_values scope.resources) (param-trees r ps) ∙ values-of r scope.resources (map (λ p. p.ty) ps) (first_true _ _ split)
          (λ t c. agree t (Contains-append_left (map (λ p. p.ty) ps) (option_to_list o) t c));
      result_ = optional-values r scope.resources o (second_true (list_all (λ t. not (is_resource_type r t)) (map (λ p. p.ty) ps)) _ split)
          (λ t c. agree t (Contains-append_right (map (λ p. p.ty) ps) (option_to_list o) t c));
    }
  where
    param-trees : (r : Resolve) (ps : List Param) → map (λ p. p.1) (map {B = Text × Tree} (λ p. (text_of p.name, type_tree r p.ty)) ps) ≡ map (type_tree r) (map (λ p. p.ty) ps)
    param-trees r [] = refl
    param-trees r (p ∷ ps) = ap (λ ts. type_tree r p.ty ∷ ts) (param-trees r ps)

-- types refer to smaller numbers alone
pub valid-layered : (r : Resolve) → IsValid r → IsLayered r
valid-layered r v = record { smaller = kept_numbers r v.rules }

-- an unnamed type is of no kind that has to be named
pub valid-unnamed : (r : Resolve) → IsValid r → (n : ℕ) (def : TypeDef) → type_at r n ≡ Some def → def.name ≡ None → is_named_kind def.kind ≡ false
unfolding named_kinds
valid-unnamed r v n def is none = search (std_rules, each_from_at, lists_pass, unnamed-of, first_true)

-- ---- what is well formed

-- a type is a resource where its kind is one, or an alias of one
pub valid-resource : (r : Resolve) → IsValid r → (n : ℕ) (def : TypeDef) → type_at r n ≡ Some def → is_resource r n ≡ is_resource_kind (is_resource r) def.kind
valid-resource r v n def at = resource_step r (valid-references r v) n def at

-- what a type is defined as is well formed
pub valid-formed : (r : Resolve) (resources : Names) → IsValid r → (n : ℕ) (def : TypeDef) → type_at r n ≡ Some def → Agree r resources (parts_of def.kind) → has_definition def.kind ≡ true
    → is_formed resources (kind_tree r def.kind) ≡ true
unfolding shapes handles
valid-formed r resources v n def at agree d =
    let parts = type_passes handles r v.rules.handles n def at in
    kind-formed r resources def.kind d (type_passes shapes r v.rules.shapes n def at)
    (first_true (list_all (λ t. not (is_resource_type r t)) (member_types def.kind)) (passes (is_resource r) (handled def.kind)) parts)
    (second_true (list_all (λ t. not (is_resource_type r t)) (member_types def.kind)) (passes (is_resource r) (handled def.kind)) parts)
    agree

-- a name stands for a resource where it declares one
pub valid-alike : (r : Resolve) (resources : Names) → IsValid r → (n : ℕ) (def : TypeDef) → type_at r n ≡ Some def → Agree r resources (parts_of def.kind)
    → is_resource_declaration resources (declaration_of r def) ≡ is_resource r n
valid-alike r resources v n def at agree = kind-alike r resources def.kind agree ∙ sym (valid-resource r v n def at)

-- ---- the table of an owner

-- an unnamed type has no owner
pub valid-ownerless : (r : Resolve) → IsValid r → (n : ℕ) (def : TypeDef) → type_at r n ≡ Some def → def.name ≡ None → same_owner def.owner owner.None ≡ true
unfolding order_of_types
valid-ownerless r v n def is none = search (std_rules, second_true, each_from_at, lists_pass)

pub foreign-interface : (own : Option InterfaceId) (a : TypeOwner) (i : InterfaceId) → foreign_owner own a ≡ Some i → a ≡ owner.Interface i
foreign-interface own x i e = search std_rules

pub same-back : (a b : TypeOwner) → same_owner a b ≡ true → same_owner b a ≡ true
same-back a b e = let q = same-owner a b e in subst (λ (x : TypeOwner). same_owner b x ≡ true) (sym q) (subst (λ (x : TypeOwner). same_owner x b ≡ true) q e)

pub has-name : {A : Type 0} (o : Option A) (x : A) → o ≡ Some x → is_some o ≡ true
has-name o x e = ap is_some e

-- an unnamed type is no resource
unnamed-kind : (r : Resolve) (resources : Names) (f : ℕ → Bool) (k : TypeDefKind) → is_named_kind k ≡ false → is_resource_tree resources (kind_tree r k) ≡ is_resource_kind f k
unnamed-kind r resources f x e = search std_rules

or-right : (a b : Bool) → a ≡ false → (a || b) ≡ true → b ≡ true
or-right x b e h = search std_rules

-- ---- the names of resources

-- the named types of a list belong to owners that are met
abbrev pub OwnersMet : Resolve → (TypeOwner → Bool) → List ValueType → Type 0
OwnersMet r met ts = (t : ValueType) → Contains ts t → (id : TypeId) → t ≡ ty.Id id → (def : TypeDef) → type_at r id.0 ≡ Some def → is_some def.name ≡ true → met def.owner ≡ true

-- the parts of a type are in range
pub parts-in_range : (r : Resolve) → IsValid r → (n : ℕ) (def : TypeDef) → type_at r n ≡ Some def → AllInRange r (parts_of def.kind)
parts-in_range r v n def is t c id e =
    let below : id.0 < n = part-smaller r (valid-layered r v) n def id is (subst (λ (x : ValueType). Contains (parts_of def.kind) x) e c) in omega (arith, slice_get_within r.types.items n def is)

module _ (r : Resolve) (v : IsValid r) (names : Names) (met : TypeOwner → Bool) (agree : NamesAgree r names met) where
  number-agrees : (n : ℕ) (def : TypeDef) → type_at r n ≡ Some def → (is_some def.name ≡ true → met def.owner ≡ true) → is_resource_tree names (number_tree r n) ≡ is_resource r n
  number-agrees n def at is = ap (λ x. is_resource_tree names (unwrap_or x no_tree)) (kept_trees_at r v.rules n def at) ∙ go def.name refl
    where
      go : (x : Option (String Global)) → def.name ≡ x → is_resource_tree names (tree_of_definition r (trees_of r) def) ≡ is_resource r n
      go None q = ap (λ x. is_resource_tree names (option_map_or (λ name. Tree.named (place_of r def.owner) (text_of name)) x (kind_tree r def.kind))) q
          ∙ unnamed-kind r names (is_resource r) def.kind (valid-unnamed r v n def at q) ∙ sym (valid-resource r v n def at)
      go (Some name) q = ap (λ x. is_resource_tree names (option_map_or (λ name. Tree.named (place_of r def.owner) (text_of name)) x (kind_tree r def.kind))) q
          ∙ agree n def name at q (is (has-name def.name name q))

  -- names stand for resources exactly where types that are met are resources
  pub named-agree : (ts : List ValueType) → AllInRange r ts → OwnersMet r met ts → Agree r names ts
  named-agree ts inside all t c = go t (inside t c) (all t c)
    where
      go : (t : ValueType) → InRange r t → ((id : TypeId) → t ≡ ty.Id id → (def : TypeDef) → type_at r id.0 ≡ Some def → is_some def.name ≡ true → met def.owner ≡ true)
          → is_resource_tree names (type_tree r t) ≡ is_resource_type r t
      go (ty.Id id) inside is = let found = found-in r.types.items id.0 (lt-ltb id.0 (length r.types.items) (inside id refl)) in number-agrees id.0 found.0 found.1 (is id refl found.0 found.1)
      go _ inside is = refl

  pub named-parts : (n : ℕ) (def : TypeDef) → type_at r n ≡ Some def → OwnersMet r met (parts_of def.kind) → Agree r names (parts_of def.kind)
  named-parts n def is all = named-agree (parts_of def.kind) (parts-in_range r v n def is) all

  -- the name of a type that is met is one of a resource where it declares one
  pub named-alike : (n : ℕ) (def : TypeDef) → type_at r n ≡ Some def → (name : String Global) → def.name ≡ Some name → met def.owner ≡ true → OwnersMet r met (parts_of def.kind)
      → names (place_of r def.owner) (text_of name) ≡ is_resource_declaration names (declaration_of r def)
  named-alike n def is name e own all = agree n def name is e own ∙ sym (valid-alike r names v n def is (named-parts n def is all))

-- the same of the names of the packages' resources
module _ (r : Resolve) (v : IsValid r) (met : TypeOwner → Bool) (homes : HaveHomes r met) where
  pub met-agree : (ts : List ValueType) → AllInRange r ts → OwnersMet r met ts → Agree r (resource_names r met) ts
  met-agree = named-agree r v (resource_names r met) met (names-agree r v met homes)

module _ (r : Resolve) (v : IsValid r) (o : TypeOwner) where
  -- a type of another interface can be imported
  pub importable : (n : ℕ) (def : TypeDef) → type_at r n ≡ Some def → (i : InterfaceId) → foreign_owner (interface_of_owner o) def.owner ≡ Some i → IsImportable (table_scope r o) i.0 n
  importable n def is i f = go def.name refl
    where
      owned : def.owner ≡ owner.Interface i
      owned = foreign-interface (interface_of_owner o) def.owner i f

      go : (name : Option (String Global)) → def.name ≡ name → IsImportable (table_scope r o) i.0 n
      go None e = let wrong = ap (λ a. same_owner a owner.None) (sym owned) ∙ valid-ownerless r v n def is e in absurd cc
      go (Some name) e = record {
        def = def;
        name = name;
        there = is;
        named_ = e;
        owned = owned;
        stands = below-contains (length r.interfaces.items) i.0 (ltb→lt i.0 (length r.interfaces.items) (subst T (sym (ap (owner_in_range r) (sym owned) ∙ valid-owner_in_range r v n def is)) tt));
      }

  pub declared-there : (n : ℕ) (def : TypeDef) → type_at r n ≡ Some def → (name : String Global) → def.name ≡ Some name → same_owner def.owner o ≡ true
      → Contains (table_scope r o).declarations (text_of name, type_meaning r def)
  declared-there n def is name e s = contains-flat (declaration_in r o) r.types.items def (text_of name, type_meaning r def) (get-contains r.types.items n def is)
      (subst (λ (b : Bool). Contains (cond b (named_declaration r def.name def) []) (text_of name, type_meaning r def)) (sym (same-back def.owner o s))
      (subst (λ (x : Option (String Global)). Contains (named_declaration r x def) (text_of name, type_meaning r def)) (sym e) (contains-one (text_of name, type_meaning r def))))

  -- the named types of a list belong to owners that are met in the table
  abbrev pub AreMet : List ValueType → Type 0
  AreMet = OwnersMet r (is_met_owner r o)

  own-met : (def : TypeDef) → same_owner def.owner o ≡ true → is_met_owner r o def.owner ≡ true
  own-met def s = or-first (same_owner o def.owner) (is_named_interface r def.owner) (same-back def.owner o s)

  pub owner-met : (def : TypeDef) → (same_owner def.owner o ≡ true) ⊎ (has_named_owner r def ≡ true) → is_met_owner r o def.owner ≡ true
  owner-met def x = search (std_rules, own-met, or-second, named-owner)

  -- the names in the table stand for resources exactly where types that are met are resources
  pub table-agree : (ts : List ValueType) → AllInRange r ts → AreMet ts → Agree r (resource_names r (is_met_owner r o)) ts
  table-agree = met-agree r v (is_met_owner r o) (one-home r v o)

  -- a named type that may be met is of the owner, or of another interface, which has a name
  pub named-met : (def : TypeDef) → is_met_by r o def ≡ true → is_some def.name ≡ true
      → (same_owner def.owner o || (is_some (foreign_owner (interface_of_owner o) def.owner) && has_named_owner r def)) ≡ true
  named-met def met named = or-right (is_none def.name) _ (nameless def.name named) met

  -- the named types of a list are met, where all that it meets may be
  pub all-met : (ts : List ValueType) → AllMetBy r o ts → AreMet ts
  all-met ts met t c id e def is named = owner-met def (either-owner (same_owner def.owner o) (is_some (foreign_owner (interface_of_owner o) def.owner)) (has_named_owner r def)
      (named-met def (met id.0 def (t, c, subst (λ (x : ValueType). Reaches r (interface_of_owner o) x id.0) (sym e) (itself id)) is) named))
    where
      either-owner : (a b c : Bool) → (a || (b && c)) ≡ true → (a ≡ true) ⊎ (c ≡ true)
      either-owner true b c h = inl refl
      either-owner false true c h = inr h
      either-owner false false c h = absurd cc
