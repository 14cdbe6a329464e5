-- What is met from a type of an owner is of that owner, but for what its aliases of types of other interfaces name.
use Rattle.std.proofs.Common.{rules as std_rules, ◌≡◌, refl, sym, subst, ◌∙◌, ℕ, Bool, true, false, ◌||◌, Option, Some, None, is_some, String, inl, inr}
use Rattle.std.proofs.lemmas.Bool.{cases_Bool}
use Rattle.std.specs.declared.alloc.Global.{Global}
use Rattle.std.specs.{Prelude.is_none, List.Contains, List.list_all, Option.option_map_or}
use Rattle.wit_model.specs.{Lookup.type_at, Uses.alias_target, Uses.owner_interface, Text.Text, Text.text_of, Rules.is_use, Rules.is_listed, Rules.type_stays, Valid.IsValid, Valid.order_of_types, Valid.owners}
use Rattle.wit_model.specs.Parts.{kind_numbers, met_by, met_of, used_by_type, same_owner, has_owner}
use Rattle.wit_model.specs.declared.model.{Resolve.Resolve, TypeDef.TypeDef, TypeDefKind.TypeDefKind, TypeOwner.TypeOwner}
use Rattle.wit_model.specs.declared.model.TypeId.{TypeId}
use Rattle.wit_model.proofs.{Entries.each_from_at, Entries.lists_pass, Functions.all_flat, Owners.named_met, Owners.unnamed_met, Owners.owned_stays}
use Rattle.wit_model.proofs.PartsLemmas.{owner_same as same-owner}
use Rattle.encode_types.specs.{Kinds.parts_of, Plan.foreign_owner, Table.interface_of_owner}
use Rattle.encode_types.proofs.Planning.{part-number}
use Rattle.encode_shown.proofs.Basics.{valid-references, or-cases}
use Rattle.base_lemmas.proofs.{Bools.right_of as second_true, Elements.all-contained, Options.nameless}
use Rattle.wit_model.specs.declared.model.TypeOwner.TheVariants as owner
use Rattle.wit_model.specs.declared.model.«Type».TheVariants as ty

-- ---- owners

-- a type that isn't foreign and belongs to an interface belongs to this one
pub own-interface : (o a : TypeOwner) (i : ℕ) → owner_interface a ≡ Some i → foreign_owner (interface_of_owner o) a ≡ None → same_owner a o ≡ true
own-interface o x i e f = search std_rules

-- ---- uses

-- what holds of the target of an alias holds of its part
pub alias-part : (test : ℕ → Bool) (k : TypeDefKind) (id : TypeId) → option_map_or test (alias_target k) false ≡ true → Contains (parts_of k) (ty.Id id) → test id.0 ≡ true
alias-part test y id h c = search std_rules

some-of : {A B : Type 0} (f : A → B → Bool) (o : Option A) (b : B) → option_map_or (λ a. f a b) o false ≡ true → is_some o ≡ true
some-of f x b h = search std_rules

-- ---- what is met

-- a type that stands in its owner's list has an owner
real-owner : (r : Resolve) (n : ℕ) (name : Text) (o : TypeOwner) → is_listed r n name o ≡ true → same_owner o owner.None ≡ false
real-owner r n name x h = search std_rules

pub named-listed : (r : Resolve) → IsValid r → (n : ℕ) (def : TypeDef) → type_at r n ≡ Some def
    → option_map_or (λ name. is_listed r n (text_of name) def.owner) def.name (same_owner def.owner owner.None) ≡ true
unfolding order_of_types
named-listed r v n def is = search (std_rules, second_true, each_from_at, lists_pass)

type-stays : (r : Resolve) → IsValid r → (n : ℕ) (def : TypeDef) → type_at r n ≡ Some def → type_stays r def ≡ true
unfolding owners
type-stays r v n def is = each_from_at (owners.type_ r) 0 r.types.items n def (lists_pass owners r v.rules.owners).3 is

-- the rule on owners, of one type: a named type has an owner
pub owner-kept : (r : Resolve) → IsValid r → (n : ℕ) (def : TypeDef) → type_at r n ≡ Some def → (is_none def.name || (list_all (has_owner r def.owner) (used_by_type r def) || is_use r def)) ≡ true
owner-kept r v n def is = go def.name (named-listed r v n def is)
  where
    go : (x : Option (String Global)) → option_map_or (λ name. is_listed r n (text_of name) def.owner) x (same_owner def.owner owner.None) ≡ true
        → (is_none x || (list_all (has_owner r def.owner) (used_by_type r def) || is_use r def)) ≡ true
    go None h = refl
    go (Some name) h = owned_stays r def (type-stays r v n def is) (real-owner r n (text_of name) def.owner h)

module _ (r : Resolve) (v : IsValid r) (o : TypeOwner) where
  -- every named type that is met at a number has the owner
  abbrev pub stays : ℕ → Bool
  stays n = list_all (has_owner r o) (met_by (met_of r) n)

  module _ (n : ℕ) (def : TypeDef) (is : type_at r n ≡ Some def) (id : TypeId) (c : Contains (parts_of def.kind) (ty.Id id)) where
    from-all : list_all stays (kind_numbers def.kind) ≡ true → stays id.0 ≡ true
    from-all h = all-contained stays (kind_numbers def.kind) id.0 h (part-number def.kind id c)

    used-stay : same_owner def.owner o ≡ true → list_all (has_owner r def.owner) (used_by_type r def) ≡ true → stays id.0 ≡ true
    used-stay s h = from-all (sym (all_flat (has_owner r o) (met_by (met_of r)) (kind_numbers def.kind))
        ∙ subst (λ (a : TypeOwner). list_all (has_owner r a) (used_by_type r def) ≡ true) (same-owner def.owner o s) h)

    -- a part of a type that stays does so too, unless it is that of a named alias which uses another interface
    pub part-met : {P : Type 0} → stays n ≡ true → (stays id.0 ≡ true → P) → (is_some def.name ≡ true → same_owner def.owner o ≡ true → is_use r def ≡ true → P) → P
    part-met {P} h stay uses = elim (cases_Bool (is_some def.name)) [
      | inl e ↦ (let s : same_owner def.owner o ≡ true = named_met r (valid-references r v) n def is o e ∙ h in
          or-cases (is_none def.name) (list_all (has_owner r def.owner) (used_by_type r def) || is_use r def) (owner-kept r v n def is) (λ none. let named = nameless def.name e in absurd cc)
          (λ rest. or-cases (list_all (has_owner r def.owner) (used_by_type r def)) (is_use r def) rest (λ used. stay (used-stay s used)) (uses e s)))
      | inr e ↦ stay (from-all (unnamed_met r (valid-references r v) n def is o e ∙ h))
    ]
