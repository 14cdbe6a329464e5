-- Named types that are met through unnamed ones: where all of them are known, no named type of the place is met by way of unknown numbers.
use Rattle.std.proofs.Common.{rules as std_rules, ◌≡◌, refl, sym, subst, ap, ◌∙◌, ℕ, cond, List, [], ◌∷◌, Option, Some, None, String, option_map, option_and_then}
use Rattle.std.specs.declared.alloc.Global.{Global}
use Rattle.std.specs.{Prelude.is_none, List.Contains, Option.option_map_or}
use Rattle.wit_model.specs.{Text.text_of, Lookup.type_at, Parts.kind_numbers, Parts.met_by, Parts.met_of, Parts.used_by_type, Checks.references, Valid.Keeps}
use Rattle.wit_model.specs.declared.model.{Resolve.Resolve, TypeDef.TypeDef, TypeId.TypeId, InterfaceId.InterfaceId, «Type».«Type» as ValueType}
use Rattle.wit_model.proofs.{Owners.met_step, Elements.contains-flat}
use Rattle.encode_types.specs.declared.maps.TypeEncodingMaps.{TypeEncodingMaps}
use Rattle.encode_types.specs.{Kinds.parts_of, Maps.IsKnown, Plan.foreign_owner, Plan.Meets, Plan.at_once, Plan.further, Counts.own_name, Counts.name_of_own}
use Rattle.encode_types.specs.Scope.{Scope}
use Rattle.encode_types.proofs.Planning.{part-number}
use Rattle.base_lemmas.proofs.Elements.{contains-one}
use Rattle.wit_model.specs.declared.model.«Type».TheVariants as ty

module _ (r : Resolve) (below : Keeps references r) where
  -- a named type meets itself
  pub named-meets : (n : ℕ) (def : TypeDef) (name : String Global) → type_at r n ≡ Some def → def.name ≡ Some name → Contains (met_by (met_of r) n) n
  named-meets n def name at named = search (std_rules, met_step r below n def, contains-one n)

  -- what a part meets, its type uses
  pub part-uses : (def : TypeDef) (id : TypeId) (x : ℕ) → Contains (parts_of def.kind) (ty.Id id) → Contains (met_by (met_of r) id.0) x → Contains (used_by_type r def) x
  part-uses def id x c d = contains-flat (met_by (met_of r)) (kind_numbers def.kind) id.0 x (part-number def.kind id c) d

  pub unnamed-meets : (n : ℕ) (def : TypeDef) → type_at r n ≡ Some def → def.name ≡ None → met_by (met_of r) n ≡ used_by_type r def
  unnamed-meets n def at none = met_step r below n def at ∙ ap (λ o. option_map_or (λ x. n ∷ []) o (used_by_type r def)) none

  module _ (scope : Scope) (m : TypeEncodingMaps) where
    -- the named types that are met from a number are known, unless it is one of another interface
    abbrev pub MeetsKnown : ℕ → Type 0
    MeetsKnown n = (def : TypeDef) → type_at r n ≡ Some def → foreign_owner scope.own_interface def.owner ≡ None → (x : ℕ) → Contains (met_by (met_of r) n) x → IsKnown m x

    abbrev pub AllMeetKnown : ValueType → Type 0
    AllMeetKnown t = (id : TypeId) → t ≡ ty.Id id → MeetsKnown id.0

    -- an unknown number is no named type of the place
    unknown-unnamed : (n : ℕ) → MeetsKnown n → (IsKnown m n → ⊥) → own_name r scope n ≡ None
    unknown-unnamed n met lacks = go (type_at r n) refl
      where
        named : (def : TypeDef) → type_at r n ≡ Some def → foreign_owner scope.own_interface def.owner ≡ None → (o : Option (String Global)) → def.name ≡ o → option_map text_of o ≡ None
        named def at f None e = refl
        named def at f (Some name) e = absurd (lacks (met def at f n (named-meets n def name at e)))

        own : (def : TypeDef) → type_at r n ≡ Some def → (o : Option InterfaceId) → foreign_owner scope.own_interface def.owner ≡ o → cond (is_none o) (option_map text_of def.name) None ≡ None
        own def at None f = named def at f def.name refl
        own def at (Some i) f = refl

        go : (o : Option TypeDef) → type_at r n ≡ o → option_and_then (name_of_own scope) o ≡ None
        go None e = refl
        go (Some def) e = own def e (foreign_owner scope.own_interface def.owner) refl

    -- nor is one that is met by way of unknown numbers
    pub meets-unnamed : (t : ValueType) (n : ℕ) → AllMeetKnown t → Meets r scope.own_interface m t n → own_name r scope n ≡ None
    meets-unnamed _ _ met (at_once id lacks) = unknown-unnamed id.0 (met id refl) lacks
    meets-unnamed _ _ met (further id def t n lacks at f c more) = meets-unnamed t n (part def.name refl) more
      where
        part : (o : Option (String Global)) → def.name ≡ o → AllMeetKnown t
        part None e = λ id' q def' at' f' x d. met id refl def at f x (subst (λ (ns : List ℕ). Contains ns x) (sym (unnamed-meets id.0 def at e))
            (part-uses def id' x (subst (λ (u : ValueType). Contains (parts_of def.kind) u) q c) d))
        part (Some name) e = absurd (lacks (met id refl def at f id.0 (named-meets id.0 def name at e)))
