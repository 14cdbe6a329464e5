-- What the first byte of a type chooses is what the tests of the byte read.
use Rattle.std.proofs.Common.{rules as std_rules, ◌≡◌, refl, ap, ◌∙◌, ℕ, Bool, true, false, List, [], ◌∷◌, Option, Some, option_map, cond, eqb}
use Rattle.comp_bytes.specs.declared.forms.PrimitiveValType.{PrimitiveValType}
use Rattle.comp_bytes.specs.declared.forms.ComponentValType.TheVariants as values
use Rattle.comp_bytes.specs.Raw.{DefinedType, Declaration}
use Rattle.comp_bytes.specs.Reading.{Reader, ◌>>=◌, choose, primitives_as, just_at, tagged_at, or_else, as_at, pair_at, vector_at, field_at, case_at, value_type_at, type_index_at, name_at, optional_at, u32_at, result_list_at, function_of, primitive_forms, defined_type_forms}
use Rattle.comp_bytes.specs.FirstByte.{primitive_in, primitive_beside, defined_type_at, function_type_at, declared_type_at, DefinitionsAreChosen, DeclaredTypesAreChosen, ValueTypesAreChosen}

either : {A B : Type 0} (f : A → B) (b : Bool) (x : A) (o : Option A) (p : Option B) → p ≡ option_map f o → cond b (Some (f x)) p ≡ option_map f (cond b (Some x) o)
either f x y o p e = search std_rules

-- the primitive that stands beside a byte is what is chosen at that byte
chosen_primitive : {A : Type 0} (f : PrimitiveValType → A) (ps : List (ℕ × PrimitiveValType)) (b : ℕ) (rest : List ℕ)
    → choose (primitives_as f ps) b rest ≡ option_map (λ p. (f p, rest)) (primitive_in ps b)
unfolding choose just_at
chosen_primitive f [] b rest = refl
chosen_primitive f (p ∷ ps) b rest = either (λ q. (f q, rest)) (eqb b p.0) p.1 (primitive_in ps b) (choose (primitives_as f ps) b rest) (chosen_primitive f ps b rest)

pub value_types_chosen : ValueTypesAreChosen
unfolding value_type_at tagged_at primitive_beside
value_types_chosen b rest = ap (λ o. or_else o (as_at values.Type_ type_index_at (b ∷ rest))) (chosen_primitive values.Primitive primitive_forms b rest)

-- ---- definitions under another name

-- what was found, under another name
abbrev named_so : {A B : Type 0} → (A → B) → Option (A × List ℕ) → Option (B × List ℕ)
named_so f found = found >>= λ x. Some (f x.0, x.1)

twice : {X A B : Type 0} (h : X → A) (f : A → B) (o : Option (X × List ℕ)) → named_so (λ x. f (h x)) o ≡ named_so f (named_so h o)
twice h f x = search std_rules

one_form : {X A B : Type 0} (b : Bool) (f : A → B) (h : X → A) (reader : Reader X) (bytes : List ℕ) (others : Option (B × List ℕ)) (own : Option (A × List ℕ)) → others ≡ named_so f own
    → cond b (as_at (λ x. f (h x)) reader bytes) others ≡ named_so f (cond b (as_at h reader bytes) own)
unfolding as_at
one_form x f h reader bytes others own e = search std_rules

primitive_so : {A B : Type 0} (f : A → B) (make : PrimitiveValType → A) (bytes : List ℕ) (o : Option PrimitiveValType)
    → option_map (λ p. (f (make p), bytes)) o ≡ named_so f (option_map (λ p. (make p, bytes)) o)
primitive_so f make bytes x = search std_rules

definition_so : {A : Type 0} (f : DefinedType → A) (tag : ℕ) (bytes : List ℕ) → choose (defined_type_forms f) tag bytes ≡ named_so f (defined_type_at tag bytes)
unfolding choose defined_type_at primitive_beside
definition_so f tag bytes = one_form (eqb tag 0x72) f DefinedType.record_of (vector_at field_at) bytes _ _
    (one_form (eqb tag 0x71) f DefinedType.variant_of (vector_at case_at) bytes _ _
    (one_form (eqb tag 0x70) f DefinedType.list_of value_type_at bytes _ _
    (one_form (eqb tag 0x67) f (λ p. DefinedType.fixed_length_list_of p.0 p.1) (pair_at value_type_at u32_at) bytes _ _
    (one_form (eqb tag 0x6f) f DefinedType.tuple_of (vector_at value_type_at) bytes _ _
    (one_form (eqb tag 0x6e) f DefinedType.flags_of (vector_at name_at) bytes _ _
    (one_form (eqb tag 0x6d) f DefinedType.enum_of (vector_at name_at) bytes _ _
    (one_form (eqb tag 0x6b) f DefinedType.option_of value_type_at bytes _ _
    (one_form (eqb tag 0x6a) f (λ p. DefinedType.result_of p.0 p.1) (pair_at (optional_at value_type_at) (optional_at value_type_at)) bytes _ _
    (one_form (eqb tag 0x69) f DefinedType.own_of u32_at bytes _ _ (one_form (eqb tag 0x68) f DefinedType.borrow_of u32_at bytes _ _
    (one_form (eqb tag 0x66) f DefinedType.stream_of (optional_at value_type_at) bytes _ _
    (one_form (eqb tag 0x65) f DefinedType.future_of (optional_at value_type_at) bytes _ _
    (one_form (eqb tag 0x63) f (λ p. DefinedType.map_of p.0 p.1) (pair_at value_type_at value_type_at) bytes _ _
    (chosen_primitive (λ p. f (DefinedType.primitive p)) primitive_forms tag bytes ∙ primitive_so f DefinedType.primitive bytes (primitive_in primitive_forms tag)))))))))))))))

same_name : {A : Type 0} (o : Option (A × List ℕ)) → named_so (λ x. x) o ≡ o
same_name x = search std_rules

pub definitions_chosen : DefinitionsAreChosen
definitions_chosen tag bytes = definition_so (λ d. d) tag bytes ∙ same_name (defined_type_at tag bytes)

-- ---- declarations of types

function_so : (is_async : Bool) (bytes : List ℕ)
    → as_at (λ p. Declaration.function (function_of is_async p)) (pair_at (vector_at field_at) result_list_at) bytes ≡ as_at Declaration.function (function_type_at is_async) bytes
unfolding as_at function_type_at
function_so is_async bytes = twice (function_of is_async) Declaration.function (pair_at (vector_at field_at) result_list_at bytes)

both : {A : Type 0} (b c : Bool) (x y z x' y' z' : Option A) → x ≡ x' → y ≡ y' → z ≡ z' → cond b x (cond c y z) ≡ cond b x' (cond c y' z')
both x c y z u x' y' z' p q r = search std_rules

defined_so : (tag : ℕ) (bytes : List ℕ) → choose (defined_type_forms Declaration.defined) tag bytes ≡ as_at Declaration.defined (defined_type_at tag) bytes
unfolding as_at
defined_so tag bytes = definition_so Declaration.defined tag bytes

pub declared_types_chosen : DeclaredTypesAreChosen
unfolding choose declared_type_at
declared_types_chosen tag bytes = both (eqb tag 0x40) (eqb tag 0x43) _ _ _ _ _ _ (function_so false bytes) (function_so true bytes) (defined_so tag bytes)
