-- How raw forms are told apart: each has a code, from which it is found again.
use Rattle.std.specs.Prelude.{◌≡◌, ◌⊎◌, ℕ, Bool, true, false, if◌then◌else◌, ◌==◌, List, Option, refl}
use Rattle.std.specs.Coded.{Coded, code_by, coded×, coded⊎, coded_ℕ, coded_bool, coded_list, coded_option}
use Rattle.std.proofs.{Common.inl, Common.inr, Common.ap, Common.sym, Common.◌∙◌, lemmas.Bool.false≢true}
use base.Stored.{Gv, gnil, gnum, gcons}
use Rattle.comp_bytes.specs.declared.forms.{PrimitiveValType.PrimitiveValType, ComponentValType.ComponentValType, ComponentTypeRef.ComponentTypeRef}
use Rattle.comp_bytes.specs.Raw.{Labeled, DefinedType, FunctionType, Alias, ExternName, Declaration, Declarations, TopType, TopExport}
use Rattle.comp_bytes.specs.{Spelling.primitive_byte, Parts.Part}
use Rattle.comp_bytes.specs.declared.forms.PrimitiveValType.TheVariants as primitives
use Rattle.comp_bytes.specs.declared.forms.ComponentValType.TheVariants as values
use Rattle.comp_bytes.specs.declared.forms.ComponentTypeRef.TheVariants as refs

-- ---- parts

-- the primitive of a byte
abbrev pub primitive_of : ℕ → PrimitiveValType
primitive_of n =
    if n == 0x7f then primitives.Bool else
    if n == 0x7e then primitives.S8 else
    if n == 0x7d then primitives.U8 else
    if n == 0x7c then primitives.S16 else
    if n == 0x7b then primitives.U16 else
    if n == 0x7a then primitives.S32 else
    if n == 0x79 then primitives.U32 else
    if n == 0x78 then primitives.S64 else
    if n == 0x77 then primitives.U64 else
    if n == 0x76 then primitives.F32 else
    if n == 0x75 then primitives.F64 else
    if n == 0x74 then primitives.Char else
    if n == 0x73 then primitives.String else
    primitives.ErrorContext

pub primitive_of-primitive_byte : (p : PrimitiveValType) → primitive_of (primitive_byte p) ≡ p
primitive_of-primitive_byte primitives.Bool = refl
primitive_of-primitive_byte primitives.S8 = refl
primitive_of-primitive_byte primitives.U8 = refl
primitive_of-primitive_byte primitives.S16 = refl
primitive_of-primitive_byte primitives.U16 = refl
primitive_of-primitive_byte primitives.S32 = refl
primitive_of-primitive_byte primitives.U32 = refl
primitive_of-primitive_byte primitives.S64 = refl
primitive_of-primitive_byte primitives.U64 = refl
primitive_of-primitive_byte primitives.F32 = refl
primitive_of-primitive_byte primitives.F64 = refl
primitive_of-primitive_byte primitives.Char = refl
primitive_of-primitive_byte primitives.String = refl
primitive_of-primitive_byte primitives.ErrorContext = refl

abbrev pub primitive_code : Coded PrimitiveValType
primitive_code = code_by ℕ coded_ℕ primitive_byte primitive_of primitive_of-primitive_byte

-- a value type: a primitive, or an index
abbrev pub value_parts : ComponentValType → PrimitiveValType ⊎ ℕ
value_parts (values.Primitive p) = inl p
value_parts (values.Type_ n) = inr n

abbrev pub value_from : PrimitiveValType ⊎ ℕ → ComponentValType
value_from (inl x) = values.Primitive x
value_from (inr x) = values.Type_ x

pub value_from-parts : (x : ComponentValType) → value_from (value_parts x) ≡ x
value_from-parts (values.Primitive p) = refl
value_from-parts (values.Type_ n) = refl

abbrev pub value_code : Coded ComponentValType
value_code = code_by (PrimitiveValType ⊎ ℕ) (coded⊎ primitive_code coded_ℕ) value_parts value_from value_from-parts

abbrev pub optional_code : Coded (Option ComponentValType)
optional_code = coded_option value_code

abbrev pub text_code : Coded (List ℕ)
text_code = coded_list coded_ℕ

abbrev pub optional_text_code : Coded (Option (List ℕ))
optional_text_code = coded_option text_code

-- a label with what stands beside it
abbrev pub labeled_code : {T : Type 0} → Coded T → Coded (Labeled T)
labeled_code {T} code = code_by (List ℕ × T) (coded× text_code code) (λ x. (x.label, x.type_of)) (λ p. record { label = p.0; type_of = p.1 }) (λ _. refl)

-- what an import or an export is: which sort, and an index
abbrev pub described_parts : ComponentTypeRef → ℕ × ℕ
described_parts (refs.Func n) = (0, n)
described_parts (refs.TypeEq n) = (1, n)
described_parts refs.SubResource = (2, 0)
described_parts (refs.Component n) = (3, n)
described_parts (refs.Instance n) = (4, n)

abbrev pub described_from : ℕ × ℕ → ComponentTypeRef
described_from p =
    if p.0 == 0 then refs.Func p.1 else
    if p.0 == 1 then refs.TypeEq p.1 else
    if p.0 == 2 then refs.SubResource else
    if p.0 == 3 then refs.Component p.1 else
    refs.Instance p.1

pub described_from-parts : (x : ComponentTypeRef) → described_from (described_parts x) ≡ x
described_from-parts (refs.Func n) = refl
described_from-parts (refs.TypeEq n) = refl
described_from-parts refs.SubResource = refl
described_from-parts (refs.Component n) = refl
described_from-parts (refs.Instance n) = refl

abbrev pub described_code : Coded ComponentTypeRef
described_code = code_by (ℕ × ℕ) (coded× coded_ℕ coded_ℕ) described_parts described_from described_from-parts

-- ---- types

-- the definition of a value type
abbrev pub defined_parts : DefinedType → PrimitiveValType
    ⊎ ((List (Labeled ComponentValType)) ⊎ ((List (Labeled (Option ComponentValType)))
    ⊎ (ComponentValType ⊎ ((ComponentValType × ℕ) ⊎ ((List ComponentValType)
    ⊎ ((List (List ℕ)) ⊎ ((List (List ℕ)) ⊎ (ComponentValType
    ⊎ ((Option ComponentValType × Option ComponentValType) ⊎ (ℕ
    ⊎ (ℕ ⊎ ((Option ComponentValType) ⊎ ((Option ComponentValType) ⊎ (ComponentValType × ComponentValType))))))))))))))
defined_parts (DefinedType.primitive p) = inl p
defined_parts (DefinedType.record_of fields) = inr (inl fields)
defined_parts (DefinedType.variant_of cases) = inr (inr (inl cases))
defined_parts (DefinedType.list_of v) = inr (inr (inr (inl v)))
defined_parts (DefinedType.fixed_length_list_of v n) = inr (inr (inr (inr (inl (v, n)))))
defined_parts (DefinedType.tuple_of vs) = inr (inr (inr (inr (inr (inl vs)))))
defined_parts (DefinedType.flags_of names) = inr (inr (inr (inr (inr (inr (inl names))))))
defined_parts (DefinedType.enum_of names) = inr (inr (inr (inr (inr (inr (inr (inl names)))))))
defined_parts (DefinedType.option_of v) = inr (inr (inr (inr (inr (inr (inr (inr (inl v))))))))
defined_parts (DefinedType.result_of ok err) = inr (inr (inr (inr (inr (inr (inr (inr (inr (inl (ok, err))))))))))
defined_parts (DefinedType.own_of n) = inr (inr (inr (inr (inr (inr (inr (inr (inr (inr (inl n))))))))))
defined_parts (DefinedType.borrow_of n) = inr (inr (inr (inr (inr (inr (inr (inr (inr (inr (inr (inl n)))))))))))
defined_parts (DefinedType.stream_of v) = inr (inr (inr (inr (inr (inr (inr (inr (inr (inr (inr (inr (inl v))))))))))))
defined_parts (DefinedType.future_of v) = inr (inr (inr (inr (inr (inr (inr (inr (inr (inr (inr (inr (inr (inl v)))))))))))))
defined_parts (DefinedType.map_of k v) = inr (inr (inr (inr (inr (inr (inr (inr (inr (inr (inr (inr (inr (inr (k, v))))))))))))))

abbrev pub defined_from : PrimitiveValType
    ⊎ ((List (Labeled ComponentValType)) ⊎ ((List (Labeled (Option ComponentValType)))
    ⊎ (ComponentValType ⊎ ((ComponentValType × ℕ) ⊎ ((List ComponentValType)
    ⊎ ((List (List ℕ)) ⊎ ((List (List ℕ)) ⊎ (ComponentValType
    ⊎ ((Option ComponentValType × Option ComponentValType) ⊎ (ℕ
    ⊎ (ℕ ⊎ ((Option ComponentValType) ⊎ ((Option ComponentValType) ⊎ (ComponentValType × ComponentValType)))))))))))))) → DefinedType
defined_from (inl x) = DefinedType.primitive x
defined_from (inr (inl x)) = DefinedType.record_of x
defined_from (inr (inr (inl x))) = DefinedType.variant_of x
defined_from (inr (inr (inr (inl x)))) = DefinedType.list_of x
defined_from (inr (inr (inr (inr (inl x))))) = DefinedType.fixed_length_list_of x.0 x.1
defined_from (inr (inr (inr (inr (inr (inl x)))))) = DefinedType.tuple_of x
defined_from (inr (inr (inr (inr (inr (inr (inl x))))))) = DefinedType.flags_of x
defined_from (inr (inr (inr (inr (inr (inr (inr (inl x)))))))) = DefinedType.enum_of x
defined_from (inr (inr (inr (inr (inr (inr (inr (inr (inl x))))))))) = DefinedType.option_of x
defined_from (inr (inr (inr (inr (inr (inr (inr (inr (inr (inl x)))))))))) = DefinedType.result_of x.0 x.1
defined_from (inr (inr (inr (inr (inr (inr (inr (inr (inr (inr (inl x))))))))))) = DefinedType.own_of x
defined_from (inr (inr (inr (inr (inr (inr (inr (inr (inr (inr (inr (inl x)))))))))))) = DefinedType.borrow_of x
defined_from (inr (inr (inr (inr (inr (inr (inr (inr (inr (inr (inr (inr (inl x))))))))))))) = DefinedType.stream_of x
defined_from (inr (inr (inr (inr (inr (inr (inr (inr (inr (inr (inr (inr (inr (inl x)))))))))))))) = DefinedType.future_of x
defined_from (inr (inr (inr (inr (inr (inr (inr (inr (inr (inr (inr (inr (inr (inr x)))))))))))))) = DefinedType.map_of x.0 x.1

pub defined_from-parts : (x : DefinedType) → defined_from (defined_parts x) ≡ x
defined_from-parts (DefinedType.primitive p) = refl
defined_from-parts (DefinedType.record_of fields) = refl
defined_from-parts (DefinedType.variant_of cases) = refl
defined_from-parts (DefinedType.list_of v) = refl
defined_from-parts (DefinedType.fixed_length_list_of v n) = refl
defined_from-parts (DefinedType.tuple_of vs) = refl
defined_from-parts (DefinedType.flags_of names) = refl
defined_from-parts (DefinedType.enum_of names) = refl
defined_from-parts (DefinedType.option_of v) = refl
defined_from-parts (DefinedType.result_of ok err) = refl
defined_from-parts (DefinedType.own_of n) = refl
defined_from-parts (DefinedType.borrow_of n) = refl
defined_from-parts (DefinedType.stream_of v) = refl
defined_from-parts (DefinedType.future_of v) = refl
defined_from-parts (DefinedType.map_of k v) = refl

abbrev pub defined_code : Coded DefinedType
defined_code = code_by (PrimitiveValType ⊎ ((List (Labeled ComponentValType))
    ⊎ ((List (Labeled (Option ComponentValType))) ⊎ (ComponentValType
    ⊎ ((ComponentValType × ℕ) ⊎ ((List ComponentValType) ⊎ ((List (List ℕ))
    ⊎ ((List (List ℕ)) ⊎ (ComponentValType ⊎ ((Option ComponentValType × Option ComponentValType)
    ⊎ (ℕ ⊎ (ℕ ⊎ ((Option ComponentValType) ⊎ ((Option ComponentValType) ⊎ (ComponentValType × ComponentValType)))))))))))))))
    (coded⊎ primitive_code (coded⊎ (coded_list (labeled_code value_code))
    (coded⊎ (coded_list (labeled_code optional_code)) (coded⊎ value_code
    (coded⊎ (coded× value_code coded_ℕ) (coded⊎ (coded_list value_code)
    (coded⊎ (coded_list text_code) (coded⊎ (coded_list text_code)
    (coded⊎ value_code (coded⊎ (coded× optional_code optional_code)
    (coded⊎ coded_ℕ (coded⊎ coded_ℕ (coded⊎ optional_code (coded⊎ optional_code (coded× value_code value_code))))))))))))))) defined_parts defined_from
    defined_from-parts

abbrev pub function_code : Coded FunctionType
function_code =
    code_by (Bool × (List (Labeled ComponentValType) × Option ComponentValType))
    (coded× coded_bool (coded× (coded_list (labeled_code value_code)) optional_code))
    (λ f. (f.is_async, (f.parameters, f.result_type))) (λ p. record { is_async = p.0; parameters = p.1.0; result_type = p.1.1 }) (λ _. refl)

-- an alias
abbrev pub alias_parts : Alias → (ℕ × List ℕ) ⊎ (ℕ × ℕ)
alias_parts (Alias.of_export n name) = inl (n, name)
alias_parts (Alias.of_outer scopes n) = inr (scopes, n)

abbrev pub alias_from : (ℕ × List ℕ) ⊎ (ℕ × ℕ) → Alias
alias_from (inl x) = Alias.of_export x.0 x.1
alias_from (inr x) = Alias.of_outer x.0 x.1

pub alias_from-parts : (x : Alias) → alias_from (alias_parts x) ≡ x
alias_from-parts (Alias.of_export n name) = refl
alias_from-parts (Alias.of_outer scopes n) = refl

abbrev pub alias_code : Coded Alias
alias_code = code_by ((ℕ × List ℕ) ⊎ (ℕ × ℕ)) (coded⊎ (coded× coded_ℕ text_code) (coded× coded_ℕ coded_ℕ)) alias_parts alias_from alias_from-parts

-- a name with its attributes
abbrev pub name_code : Coded ExternName
name_code =
    code_by (List ℕ × (Option (List ℕ) × (Option (List ℕ) × Option (List ℕ))))
    (coded× text_code (coded× optional_text_code (coded× optional_text_code optional_text_code)))
    (λ e. (e.text, (e.implements, (e.version_suffix, e.external_id))))
    (λ p. record { text = p.0; implements = p.1.0; version_suffix = p.1.1.0; external_id = p.1.1.1 }) (λ _. refl)

-- ---- declarations

-- a declaration in which no other stands
abbrev pub declaration_parts : Declaration → DefinedType ⊎ (FunctionType ⊎ (Alias ⊎ ((ExternName × ComponentTypeRef) ⊎ (ExternName × ComponentTypeRef))))
declaration_parts (Declaration.defined d) = inl d
declaration_parts (Declaration.function f) = inr (inl f)
declaration_parts (Declaration.alias_of a) = inr (inr (inl a))
declaration_parts (Declaration.imported name described) = inr (inr (inr (inl (name, described))))
declaration_parts (Declaration.exported name described) = inr (inr (inr (inr (name, described))))

abbrev pub declaration_from : DefinedType ⊎ (FunctionType ⊎ (Alias ⊎ ((ExternName × ComponentTypeRef) ⊎ (ExternName × ComponentTypeRef)))) → Declaration
declaration_from (inl x) = Declaration.defined x
declaration_from (inr (inl x)) = Declaration.function x
declaration_from (inr (inr (inl x))) = Declaration.alias_of x
declaration_from (inr (inr (inr (inl x)))) = Declaration.imported x.0 x.1
declaration_from (inr (inr (inr (inr x)))) = Declaration.exported x.0 x.1

pub declaration_from-parts : (x : Declaration) → declaration_from (declaration_parts x) ≡ x
declaration_from-parts (Declaration.defined d) = refl
declaration_from-parts (Declaration.function f) = refl
declaration_from-parts (Declaration.alias_of a) = refl
declaration_from-parts (Declaration.imported name described) = refl
declaration_from-parts (Declaration.exported name described) = refl

abbrev pub declaration_code : Coded Declaration
declaration_code = code_by (DefinedType ⊎ (FunctionType ⊎ (Alias ⊎ ((ExternName × ComponentTypeRef) ⊎ (ExternName × ComponentTypeRef)))))
    (coded⊎ defined_code (coded⊎ function_code (coded⊎ alias_code (coded⊎ (coded× name_code described_code) (coded× name_code described_code)))))
    declaration_parts declaration_from declaration_from-parts

-- declarations as a tree: 0, 1 or 2 for a plain one, a component type or an instance type, then what it is, and those behind it
pub tree_of : Declarations → Gv
tree_of Declarations.no_more = gnil
tree_of (Declarations.declares d rest) = gcons (gnum 0) (gcons (declaration_code.code d) (tree_of rest))
tree_of (Declarations.component inner rest) = gcons (gnum 1) (gcons (tree_of inner) (tree_of rest))
tree_of (Declarations.instance inner rest) = gcons (gnum 2) (gcons (tree_of inner) (tree_of rest))

abbrev front_of : Gv → Gv
front_of gnil = gnil
front_of (gnum n) = gnil
front_of (gcons a b) = a

abbrev back_of : Gv → Gv
back_of gnil = gnil
back_of (gnum n) = gnil
back_of (gcons a b) = b

-- what a declaration is, and those behind it
abbrev first_in : Gv → Gv
first_in g = front_of (back_of g)

abbrev others_in : Gv → Gv
others_in g = back_of (back_of g)

abbrev sort_in : Gv → ℕ
sort_in gnil = 3
sort_in (gnum n) = 3
sort_in (gcons gnil b) = 3
sort_in (gcons (gnum n) b) = n
sort_in (gcons (gcons a c) b) = 3

-- trees of two sorts are not equal
different : {A : Type 0} (k : ℕ) (g h : Gv) → (sort_in g == k) ≡ true → (sort_in h == k) ≡ false → g ≡ h → A
different k g h here there p = absurd (false≢true (sym there ∙ ap (λ t. sort_in t == k) (sym p) ∙ here))

pub tree_of-inj : (x y : Declarations) → tree_of x ≡ tree_of y → x ≡ y
unfolding tree_of
tree_of-inj Declarations.no_more Declarations.no_more p = refl
tree_of-inj (Declarations.declares d ds) (Declarations.declares e es) p =
    λ i. Declarations.declares (declaration_code.inj d e (ap first_in p) i) (tree_of-inj ds es (ap others_in p) i)
tree_of-inj (Declarations.component a ds) (Declarations.component b es) p =
    λ i. Declarations.component (tree_of-inj a b (ap first_in p) i) (tree_of-inj ds es (ap others_in p) i)
tree_of-inj (Declarations.instance a ds) (Declarations.instance b es) p =
    λ i. Declarations.instance (tree_of-inj a b (ap first_in p) i) (tree_of-inj ds es (ap others_in p) i)
tree_of-inj Declarations.no_more (Declarations.declares e es) p = different 3 (tree_of Declarations.no_more) (tree_of (Declarations.declares e es)) refl refl p
tree_of-inj Declarations.no_more (Declarations.component b es) p =
    different 3 (tree_of Declarations.no_more) (tree_of (Declarations.component b es)) refl refl p
tree_of-inj Declarations.no_more (Declarations.instance b es) p = different 3 (tree_of Declarations.no_more) (tree_of (Declarations.instance b es)) refl refl p
tree_of-inj (Declarations.declares d ds) Declarations.no_more p = different 0 (tree_of (Declarations.declares d ds)) (tree_of Declarations.no_more) refl refl p
tree_of-inj (Declarations.declares d ds) (Declarations.component b es) p =
    different 0 (tree_of (Declarations.declares d ds)) (tree_of (Declarations.component b es)) refl refl p
tree_of-inj (Declarations.declares d ds) (Declarations.instance b es) p =
    different 0 (tree_of (Declarations.declares d ds)) (tree_of (Declarations.instance b es)) refl refl p
tree_of-inj (Declarations.component a ds) Declarations.no_more p =
    different 1 (tree_of (Declarations.component a ds)) (tree_of Declarations.no_more) refl refl p
tree_of-inj (Declarations.component a ds) (Declarations.declares e es) p =
    different 1 (tree_of (Declarations.component a ds)) (tree_of (Declarations.declares e es)) refl refl p
tree_of-inj (Declarations.component a ds) (Declarations.instance b es) p =
    different 1 (tree_of (Declarations.component a ds)) (tree_of (Declarations.instance b es)) refl refl p
tree_of-inj (Declarations.instance a ds) Declarations.no_more p = different 2 (tree_of (Declarations.instance a ds)) (tree_of Declarations.no_more) refl refl p
tree_of-inj (Declarations.instance a ds) (Declarations.declares e es) p =
    different 2 (tree_of (Declarations.instance a ds)) (tree_of (Declarations.declares e es)) refl refl p
tree_of-inj (Declarations.instance a ds) (Declarations.component b es) p =
    different 2 (tree_of (Declarations.instance a ds)) (tree_of (Declarations.component b es)) refl refl p

abbrev pub declarations_code : Coded Declarations
declarations_code = record { code = tree_of; inj = tree_of-inj }

-- ---- what stands at the top

-- a type at the top
abbrev pub top_type_parts : TopType → DefinedType ⊎ (FunctionType ⊎ (Declarations ⊎ Declarations))
top_type_parts (TopType.defined d) = inl d
top_type_parts (TopType.function f) = inr (inl f)
top_type_parts (TopType.component ds) = inr (inr (inl ds))
top_type_parts (TopType.instance ds) = inr (inr (inr ds))

abbrev pub top_type_from : DefinedType ⊎ (FunctionType ⊎ (Declarations ⊎ Declarations)) → TopType
top_type_from (inl x) = TopType.defined x
top_type_from (inr (inl x)) = TopType.function x
top_type_from (inr (inr (inl x))) = TopType.component x
top_type_from (inr (inr (inr x))) = TopType.instance x

pub top_type_from-parts : (x : TopType) → top_type_from (top_type_parts x) ≡ x
top_type_from-parts (TopType.defined d) = refl
top_type_from-parts (TopType.function f) = refl
top_type_from-parts (TopType.component ds) = refl
top_type_from-parts (TopType.instance ds) = refl

abbrev pub top_type_code : Coded TopType
top_type_code = code_by (DefinedType ⊎ (FunctionType ⊎ (Declarations ⊎ Declarations)))
    (coded⊎ defined_code (coded⊎ function_code (coded⊎ declarations_code declarations_code))) top_type_parts top_type_from top_type_from-parts

abbrev pub top_export_code : Coded TopExport
top_export_code = code_by (ExternName × ℕ) (coded× name_code coded_ℕ) (λ e. (e.exported_as, e.type_index))
    (λ p. record { exported_as = p.0; type_index = p.1 }) (λ _. refl)

-- what a component was given
abbrev pub part_parts : Part → TopType ⊎ (TopExport ⊎ (List ℕ × List ℕ))
part_parts (Part.top_type t) = inl t
part_parts (Part.top_export e) = inr (inl e)
part_parts (Part.custom name contents) = inr (inr (name, contents))

abbrev pub part_from : TopType ⊎ (TopExport ⊎ (List ℕ × List ℕ)) → Part
part_from (inl x) = Part.top_type x
part_from (inr (inl x)) = Part.top_export x
part_from (inr (inr x)) = Part.custom x.0 x.1

pub part_from-parts : (x : Part) → part_from (part_parts x) ≡ x
part_from-parts (Part.top_type t) = refl
part_from-parts (Part.top_export e) = refl
part_from-parts (Part.custom name contents) = refl

abbrev pub parts_code : Coded (List Part)
parts_code = coded_list (code_by (TopType ⊎ (TopExport ⊎ (List ℕ × List ℕ))) (coded⊎ top_type_code (coded⊎ top_export_code (coded× text_code text_code)))
    part_parts part_from part_from-parts)
