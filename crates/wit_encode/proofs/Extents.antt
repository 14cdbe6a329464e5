-- How many bytes are written at most of a definition, of the type of a function and of a name, and that types and functions weigh no less.
use Rattle.std.proofs.Common.{rules as std_rules, ◌≡◌, refl, sym, subst, ap, ◌∙◌, ℕ, ◌+◌, ◌*◌, ◌≤◌, Bool, arith, List, [], ◌∷◌, ◌++◌, map, length, length-append, flat_map, Option, Some, None, option_map, option_to_list, String}
use Rattle.std.proofs.{lemmas.List.Sums.sum_by-cons, lemmas.List.Sums.sum_by-append, Math.ListN.length-map}
use Rattle.std.specs.{Prelude.sum_by, List.AllZip, Option.option_map_or, Borrow.Bor}
use Rattle.std.specs.declared.alloc.Global.{Global}
use Rattle.wit_model.specs.{Text.Text, Text.text_of, Text.optional_text, Weight.unit_of, Weight.members_of, Weight.name_texts, Weight.definition_weight}
use Rattle.wit_model.specs.{Tree.Tree, Tree.children, Tree.child_list, Tree.is_given, Meaning.Signature, Meant.type_meaning, Lookup.type_at}
use Rattle.wit_model.specs.{Types.trees_of, Types.tree_of, Types.declared_by, Types.tree_of_declaration, Valid.IsValid}
use Rattle.wit_model.specs.declared.model.{Resolve.Resolve, Param.Param, TypeDef.TypeDef, TypeDefKind.TypeDefKind, «Type».«Type» as ValueType}
use Rattle.comp_bytes.specs.declared.forms.{ComponentDefinedType.ComponentDefinedType, ComponentFuncType.ComponentFuncType, ComponentValType.ComponentValType}
use Rattle.comp_bytes.specs.declared.forms.ComponentTypeRef.{ComponentTypeRef}
use Rattle.comp_bytes.specs.Raw.{Declaration, ExternName}
use Rattle.comp_bytes.specs.{RawOf.raw_defined, RawOf.raw_function, RawOf.labeled, RawOf.text_of as raw_text, Spelling.attribute, Spelling.attributes}
use Rattle.comp_bytes.specs.Writing.{u32_bytes, type_index_bytes, name_bytes, value_bytes, optional_bytes, field_bytes, case_bytes, vector_bytes, result_list_bytes, attribute_bytes, attributed_bytes, extern_name_bytes, description_bytes, declaration_bytes}
use Rattle.encode_types.specs.Slots.{Pairs, StandsFor, NamedStands, CaseStands, Follows, FollowsFunction, texts}
use Rattle.encode_types.specs.{Kinds.kind_tree, Scope.exported_name, Standing.SlotsStand}
use Rattle.wit_encode.specs.Extents.{labels_extent, tree_extent, signature_extent, given_length, name_extent, own_name_extent, BytesAreFew, TypesAreLight, FunctionsAreLight}
use Rattle.wit_encode.proofs.{Lengths.u32-short, Lengths.name-short, Lengths.vector-short, Weighing.alias-is, Weighing.as-many, Weighing.members-weight}
use Rattle.base_lemmas.proofs.{Elements.zip_long as zip-length, Lists.map_of_map as map-twice}
use Rattle.comp_bytes.proofs.IndexWrites.{length_within as positive-short}
use Rattle.wit_model.proofs.{TreeLemmas.child_list_of_children as listed}
use Rattle.wit_encode.proofs.Weighing.{named-unit}
use Rattle.wit_model.specs.declared.model.TypeDefKind.TheVariants as kind
use Rattle.wit_model.specs.declared.model.Handle.TheVariants as handle
use Rattle.wit_model.specs.declared.model.«Type».TheVariants as ty
use Rattle.comp_bytes.specs.declared.forms.ComponentDefinedType.TheVariants as form
use Rattle.comp_bytes.specs.declared.forms.ComponentValType.TheVariants as values
use Rattle.comp_bytes.specs.declared.forms.ComponentTypeRef.TheVariants as refs

-- ---- parts

index-short : (n : ℕ) → length (type_index_bytes n) ≤ 5
unfolding type_index_bytes
index-short n = positive-short 5 n

value-short : (v : ComponentValType) → length (value_bytes v) ≤ 5
value-short (values.Primitive p) = omega arith
value-short (values.Type_ n) = index-short n

optional-short : (v : Option ComponentValType) → length (optional_bytes value_bytes v) ≤ 6
optional-short None = omega arith
optional-short (Some v) = omega (arith, value-short v)

result-short : (v : Option ComponentValType) → length (result_list_bytes v) ≤ 6
result-short None = omega arith
result-short (Some v) = omega (arith, value-short v)

described-short : (d : ComponentTypeRef) → length (description_bytes d) ≤ 7
described-short (refs.Func n) = let h = u32-short n in omega arith
described-short (refs.TypeEq n) = let h = u32-short n in omega arith
described-short refs.SubResource = omega arith
described-short (refs.Component n) = let h = u32-short n in omega arith
described-short (refs.Instance n) = omega (arith, u32-short n)

-- ---- labels

abbrev label-extent : Text → ℕ
label-extent label = 16 + length label

next-label : (t : Text) (ts : List Text) → labels_extent (t ∷ ts) ≡ (16 + length t) + labels_extent ts
next-label t ts = sum_by-cons label-extent t ts

fields-short : (S : Pairs) (xs : List (Bor Text × ComponentValType)) (fs : List (Text × Tree)) → AllZip (NamedStands S) xs fs
    → length (flat_map field_bytes (map labeled xs)) ≤ labels_extent (map (λ f. f.0) fs)
fields-short S [] [] h = omega arith
fields-short S [] (f ∷ fs) h = absurd h
fields-short S (x ∷ xs) [] h = absurd h
fields-short S (x ∷ xs) (f ∷ fs) h =
    let one = length-append (name_bytes x.0.now) (value_bytes x.1) in
    let a = length-append (field_bytes (labeled x)) (flat_map field_bytes (map labeled xs)) in
    omega (arith, ap length h.0.0, value-short x.1, name-short x.0.now, fields-short S xs fs h.1, next-label f.0 (map (λ (f : Text × Tree). f.0) fs), one, a)

cases-short : (S : Pairs) (xs : List (Bor Text × Option ComponentValType)) (cs : List (Text × Option Tree)) → AllZip (CaseStands S) xs cs
    → length (flat_map case_bytes (map labeled xs)) ≤ labels_extent (map (λ c. c.0) cs)
cases-short S [] [] h = omega arith
cases-short S [] (c ∷ cs) h = absurd h
cases-short S (x ∷ xs) [] h = absurd h
cases-short S (x ∷ xs) (c ∷ cs) h =
    let rest = cases-short S xs cs h.1 in
    let same : length x.0.now ≡ length c.0 = ap length h.0.0 in
    let name = name-short x.0.now in
    let value = optional-short x.1 in
    let one = length-append (name_bytes x.0.now) (optional_bytes value_bytes x.1 ++ 0 ∷ []) in
    let end = length-append (optional_bytes value_bytes x.1) (0 ∷ []) in
    omega (arith, length-append (case_bytes (labeled x)) (flat_map case_bytes (map labeled xs)), next-label c.0 (map (λ (c : Text × Option Tree). c.0) cs))

names-short : (xs : List (Bor Text)) → length (flat_map name_bytes (map raw_text xs)) ≤ labels_extent (texts xs)
names-short [] = omega arith
names-short (x ∷ xs) = omega (arith, names-short xs, name-short x.now, length-append (name_bytes x.now) (flat_map name_bytes (map raw_text xs)), next-label x.now (texts xs))

values-short : (xs : List ComponentValType) → length (flat_map value_bytes xs) ≤ 5 * length xs
values-short [] = omega arith
values-short (x ∷ xs) = omega (arith, values-short xs, value-short x, length-append (value_bytes x) (flat_map value_bytes xs))

-- ---- definitions

of-tree : (n : ℕ) (t u : Tree) → t ≡ u → n ≤ tree_extent u → n ≤ tree_extent t
of-tree n t u e h = subst (λ (z : Tree). n ≤ tree_extent z) (sym e) h

defined-short : (S : Pairs) (d : ComponentDefinedType) (t : Tree) → Follows S d t → length (declaration_bytes (Declaration.defined (raw_defined d))) ≤ tree_extent t
defined-short S (form.Primitive x) t h = of-tree _ t _ h (omega arith)
defined-short S (form.Record fields) t h = of-tree _ t _ h.2 (let a = vector-short field_bytes (map labeled fields.items) in let b = fields-short S fields.items h.0 h.1 in omega arith)
defined-short S (form.Variant cases) t h = of-tree _ t _ h.2 (
    let a = vector-short case_bytes (map labeled cases.items) in
    let b = cases-short S cases.items h.0 h.1 in
    omega (arith, ap labels_extent (map-twice (λ (c : Text × Bool). c.0) (λ (c : Text × Option Tree). (c.0, is_given c.1)) h.0)))
defined-short S (form.List x) t h = of-tree _ t _ h.2 (omega (arith, value-short x))
defined-short S (form.FixedLengthList x n) t h = of-tree _ t _ h.2 (let a = value-short x in let b = u32-short n in let c = length-append (value_bytes x) (u32_bytes n) in omega arith)
defined-short S (form.Map x y) t h = of-tree _ t _ h.4 (let a = value-short x in let b = value-short y in let c = length-append (value_bytes x) (value_bytes y) in omega arith)
defined-short S (form.Tuple xs) t h = of-tree _ t _ h.2 (
    omega (arith, vector-short value_bytes xs.items, values-short xs.items, zip-length (StandsFor S) xs.items h.0 h.1, ap length (listed h.0)))
defined-short S (form.Flags names) t h = of-tree _ t _ h (let a = vector-short name_bytes (map raw_text names.items) in let b = names-short names.items in omega arith)
defined-short S (form.Enum names) t h = of-tree _ t _ h (omega (arith, vector-short name_bytes (map raw_text names.items), names-short names.items))
defined-short S (form.Option x) t h = of-tree _ t _ h.2 (omega (arith, value-short x))
defined-short S (form.Result x y) t h = of-tree _ t _ h.4 (let c = length-append (optional_bytes value_bytes x) (optional_bytes value_bytes y) in omega (arith, optional-short x, optional-short y))
defined-short S (form.Own i) t h = of-tree _ t _ h.2 (omega (arith, u32-short i))
defined-short S (form.Borrow i) t h = of-tree _ t _ h.2 (omega (arith, u32-short i))
defined-short S (form.Stream x) t h = of-tree _ t _ h.2 (omega (arith, optional-short x))
defined-short S (form.Future x) t h = of-tree _ t _ h.2 (omega (arith, optional-short x))

function-short : (S : Pairs) (f : ComponentFuncType) (s : Signature) → FollowsFunction S f s → length (declaration_bytes (Declaration.function (raw_function f))) ≤ signature_extent s
function-short S f s h =
    let params = fields-short S f.params.items s.params h.params in
    let vector = vector-short field_bytes (map labeled f.params.items) in
    omega (arith, result-short f.result, length-append (vector_bytes field_bytes (map labeled f.params.items)) (result_list_bytes f.result))

-- ---- names

abbrev attribute-extent : ℕ × List ℕ → ℕ
attribute-extent a = 6 + length a.1

each-attribute : (xs : List (ℕ × List ℕ)) → length (flat_map attribute_bytes xs) ≤ sum_by attribute-extent xs
each-attribute [] = omega arith
each-attribute (a ∷ xs) = omega (arith, each-attribute xs, name-short a.1, length-append (attribute_bytes a) (flat_map attribute_bytes xs), sum_by-cons attribute-extent a xs)

attributed-short : (xs : List (ℕ × List ℕ)) (text : List ℕ) → length (attributed_bytes xs text) ≤ 11 + (length text + sum_by attribute-extent xs)
attributed-short [] text = let name = name-short text in omega arith
attributed-short (a ∷ xs) text =
    let name = name-short text in
    omega (arith, vector-short attribute_bytes (a ∷ xs), each-attribute (a ∷ xs), length-append (name_bytes text) (vector_bytes attribute_bytes (a ∷ xs)))

one-attribute : (tag : ℕ) (text : Option (List ℕ)) → sum_by attribute-extent (attribute tag text) ≤ 6 + given_length text
one-attribute tag x = search std_rules

extern-short : (name : ExternName) → length (extern_name_bytes name) ≤ 29 + (length name.text + (given_length name.implements + (given_length name.version_suffix + given_length name.external_id)))
extern-short name =
    let all = attributed-short (attributes name) name.text in
    let front = sum_by-append attribute-extent (attribute 0 name.implements) (attribute 1 name.version_suffix) in
    let back = sum_by-append attribute-extent (attribute 0 name.implements ++ attribute 1 name.version_suffix) (attribute 2 name.external_id) in
    omega (arith, one-attribute 0 name.implements, one-attribute 1 name.version_suffix, one-attribute 2 name.external_id)

described-under : (name : ExternName) (d : ComponentTypeRef)
    → length (extern_name_bytes name ++ description_bytes d) ≤ 36 + (length name.text + (given_length name.implements + (given_length name.version_suffix + given_length name.external_id)))
described-under name d = omega (arith, extern-short name, described-short d, length-append (extern_name_bytes name) (description_bytes d))

pub bytes-few : BytesAreFew
bytes-few = record {
  definitions = λ slots d t h. defined-short (SlotsStand slots) d t h;
  functions = λ slots f s h. function-short (SlotsStand slots) f s h;
  imports = λ name d. omega (arith, described-under name d);
  exports = λ name d. omega (arith, described-under name d);
  aliases = λ k name. omega (arith, u32-short k, name-short name, length-append (u32_bytes k) (name_bytes name));
  outer_aliases = λ k n. omega (arith, u32-short k, u32-short n, length-append (u32_bytes k) (u32_bytes n));
}

-- ---- what types and functions weigh

labels-light : (ts : List Text) → labels_extent ts ≤ sum_by named-unit ts
labels-light [] = omega arith
labels-light (t ∷ ts) = omega (arith, labels-light ts, next-label t ts, sum_by-cons named-unit t ts, sum_by-cons length t [])

light : (ts : List Tree) (k : TypeDefKind) → ((t : ValueType) → k ≡ kind.Type_ t → tree_extent (tree_of ts t) ≡ 16) → tree_extent (tree_of_declaration (declared_by ts k)) ≤ 16 + members-weight k
light ts (kind.Record x) alias =
    let same = ap labels_extent (map-twice (λ (f : Text × Tree). f.0) (λ f. (text_of f.name, tree_of ts f.ty)) x.fields.items) in
    omega (arith, labels-light (map (λ f. text_of f.name) x.fields.items))
light ts (kind.Variant x) alias =
    let first = ap labels_extent (map-twice (λ (c : Text × Bool). c.0) (λ (c : Text × Option Tree). (c.0, is_given c.1)) (map (λ c. (text_of c.name, option_map (tree_of ts) c.ty)) x.cases.items)) in
    let second = ap labels_extent (map-twice (λ (c : Text × Option Tree). c.0) (λ c. (text_of c.name, option_map (tree_of ts) c.ty)) x.cases.items) in
    omega (arith, labels-light (map (λ c. text_of c.name) x.cases.items))
light ts (kind.Flags x) alias = let low = labels-light (map (λ f. text_of f.name) x.flags.items) in omega arith
light ts (kind.Enum x) alias = let low = labels-light (map (λ c. text_of c.name) x.cases.items) in omega arith
light ts (kind.Tuple x) alias =
    let same : length (child_list (children (map (tree_of ts) x.types.items))) ≡ length (map (tree_of ts) x.types.items) = ap length (listed (map (tree_of ts) x.types.items)) in
    let b : length (members_of (kind.Tuple x)) ≡ length x.types.items = length-map x.types.items (λ t. []) in
    omega (arith, length-map x.types.items (tree_of ts), b, as-many (members_of (kind.Tuple x)))
light ts (kind.Handle (handle.Own id)) alias = omega arith
light ts (kind.Type_ t) alias = let h = alias t refl in omega arith
light ts _ alias = omega arith

module _ (r : Resolve) (v : IsValid r) where
  alias-short : (n : ℕ) (def : TypeDef) → type_at r n ≡ Some def → (t : ValueType) → def.kind ≡ kind.Type_ t → tree_extent (tree_of (trees_of r) t) ≡ 16
  alias-short n def at (ty.Id id) e = alias-is r v tree_extent 16 (λ p name. refl) n def at id e
  alias-short n def at _ e = refl

  kind-light : (n : ℕ) (def : TypeDef) → type_at r n ≡ Some def → tree_extent (kind_tree r def.kind) ≤ 16 + members-weight def.kind
  kind-light n def at = light (trees_of r) def.kind (alias-short n def at)

pub given-texts : (t : Option Text) → sum_by length (option_to_list t) ≡ given_length t
given-texts x = search std_rules

pub types-light : TypesAreLight
types-light r n def v at = by-name def.name refl
  where
    texts-are : definition_weight def ≡ (64 + (sum_by length (name_texts def) + given_length (optional_text def.external_id))) + members-weight def.kind
    texts-are = omega (arith, sum_by-append length (name_texts def) (option_to_list (optional_text def.external_id)), given-texts (optional_text def.external_id))

    by-name : (name : Option (String Global)) → def.name ≡ name → tree_extent (kind_tree r def.kind) + own_name_extent r def ≤ definition_weight def
    by-name None e =
        let none : own_name_extent r def ≡ 0 = ap (λ (o : Option (String Global)). option_map_or (λ name. name_extent (exported_name (text_of name, type_meaning r def))) o 0) e in
        omega (arith, kind-light r v n def at, texts-are)
    by-name (Some name) e =
        let kind = kind-light r v n def at in
        let own : own_name_extent r def ≡ 40 + (length (text_of name) + (0 + (0 + given_length (optional_text def.external_id)))) =
        ap (λ (o : Option (String Global)). option_map_or (λ name. name_extent (exported_name (text_of name, type_meaning r def))) o 0) e in
        omega (arith, ap (λ (o : Option (String Global)). sum_by length (option_to_list (optional_text o))) e ∙ given-texts (Some (text_of name)), texts-are)

params-light : (ps : List Param) → labels_extent (map (λ p. text_of p.name) ps) ≤ sum_by (λ p. unit_of (text_of p.name ∷ [])) ps
params-light [] = omega arith
params-light (p ∷ ps) =
    let next = next-label (text_of p.name) (map (λ (p : Param). text_of p.name) ps) in
    omega (arith, params-light ps, sum_by-cons (λ (p : Param). unit_of (text_of p.name ∷ [])) p ps, sum_by-cons length (text_of p.name) [])

pub functions-light : FunctionsAreLight
functions-light r f =
    let same = ap labels_extent (map-twice (λ (p : Text × Tree). p.0) (λ p. (text_of p.name, tree_of (trees_of r) p.ty)) f.params.items) in
    let params = params-light f.params.items in
    omega (arith, sum_by-cons length (text_of f.name) (option_to_list (optional_text f.external_id)), given-texts (optional_text f.external_id))
