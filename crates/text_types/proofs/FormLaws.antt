-- What trees of types are, by what is met of them. Serves lowering.
use Rattle.std.proofs.Common.{◌≡◌, ◌∙◌, sym, ap, subst, refl, List, [], ◌∷◌, ◌++◌, length, take}
use Rattle.std.proofs.Common.{get_or, ℕ, ◌<◌, ◌+◌, Result, Ok, Err, IfOk, Option, Some, None, option_map}
use Rattle.std.proofs.lemmas.List.{take_more}
use Rattle.wit_model.specs.declared.model.{TypeDef.TypeDef, TypeDefKind.TypeDefKind, TypeId.TypeId, TypeOwner.TypeOwner, «Type».«Type» as ValueType}
use Rattle.wit_model.specs.declared.model.«Type».TheVariants as value
use Rattle.wit_model.specs.declared.model.TypeDefKind.TheVariants as defined
use Rattle.wit_model.specs.declared.model.Handle.TheVariants as handle
use Rattle.print_grammar.specs.Keyword.{PrimitiveName}
use Rattle.print_grammar.specs.Tree.{TypeTree, TypeTrees.NoTypes}
use Rattle.wit_model.specs.Text.{Text}
use Rattle.text_trees.specs.declared.tree.TypeTree.{TypeTree as CodeTree}
use Rattle.text_trees.specs.TreesSeen.{type_of}
use Rattle.text_types.specs.declared.types.Types.{Types}
use Rattle.text_types.specs.declared.lowering.Form.{Form}
use Rattle.text_types.specs.declared.lowering.Form.TheVariants as form
use Rattle.text_types.specs.{Each.MaybeIs, Forms.IsForm, Forms.types_seen, Kept.defs_of, Kept.Grows, Kept.IsUnnamed}
use Rattle.text_types.specs.Plain.{plain_type, plain_types, plain_alias}
use Rattle.text_types.specs.Stands.{NameAt, OwnNameAt, Stands, FormIs, StandAll, KindIs, value_of}
use Rattle.text_types.specs.Declares.{OwnedAt, OwnTarget}
use Rattle.text_types.proofs.Growth.{name_on, form_on, all_on}

-- ---- from trees of the code

pub seen_as : {defs : List TypeDef} {owner : TypeOwner} {tree t : TypeTree} {f : Form} → tree ≡ t → IsForm defs owner t f → IsForm defs owner tree f
seen_as {defs = defs} {owner = owner} {f = f} e k = subst (λ t. IsForm defs owner t f) (sym e) k

pub seen : {defs : List TypeDef} {owner : TypeOwner} (text : Text) {tree t : CodeTree} {f : Form} → tree ≡ t → IsForm defs owner (type_of text t) f
    → IsForm defs owner (type_of text tree) f
seen {defs = defs} {owner = owner} text {f = f} e k = subst (λ t. IsForm defs owner (type_of text t) f) (sym e) k

pub form_along : {defs : List TypeDef} {owner : TypeOwner} {tree : TypeTree} {f g : Form} → f ≡ g → IsForm defs owner tree g → IsForm defs owner tree f
form_along {defs = defs} {owner = owner} {tree = tree} e k = subst (λ f. IsForm defs owner tree f) (sym e) k

pub along : {defs : List TypeDef} (text : Text) {t u : CodeTree} {ty : ValueType} → t ≡ u → Stands defs (plain_type (type_of text t)) ty
    → Stands defs (plain_type (type_of text u)) ty
along {defs = defs} text {ty = ty} e k = subst (λ t. Stands defs (plain_type (type_of text t)) ty) e k

pub map_along : {defs : List TypeDef} (text : Text) {j k u v : CodeTree} {kind : TypeDefKind} → j ≡ k → u ≡ v
    → FormIs defs (TypeTree.MapOf (plain_type (type_of text j)) (plain_type (type_of text u))) kind
    → FormIs defs (TypeTree.MapOf (plain_type (type_of text k)) (plain_type (type_of text v))) kind
map_along {defs = defs} text {kind = kind} e f m = subst (λ t. FormIs defs t kind) (λ i. TypeTree.MapOf (plain_type (type_of text (e i))) (plain_type
    (type_of text (f i)))) m

pub all_along : {defs : List TypeDef} (text : Text) {ts us : List CodeTree} {types : List ValueType} → ts ≡ us
    → StandAll defs (plain_types (types_seen text ts)) types
    → StandAll defs (plain_types (types_seen text us)) types
all_along {defs = defs} text {types = types} e k = subst (λ t. StandAll defs (plain_types (types_seen text t)) types) e k

-- ---- of a tuple

push_one : {defs : List TypeDef} (text : Text) (ts : List CodeTree) (t : CodeTree) {types : List ValueType} {ty : ValueType}
    → StandAll defs (plain_types (types_seen text ts)) types
    → Stands defs (plain_type (type_of text t)) ty → StandAll defs (plain_types (types_seen text (ts ++ t ∷ []))) (types ++ ty ∷ [])
push_one text [] t StandAll.none k = StandAll.one_more k StandAll.none
push_one text (u ∷ us) t (StandAll.one_more h hs) k = StandAll.one_more h (push_one text us t hs k)

pub all_none : {defs : List TypeDef} {types : List ValueType} → types ≡ [] → StandAll defs NoTypes types
all_none {defs = defs} e = subst (StandAll defs NoTypes) (sym e) StandAll.none

-- one more type of a tuple
pub all_more : {a b : Types} (text : Text) (trees : List CodeTree) (i : ℕ) (t : CodeTree) {types all : List ValueType} {ty : ValueType} → Grows a b
    → StandAll (defs_of a) (plain_types (types_seen text (take i trees))) types → i < length trees → t ≡ get_or trees i t
    → Stands (defs_of b) (plain_type (type_of text t)) ty → all ≡ types ++ ty ∷ []
    → StandAll (defs_of b) (plain_types (types_seen text (take (i + 1) trees))) all
all_more {b = b} text trees i t {types = types} {all = all} {ty = ty} g h within is k e =
    let one = push_one text (take i trees) t (all_on g h) k in
    let more : take i trees ++ t ∷ [] ≡ take (i + 1) trees = ap (λ x. take i trees ++ x ∷ []) is ∙ sym (take_more trees i t within) in
    subst (StandAll (defs_of b) (plain_types (types_seen text (take (i + 1) trees)))) (sym e)
    (subst (λ ts. StandAll (defs_of b) (plain_types (types_seen text ts)) (types ++ ty ∷ [])) more one)

-- ---- where they are used

pub from_plain : {defs : List TypeDef} {owner : TypeOwner} {tree : TypeTree} {f : Form} {ty : ValueType} → IsForm defs owner tree f → f ≡ form.Plain ty
    → Stands defs (plain_type tree) ty
from_plain {defs = defs} (IsForm.plain p) e = subst (Stands defs (TypeTree.PrimitiveType p)) (cc e) (Stands.a_primitive p)
from_plain (IsForm.a_name k) e = absurd (cc e)
from_plain (IsForm.own k) e = absurd (cc e)
from_plain (IsForm.a_kind k s) e = absurd (cc e)

-- the name of a type
pub name_of_form : {defs : List TypeDef} {owner : TypeOwner} {tree : TypeTree} {f : Form} {id : TypeId} → IsForm defs owner tree f → f ≡ form.Name id
    → record { name : Text; is : tree ≡ TypeTree.Name name; there : OwnNameAt defs owner id name }
name_of_form (IsForm.plain p) e = absurd (cc e)
name_of_form {defs = defs} {owner = owner} {id = id} (IsForm.a_name {id = own} {name = n} k) e = record {
  name = n;
  is = refl;
  there = (let same : own ≡ id = cc e in subst
      (λ i. OwnNameAt defs owner i n) same k);
}
name_of_form (IsForm.own k) e = absurd (cc e)
name_of_form (IsForm.a_kind k s) e = absurd (cc e)

pub own_of_form : {defs : List TypeDef} {owner : TypeOwner} {tree : TypeTree} {f : Form} {id : TypeId} → IsForm defs owner tree f → f ≡ form.Own id
    → record { name : Text; is : tree ≡ TypeTree.Own name; there : NameAt defs id name }
own_of_form (IsForm.plain p) e = absurd (cc e)
own_of_form (IsForm.a_name k) e = absurd (cc e)
own_of_form {defs = defs} {id = id} (IsForm.own {id = own} {name = n} k) e = record {
  name = n;
  is = refl;
  there = (let same : own ≡ id = cc e in subst
      (λ i. NameAt defs i n) same k);
}
own_of_form (IsForm.a_kind k s) e = absurd (cc e)

pub kind_of_form : {defs : List TypeDef} {owner : TypeOwner} {tree : TypeTree} {f : Form} {kind : TypeDefKind} → IsForm defs owner tree f → f ≡ form.Kind kind
    → record { is : FormIs defs (plain_type tree) kind; plain : plain_alias tree ≡ plain_type tree }
kind_of_form (IsForm.plain p) e = absurd (cc e)
kind_of_form (IsForm.a_name k) e = absurd (cc e)
kind_of_form (IsForm.own k) e = absurd (cc e)
kind_of_form {defs = defs} {kind = kind} (IsForm.a_kind {tree = tree} {kind = own} k s) e = record {
  is = (let same : own ≡ kind = cc e in subst
      (FormIs defs (plain_type tree)) same k);
  plain = s;
}

pub from_name : {defs : List TypeDef} {owner : TypeOwner} {tree : TypeTree} {f : Form} {id : TypeId} → IsForm defs owner tree f → f ≡ form.Name id
    → Stands defs (plain_type tree) (value.Id id)
from_name {defs = defs} {id = id} k e = let n = name_of_form k e in subst (λ t. Stands defs (plain_type t) (value.Id id)) (sym n.is) (Stands.a_name n.there.is)

-- ---- where they get a name

pub kind_plain : {defs : List TypeDef} {owner : TypeOwner} {tree : TypeTree} {f : Form} {ty : ValueType} → IsForm defs owner tree f → f ≡ form.Plain ty
    → KindIs defs (plain_alias tree) (defined.Type_ ty)
kind_plain {defs = defs} (IsForm.plain p) e = subst (λ ty. KindIs defs (TypeTree.PrimitiveType p) (defined.Type_ ty)) (cc e) (KindIs.another_primitive p)
kind_plain (IsForm.a_name k) e = absurd (cc e)
kind_plain (IsForm.own k) e = absurd (cc e)
kind_plain (IsForm.a_kind k s) e = absurd (cc e)

pub kind_name : {defs : List TypeDef} {owner : TypeOwner} {tree : TypeTree} {f : Form} {id : TypeId} → IsForm defs owner tree f → f ≡ form.Name id
    → KindIs defs (plain_alias tree) (defined.Type_ (value.Id id))
kind_name {defs = defs} {id = id} k e = let n = name_of_form k e in subst (λ t. KindIs defs (plain_alias t) (defined.Type_ (value.Id id))) (sym n.is)
    (KindIs.another_name n.there.is)

pub kind_own : {defs : List TypeDef} {owner : TypeOwner} {tree : TypeTree} {f : Form} {id : TypeId} → IsForm defs owner tree f → f ≡ form.Own id
    → KindIs defs (plain_alias tree) (defined.Handle (handle.Own id))
kind_own {defs = defs} {id = id} k e = let n = own_of_form k e in subst (λ t. KindIs defs (plain_alias t) (defined.Handle (handle.Own id))) (sym n.is)
    (KindIs.a_named_own n.there)

pub kind_kind : {defs : List TypeDef} {owner : TypeOwner} {tree : TypeTree} {f : Form} {kind : TypeDefKind} → IsForm defs owner tree f → f ≡ form.Kind kind
    → KindIs defs (plain_alias tree) kind
kind_kind {defs = defs} {kind = kind} k e = let n = kind_of_form k e in subst (λ t. KindIs defs t kind) (sym n.plain) (KindIs.a_form n.is)

-- ---- where a name leads to

primitive_apart : (p : PrimitiveName) (id : TypeId) → value_of p ≡ value.Id id → ⊥
primitive_apart PrimitiveName.Bool_ id e = cc e
primitive_apart PrimitiveName.U8 id e = cc e
primitive_apart PrimitiveName.U16 id e = cc e
primitive_apart PrimitiveName.U32 id e = cc e
primitive_apart PrimitiveName.U64 id e = cc e
primitive_apart PrimitiveName.S8 id e = cc e
primitive_apart PrimitiveName.S16 id e = cc e
primitive_apart PrimitiveName.S32 id e = cc e
primitive_apart PrimitiveName.S64 id e = cc e
primitive_apart PrimitiveName.F32 id e = cc e
primitive_apart PrimitiveName.F64 id e = cc e
primitive_apart PrimitiveName.Char id e = cc e
primitive_apart PrimitiveName.String id e = cc e
primitive_apart PrimitiveName.ErrorContext id e = cc e

form_apart : {defs : List TypeDef} {tree : TypeTree} {kind : TypeDefKind} {ty : ValueType} → FormIs defs tree kind → kind ≡ defined.Type_ ty → ⊥
form_apart (FormIs.a_borrow k) e = cc e
form_apart (FormIs.a_tuple k) e = cc e
form_apart (FormIs.an_option k) e = cc e
form_apart (FormIs.a_list k) e = cc e
form_apart (FormIs.a_fixed_list n k) e = cc e
form_apart (FormIs.a_map k v) e = cc e
form_apart FormIs.a_result e = cc e
form_apart (FormIs.a_result_ok k) e = cc e
form_apart (FormIs.a_result_err k) e = cc e
form_apart (FormIs.a_result_of k v) e = cc e
form_apart FormIs.a_future e = cc e
form_apart (FormIs.a_future_of k) e = cc e
form_apart FormIs.a_stream e = cc e
form_apart (FormIs.a_stream_of k) e = cc e

pub own_plain : {defs : List TypeDef} {owner : TypeOwner} {tree : TypeTree} {f : Form} {ty : ValueType} → IsForm defs owner tree f → f ≡ form.Plain ty
    → OwnTarget defs owner (defined.Type_ ty)
own_plain (IsForm.plain p) e = record { leads = λ target same. absurd (primitive_apart p target (cc (e, same))) }
own_plain (IsForm.a_name k) e = absurd (cc e)
own_plain (IsForm.own k) e = absurd (cc e)
own_plain (IsForm.a_kind k s) e = absurd (cc e)

pub own_name : {defs : List TypeDef} {owner : TypeOwner} {tree : TypeTree} {f : Form} {id : TypeId} → IsForm defs owner tree f → f ≡ form.Name id
    → OwnTarget defs owner (defined.Type_ (value.Id id))
own_name {defs = defs} {owner = owner} {id = id} k e =
    let n = (name_of_form k e).there in
    let it : OwnedAt defs owner id = record { def = n.is.def; there = n.is.there; owned = n.owned } in
    record { leads = λ target same. (let of : id ≡ target = cc same in subst (OwnedAt defs owner) of it) }

pub own_handle : {defs : List TypeDef} {owner : TypeOwner} {id : TypeId} → OwnTarget defs owner (defined.Handle (handle.Own id))
own_handle = record { leads = λ target same. absurd (cc same) }

pub own_kind : {defs : List TypeDef} {owner : TypeOwner} {tree : TypeTree} {f : Form} {kind : TypeDefKind} → IsForm defs owner tree f → f ≡ form.Kind kind
    → OwnTarget defs owner kind
own_kind k e = record { leads = λ target same. absurd (form_apart (kind_of_form k e).is same) }

-- ---- definitions that are added

own_stands : {defs : List TypeDef} {id : TypeId} {name : Text} {ty : ValueType} → NameAt defs id name → IsUnnamed defs (defined.Handle (handle.Own id)) ty
    → Stands defs (TypeTree.Name name) ty
own_stands {defs = defs} {name = name} n u = subst (Stands defs (TypeTree.Name name)) (sym u.is) (Stands.an_own_handle u.there n)

-- a definition that is added for a form stands for it
module _ {a b : Types} {owner : TypeOwner} {tree : TypeTree} {f : Form} {E : Type 0} where
  pub handle_named : {id : TypeId} (r : Result ValueType E) → Grows a b → IsForm (defs_of a) owner tree f → f ≡ form.Name id
      → IfOk r (IsUnnamed (defs_of b) (defined.Handle (handle.Own id)))
      → IfOk r (Stands (defs_of b) (plain_type tree))
  handle_named (Ok ty) g k e u = let n = name_of_form k e in subst (λ t. Stands (defs_of b) (plain_type t) ty) (sym n.is) (own_stands (name_on g n.there.is) u)
  handle_named (Err x) g k e u = tt

  pub handle_own : {id : TypeId} (r : Result ValueType E) → Grows a b → IsForm (defs_of a) owner tree f → f ≡ form.Own id
      → IfOk r (IsUnnamed (defs_of b) (defined.Handle (handle.Own id)))
      → IfOk r (Stands (defs_of b) (plain_type tree))
  handle_own (Ok ty) g k e u = let n = own_of_form k e in subst (λ t. Stands (defs_of b) (plain_type t) ty) (sym n.is) (own_stands (name_on g n.there) u)
  handle_own (Err x) g k e u = tt

  pub added_kind : {kind : TypeDefKind} (r : Result ValueType E) → Grows a b → IsForm (defs_of a) owner tree f → f ≡ form.Kind kind
      → IfOk r (IsUnnamed (defs_of b) kind)
      → IfOk r (Stands (defs_of b) (plain_type tree))
  added_kind (Ok ty) g k e u = let n = kind_of_form k e in subst (Stands (defs_of b) (plain_type tree)) (sym u.is) (Stands.unnamed u.there (form_on g n.is))
  added_kind (Err x) g k e u = tt

pub ruleset kinds_of_forms = (kind_plain, kind_name, kind_own, kind_kind, own_plain, own_name, own_handle, own_kind)

-- ---- where there may be none

pub given_is : {defs : List TypeDef} (text : Text) {tree : Option CodeTree} {t : CodeTree} {ty : ValueType} → tree ≡ Some t
    → Stands defs (plain_type (type_of text t)) ty
    → MaybeIs (Stands defs) (option_map plain_type (option_map (type_of text) tree)) (Some ty)
given_is {defs = defs} text {ty = ty} e k = subst (λ o. MaybeIs (Stands defs) (option_map plain_type (option_map (type_of text) o)) (Some ty)) (sym e)
    (MaybeIs.both k)

pub not_given_is : {defs : List TypeDef} (text : Text) {tree : Option CodeTree} → tree ≡ None
    → MaybeIs (Stands defs) (option_map plain_type (option_map (type_of text) tree)) None
not_given_is {defs = defs} text e = subst (λ o. MaybeIs (Stands defs) (option_map plain_type (option_map (type_of text) o)) None) (sym e) MaybeIs.neither
