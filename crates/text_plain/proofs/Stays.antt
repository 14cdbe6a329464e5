-- Trees with their own names are as they were.
use Rattle.std.proofs.Common.{◌≡◌, refl, ap, ap₂, List, [], ◌∷◌, map, Option, None, Some, option_map}
use Rattle.wit_model.specs.Text.{Text}
use Rattle.print_grammar.specs.Tree.{TypeTree, TypeTrees, ParamTree, FieldTree, CaseTree, SignatureTree, ResourceMember, Declared}
use Rattle.print_grammar.specs.Tree.TypeTree.{PrimitiveType, Name, Handle, Own, Borrow, TupleOf, OptionOf, ListOf, FixedListOf, MapOf, Result, ResultOk, ResultErr, ResultOf, Future, FutureOf, Stream, StreamOf}
use Rattle.print_grammar.specs.Tree.{TypeTrees.NoTypes, TypeTrees.AndTypes}
use Rattle.print_grammar.specs.Tree.{ResourceMember.Constructor, ResourceMember.Method, ResourceMember.Static}
use Rattle.print_grammar.specs.Tree.Declared.{RecordOf, VariantOf, FlagsOf, EnumOf, AliasOf, ResourceOf}
use Rattle.text_plain.specs.Moved.{moved_type, moved_types, moved_param, moved_signature, moved_field, moved_case, moved_resource_member, moved_declared}

abbrev own : Text → Text
own name = name

each_stays : {X : Type 0} (f : X → X) → ((x : X) → f x ≡ x) → (xs : List X) → map f xs ≡ xs
each_stays f same [] = refl
each_stays f same (x ∷ xs) = ap₂ (λ y ys. y ∷ ys) (same x) (each_stays f same xs)

if_there_stays : {X : Type 0} (f : X → X) → ((x : X) → f x ≡ x) → (o : Option X) → option_map f o ≡ o
if_there_stays f same None = refl
if_there_stays f same (Some x) = ap Some (same x)

mutual
  type_stays : (ty : TypeTree) → moved_type own ty ≡ ty
  type_stays (PrimitiveType p) = refl
  type_stays (Name name) = refl
  type_stays (Handle resource) = refl
  type_stays (Own resource) = refl
  type_stays (Borrow resource) = refl
  type_stays (TupleOf types) = ap TupleOf (types_stay types)
  type_stays (OptionOf ty) = ap OptionOf (type_stays ty)
  type_stays (ListOf ty) = ap ListOf (type_stays ty)
  type_stays (FixedListOf ty length) = ap (λ t. FixedListOf t length) (type_stays ty)
  type_stays (MapOf key value) = ap₂ MapOf (type_stays key) (type_stays value)
  type_stays Result = refl
  type_stays (ResultOk ok) = ap ResultOk (type_stays ok)
  type_stays (ResultErr err) = ap ResultErr (type_stays err)
  type_stays (ResultOf ok err) = ap₂ ResultOf (type_stays ok) (type_stays err)
  type_stays Future = refl
  type_stays (FutureOf ty) = ap FutureOf (type_stays ty)
  type_stays Stream = refl
  type_stays (StreamOf ty) = ap StreamOf (type_stays ty)

  types_stay : (types : TypeTrees) → moved_types own types ≡ types
  types_stay NoTypes = refl
  types_stay (AndTypes ty types) = ap₂ AndTypes (type_stays ty) (types_stay types)

param_stays : (param : ParamTree) → moved_param own param ≡ param
param_stays param = ap (λ t. record param { ty = t }) (type_stays param.ty)

pub signature_stays : (s : SignatureTree) → moved_signature own s ≡ s
signature_stays s = ap₂ (λ params result. record s { params = params; result = result }) (each_stays (moved_param own) param_stays s.params)
    (if_there_stays (moved_type own) type_stays s.result)

field_stays : (field : FieldTree) → moved_field own field ≡ field
field_stays field = ap (λ t. record field { ty = t }) (type_stays field.ty)

case_stays : (c : CaseTree) → moved_case own c ≡ c
case_stays c = ap (λ t. record c { payload = t }) (if_there_stays (moved_type own) type_stays c.payload)

resource_member_stays : (member : ResourceMember) → moved_resource_member own member ≡ member
resource_member_stays (Constructor prefix params result) = ap₂ (Constructor prefix) (each_stays (moved_param own) param_stays params)
    (if_there_stays (moved_type own) type_stays result)
resource_member_stays (Method prefix name s) = ap (Method prefix name) (signature_stays s)
resource_member_stays (Static prefix name s) = ap (Static prefix name) (signature_stays s)

pub declared_stays : (declared : Declared) → moved_declared own declared ≡ declared
declared_stays (RecordOf name fields) = ap (RecordOf name) (each_stays (moved_field own) field_stays fields)
declared_stays (VariantOf name cases) = ap (VariantOf name) (each_stays (moved_case own) case_stays cases)
declared_stays (FlagsOf name flags) = refl
declared_stays (EnumOf name cases) = refl
declared_stays (AliasOf name ty) = ap (AliasOf name) (type_stays ty)
declared_stays (ResourceOf name members) = ap (ResourceOf name) (each_stays (moved_resource_member own) resource_member_stays members)
