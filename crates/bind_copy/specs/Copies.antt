-- What is copied under new numbers.
use Rattle.std.specs.Prelude.{◌≡◌, ◌<◌, ◌++◌, ◌==◌, ℕ, Bool, true, false, not, nat_lt, List, [], ◌∷◌, length, map, Option, option_map, slice_get, unwrap_or, String}
use Rattle.std.specs.{List.filter, List.list_all, List.list_any, List.AllZip, List.IsDistinct, Map.keys_of, String.string_eq}
use Rattle.indexmap.specs.IndexMap.{IsUnique}
use Rattle.std.specs.declared.alloc.Global.{Global}
use Rattle.wit_model.specs.declared.model.{Field.Field, Case.Case, Flag.Flag, Param.Param, WorldKey.WorldKey}
use Rattle.wit_model.specs.declared.model.{EnumCase.EnumCase, Function.Function, TypeId.TypeId, PackageId.PackageId, TypeOwner.TypeOwner, WorldItem.WorldItem}
use Rattle.wit_model.specs.declared.model.{«Type».«Type» as ValueType, FunctionKind.FunctionKind, Interface.Interface, TypeDef.TypeDef, TypeDefKind.TypeDefKind}
use Rattle.wit_model.specs.Text.{Text, optional_text, text_eq, text_of}
use Rattle.bind_union.specs.{Carried.stability_view, Views.kind_view, Views.optional_numbers, Views.renamed, Views.renamed_type, Views.type_numbers}
use Rattle.wit_model.specs.declared.model.FunctionKind.TheVariants as call
use Rattle.wit_model.specs.declared.model.TypeDefKind.TheVariants as kind
use Rattle.wit_model.specs.declared.model.WorldItem.TheVariants as item
use Rattle.wit_model.specs.declared.model.WorldKey.TheVariants as key

-- the new number of a number
abbrev pub number_under : List ℕ → ℕ → ℕ
number_under numbers n = unwrap_or (slice_get numbers n) 0

-- fields by their labels and types
abbrev pub fields_of : List Field → List (Text × ValueType)
fields_of fields = map (λ f. (text_of f.name, f.ty)) fields

-- the same with the types under their new numbers
abbrev pub fields_under : List ℕ → List Field → List (Text × ValueType)
fields_under numbers fields = map (λ x. (x.0, renamed_type (number_under numbers) x.1)) (fields_of fields)

abbrev pub cases_of : List Case → List (Text × Option ValueType)
cases_of cases = map (λ c. (text_of c.name, c.ty)) cases

abbrev pub cases_under : List ℕ → List Case → List (Text × Option ValueType)
cases_under numbers cases = map (λ x. (x.0, option_map (renamed_type (number_under numbers)) x.1)) (cases_of cases)

abbrev pub flag_names : List Flag → List Text
flag_names flags = map (λ f. text_of f.name) flags

abbrev pub enum_names : List EnumCase → List Text
enum_names cases = map (λ c. text_of c.name) cases

-- the documentation of each field of a record
abbrev pub field_docs : List Field → List (Option Text)
field_docs fields = map (λ f. optional_text f.docs.contents) fields

-- the documentation of each case of a variant
abbrev pub case_docs : List Case → List (Option Text)
case_docs cases = map (λ c. optional_text c.docs.contents) cases

-- the documentation of each flag
abbrev pub flag_docs : List Flag → List (Option Text)
flag_docs flags = map (λ f. optional_text f.docs.contents) flags

-- the documentation of each case of an enum
abbrev pub enum_docs : List EnumCase → List (Option Text)
enum_docs cases = map (λ c. optional_text c.docs.contents) cases

-- the documentation of each field, case or flag of a kind
abbrev pub member_docs : TypeDefKind → List (Option Text)
member_docs (kind.Record record_) = field_docs record_.fields.items
member_docs (kind.Variant variant) = case_docs variant.cases.items
member_docs (kind.Flags flags) = flag_docs flags.flags.items
member_docs (kind.Enum enum) = enum_docs enum.cases.items
member_docs _ = []

-- ---- functions

-- the resource that a function is of, under its new number
abbrev pub call_under : (ℕ → ℕ) → FunctionKind → FunctionKind
call_under f call.Freestanding = call.Freestanding
call_under f call.AsyncFreestanding = call.AsyncFreestanding
call_under f (call.Method id) = call.Method (record { 0 = f id.0 })
call_under f (call.AsyncMethod id) = call.AsyncMethod (record { 0 = f id.0 })
call_under f (call.Static id) = call.Static (record { 0 = f id.0 })
call_under f (call.AsyncStatic id) = call.AsyncStatic (record { 0 = f id.0 })
call_under f (call.Constructor id) = call.Constructor (record { 0 = f id.0 })

-- the number of that resource
abbrev pub call_numbers : FunctionKind → List ℕ
call_numbers call.Freestanding = []
call_numbers call.AsyncFreestanding = []
call_numbers (call.Method id) = id.0 ∷ []
call_numbers (call.AsyncMethod id) = id.0 ∷ []
call_numbers (call.Static id) = id.0 ∷ []
call_numbers (call.AsyncStatic id) = id.0 ∷ []
call_numbers (call.Constructor id) = id.0 ∷ []

abbrev pub params_of : List Param → List (Text × ValueType)
params_of params = map (λ p. (text_of p.name, p.ty)) params

abbrev pub params_under : List ℕ → List Param → List (Text × ValueType)
params_under numbers params = map (λ x. (x.0, renamed_type (number_under numbers) x.1)) (params_of params)

-- a parameter whose type has its new number
abbrev pub IsParamUnder : List ℕ → Param → Param → Type 0
IsParamUnder numbers old new = (text_of new.name ≡ text_of old.name) × (new.ty ≡ renamed_type (number_under numbers) old.ty)

-- every number is below so many
abbrev pub all_below : ℕ → List ℕ → Bool
all_below count numbers = list_all (λ n. nat_lt n count) numbers

-- all types that parameters name
abbrev pub are_params_below : ℕ → List Param → Bool
are_params_below count params = list_all (λ p. all_below count (type_numbers p.ty)) params

-- all types that a function names are below so many
pub record IsFunctionBelow (count : ℕ) (f : Function) : Type 0 where
  pub kind : all_below count (call_numbers f.kind) ≡ true
  pub params : are_params_below count f.params.items ≡ true
  pub result : all_below count (optional_numbers f.result) ≡ true

-- A function under new numbers, with its documentation.
pub record IsFunctionUnder (numbers : List ℕ) (old new : Function) : Type 0 where
  pub name : text_of new.name ≡ text_of old.name
  pub kind : new.kind ≡ call_under (number_under numbers) old.kind
  pub params : params_of new.params.items ≡ params_under numbers old.params.items
  pub result : new.result ≡ option_map (renamed_type (number_under numbers)) old.result
  pub docs : optional_text new.docs.contents ≡ optional_text old.docs.contents
  pub stability : stability_view new.stability ≡ stability_view old.stability
  pub external_id : optional_text new.external_id ≡ optional_text old.external_id

-- ---- types

-- all types that fields name are below so many
abbrev pub are_fields_below : ℕ → List Field → Bool
are_fields_below count fields = list_all (λ f. all_below count (type_numbers f.ty)) fields

-- all types that cases name
abbrev pub are_cases_below : ℕ → List Case → Bool
are_cases_below count cases = list_all (λ c. all_below count (optional_numbers c.ty)) cases

-- all types of a list
abbrev pub are_parts_below : ℕ → List ValueType → Bool
are_parts_below count types = list_all (λ t. all_below count (type_numbers t)) types

-- a field whose type has its new number, with its documentation
abbrev pub IsFieldUnder : List ℕ → Field → Field → Type 0
IsFieldUnder numbers old new = (text_of new.name ≡ text_of old.name) × ((new.ty ≡ renamed_type (number_under numbers) old.ty)
    × (optional_text new.docs.contents ≡ optional_text old.docs.contents))

-- a case whose type has its new number, with its documentation
abbrev pub IsCaseUnder : List ℕ → Case → Case → Type 0
IsCaseUnder numbers old new = (text_of new.name ≡ text_of old.name) × ((new.ty ≡ option_map (renamed_type (number_under numbers)) old.ty)
    × (optional_text new.docs.contents ≡ optional_text old.docs.contents))

-- a type under its new number
abbrev pub IsPartUnder : List ℕ → ValueType → ValueType → Type 0
IsPartUnder numbers old new = new ≡ renamed_type (number_under numbers) old

-- A type under new numbers, for an owner.
pub record IsTypeUnder (numbers : List ℕ) (home : TypeOwner) (old new : TypeDef) : Type 0 where
  pub name : optional_text new.name ≡ optional_text old.name
  pub kind : kind_view new.kind ≡ renamed (number_under numbers) (kind_view old.kind)
  pub of_members : member_docs new.kind ≡ member_docs old.kind
  pub in_owner : new.owner ≡ home
  pub docs : optional_text new.docs.contents ≡ optional_text old.docs.contents
  pub stability : stability_view new.stability ≡ stability_view old.stability
  pub external_id : optional_text new.external_id ≡ optional_text old.external_id

-- ---- interfaces

-- the names of entries
abbrev pub names_in : {X : Type 0} → List (String Global × X) → List Text
names_in es = map (λ e. text_of e.0) es

-- types by their names and numbers
abbrev pub type_names : List (String Global × TypeId) → List (Text × ℕ)
type_names es = map (λ e. (text_of e.0, e.1.0)) es

abbrev pub type_names_under : List ℕ → List (String Global × TypeId) → List (Text × ℕ)
type_names_under numbers es = map (λ e. (text_of e.0, number_under numbers e.1.0)) es

abbrev pub are_names_below : ℕ → List (String Global × TypeId) → Bool
are_names_below count es = list_all (λ e. nat_lt e.1.0 count) es

-- a name with the type of its new number
abbrev pub IsTypeEntry : List ℕ → String Global × TypeId → String Global × TypeId → Type 0
IsTypeEntry numbers old new = (text_of new.0 ≡ text_of old.0) × (new.1.0 ≡ number_under numbers old.1.0)

abbrev pub IsFunctionEntry : List ℕ → String Global × Function → String Global × Function → Type 0
IsFunctionEntry numbers old new = (text_of new.0 ≡ text_of old.0) × IsFunctionUnder numbers old.1 new.1

-- Of a list's entries, those in front of the rest that pass a test are copied.
abbrev pub CopiedSoFar : {K V : Type 0} → (K × V → K × V → Type 0) → (K × V → Bool) → List (K × V) → List (K × V) → List (K × V) → Type 0
CopiedSoFar {K} {V} R p whole rest done = (front : List (K × V)) × (front ++ rest ≡ whole) × AllZip R (filter p front) done

-- Of a list's items so many have been given new values where they stand, and those that are left are as they were.
pub record AreWrittenSoFar {X : Type 0} (R : X → X → Type 0) (Left : List X → Type 0) (old now : List X) (place : ℕ) : Type 0 where
  pub front : List X
  pub rest : List X
  pub done : List X
  pub were : old ≡ front ++ rest
  pub are : now ≡ done ++ rest
  pub each : AllZip R front done
  pub count : length done ≡ place
  pub left : Left rest

-- An interface under new numbers, in a package. No name stands twice in what it is made of, as reading it shows.
pub record IsInterfaceUnder (numbers : List ℕ) (home : Option PackageId) (old new : Interface) : Type 0 where
  pub name : optional_text new.name ≡ optional_text old.name
  pub types : IsUnique string_eq old.types → type_names new.types.entries ≡ type_names_under numbers old.types.entries
  pub functions : IsUnique string_eq old.functions → AllZip (IsFunctionEntry numbers) old.functions.entries new.functions.entries
  pub docs : optional_text new.docs.contents ≡ optional_text old.docs.contents
  pub stability : stability_view new.stability ≡ stability_view old.stability
  pub in_package : new.«package» ≡ home

-- all types that functions name are below so many
abbrev pub AreFunctionsBelow : ℕ → List (String Global × Function) → Type 0
AreFunctionsBelow count [] = Unit {0}
AreFunctionsBelow count (e ∷ es) = IsFunctionBelow count e.1 × AreFunctionsBelow count es

-- ---- items

-- a key with the interface of its new number
abbrev pub IsKeyUnder : List ℕ → WorldKey → WorldKey → Type 0
IsKeyUnder numbers (key.Name old) (key.Name new) = text_of new ≡ text_of old
IsKeyUnder numbers (key.Interface old) (key.Interface new) = new.0 ≡ number_under numbers old.0
IsKeyUnder numbers _ _ = ⊥

-- the number of the interface that a key is
abbrev pub key_numbers : WorldKey → List ℕ
key_numbers (key.Name name) = []
key_numbers (key.Interface id) = id.0 ∷ []

-- an item with the interface, the types of its function or the type of its new number
abbrev pub IsItemUnder : List ℕ → List ℕ → WorldItem → WorldItem → Type 0
IsItemUnder interfaces types (item.Interface old old_stability old_docs old_external) (item.Interface new new_stability new_docs new_external) =
    (new.0 ≡ number_under interfaces old.0) × (stability_view new_stability ≡ stability_view old_stability)
    × (optional_text new_docs.contents ≡ optional_text old_docs.contents) × (optional_text new_external ≡ optional_text old_external)
IsItemUnder interfaces types (item.Function old) (item.Function new) = IsFunctionUnder types old new
IsItemUnder interfaces types (item.Type_ old) (item.Type_ new) = new.0 ≡ number_under types old.0
IsItemUnder interfaces types _ _ = ⊥

-- the interface or the types that an item names are below so many
abbrev pub IsItemBelow : ℕ → ℕ → WorldItem → Type 0
IsItemBelow interfaces types (item.Interface id stability docs external_id) = id.0 < interfaces
IsItemBelow interfaces types (item.Function f) = IsFunctionBelow types f
IsItemBelow interfaces types (item.Type_ id) = id.0 < types

-- the same of all entries of a list
abbrev pub AreEntriesBelow : ℕ → ℕ → List (WorldKey × WorldItem) → Type 0
AreEntriesBelow interfaces types [] = Unit {0}
AreEntriesBelow interfaces types (e ∷ es) = (all_below interfaces (key_numbers e.0) ≡ true)
    × (IsItemBelow interfaces types e.1 × AreEntriesBelow interfaces types es)

-- an entry under new numbers
abbrev pub IsEntryUnder : List ℕ → List ℕ → WorldKey × WorldItem → WorldKey × WorldItem → Type 0
IsEntryUnder interfaces types old new = IsKeyUnder interfaces old.0 new.0 × IsItemUnder interfaces types old.1 new.1

-- whether a key under its new number is the other one
abbrev pub is_key_under : List ℕ → WorldKey → WorldKey → Bool
is_key_under numbers (key.Name old) (key.Name new) = text_eq (text_of old) (text_of new)
is_key_under numbers (key.Interface old) (key.Interface new) = number_under numbers old.0 == new.0
is_key_under numbers _ _ = false

-- whether no entry has the key under its new number
abbrev pub is_new_under : List ℕ → List (WorldKey × WorldItem) → WorldKey → Bool
is_new_under numbers here k = not (list_any (λ (e : WorldKey × WorldItem). is_key_under numbers k e.0) here)

-- whether two keys are one under their new numbers
abbrev pub become_one : List ℕ → WorldKey → WorldKey → Bool
become_one numbers (key.Name a) (key.Name b) = text_eq (text_of a) (text_of b)
become_one numbers (key.Interface a) (key.Interface b) = number_under numbers b.0 == number_under numbers a.0
become_one numbers _ _ = false

-- Of items whose keys stay apart, those whose keys have no item here are copied, in their order.
abbrev pub AreNewCopied : List ℕ → List ℕ → List (WorldKey × WorldItem) → List (WorldKey × WorldItem) → List (WorldKey × WorldItem) → Type 0
AreNewCopied interfaces types here olds news =
    IsDistinct (become_one interfaces) (keys_of olds) → AllZip (IsEntryUnder interfaces types)
    (filter (λ (e : WorldKey × WorldItem). is_new_under interfaces here e.0) olds) news
