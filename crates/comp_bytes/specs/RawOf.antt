-- The raw forms that the values of the code stand for: borrowed and owned texts by their bytes.
use Rattle.std.specs.{Prelude.ℕ, Prelude.List, Prelude.map, Prelude.Option, Prelude.option_map, Borrow.Bor, Cow.cow_str_bytes}
use Rattle.std.specs.declared.{alloc.Global.Global, borrow.CowStr.CowStr}
use Rattle.comp_bytes.specs.declared.forms.{ComponentDefinedType.ComponentDefinedType, ComponentExternName.ComponentExternName, Alias.Alias as BorrowedAlias}
use Rattle.comp_bytes.specs.declared.forms.ComponentFuncType.{ComponentFuncType}
use Rattle.comp_bytes.specs.Raw.{Labeled, DefinedType, FunctionType, Alias, ExternName}
use Rattle.comp_bytes.specs.declared.forms.ComponentDefinedType.TheVariants as forms
use Rattle.comp_bytes.specs.declared.forms.Alias.TheVariants as aliases

-- a label with what stands beside it
abbrev pub with_label : {T : Type 0} → List ℕ → T → Labeled T
with_label label x = record { label = label; type_of = x }

-- a borrowed label with what stands beside it
abbrev pub labeled : {T : Type 0} → Bor (List ℕ) × T → Labeled T
labeled p = with_label p.0.now p.1

-- the bytes of a borrowed text
abbrev pub text_of : Bor (List ℕ) → List ℕ
text_of text = text.now

-- the raw form of a definition
abbrev pub raw_defined : ComponentDefinedType → DefinedType
raw_defined (forms.Primitive p) = DefinedType.primitive p
raw_defined (forms.Record fields) = DefinedType.record_of (map labeled fields.items)
raw_defined (forms.Variant cases) = DefinedType.variant_of (map labeled cases.items)
raw_defined (forms.List v) = DefinedType.list_of v
raw_defined (forms.FixedLengthList v n) = DefinedType.fixed_length_list_of v n
raw_defined (forms.Map k v) = DefinedType.map_of k v
raw_defined (forms.Tuple vs) = DefinedType.tuple_of vs.items
raw_defined (forms.Flags names) = DefinedType.flags_of (map text_of names.items)
raw_defined (forms.Enum names) = DefinedType.enum_of (map text_of names.items)
raw_defined (forms.Option v) = DefinedType.option_of v
raw_defined (forms.Result ok err) = DefinedType.result_of ok err
raw_defined (forms.Own n) = DefinedType.own_of n
raw_defined (forms.Borrow n) = DefinedType.borrow_of n
raw_defined (forms.Stream v) = DefinedType.stream_of v
raw_defined (forms.Future v) = DefinedType.future_of v

-- the raw form of a function type
abbrev pub raw_function : ComponentFuncType → FunctionType
raw_function f = record { is_async = f.async_; parameters = map labeled f.params.items; result_type = f.result }

-- the raw form of an alias
abbrev pub raw_alias : BorrowedAlias → Alias
raw_alias (aliases.InstanceExport instance name) = Alias.of_export instance name.now
raw_alias (aliases.Outer count index) = Alias.of_outer count index

-- the bytes of a text, where there is one
abbrev pub text_given : Option (CowStr Global) → Option (List ℕ)
text_given text = option_map cow_str_bytes text

-- the raw form of the name of an import or an export, with its attributes
abbrev pub raw_name : ComponentExternName → ExternName
raw_name name = record {
  text = cow_str_bytes name.name;
  implements = text_given name.implements;
  version_suffix = text_given name.version_suffix;
  external_id = text_given name.external_id;
}
