-- Which forms fit: every count and every length in them is a number of 32 bits (Component Model Binary.md, where vec and name have such counts).
use Rattle.std.specs.Prelude.{ℕ, ◌^◌, Bool, true, ◌&&◌, nat_lt, List, length, Option, Some, None}
use Rattle.std.specs.List.{list_all}
use Rattle.comp_bytes.specs.Raw.{Labeled, DefinedType, FunctionType, Alias, ExternName, Declaration}

-- whether the length of a list is a number of 32 bits
abbrev pub fits_length : {A : Type 0} → List A → Bool
fits_length xs = nat_lt (length xs) (2 ^ 32)

-- whether the length of a label fits
abbrev pub fits_label : {T : Type 0} → Labeled T → Bool
fits_label x = fits_length x.label

-- whether a list of labelled things fits, and each label
abbrev pub fits_labels : {T : Type 0} → List (Labeled T) → Bool
fits_labels xs = fits_length xs && list_all fits_label xs

-- whether a list of names fits, and each name
abbrev pub fits_names : List (List ℕ) → Bool
fits_names names = fits_length names && list_all fits_length names

-- whether the counts and the names in a definition fit
abbrev pub fits_defined : DefinedType → Bool
fits_defined (DefinedType.record_of fields) = fits_labels fields
fits_defined (DefinedType.variant_of cases) = fits_labels cases
fits_defined (DefinedType.tuple_of vs) = fits_length vs
fits_defined (DefinedType.flags_of names) = fits_names names
fits_defined (DefinedType.enum_of names) = fits_names names
fits_defined (DefinedType.primitive p) = true
fits_defined (DefinedType.list_of v) = true
fits_defined (DefinedType.fixed_length_list_of v n) = true
fits_defined (DefinedType.option_of v) = true
fits_defined (DefinedType.result_of ok err) = true
fits_defined (DefinedType.own_of n) = true
fits_defined (DefinedType.borrow_of n) = true
fits_defined (DefinedType.stream_of v) = true
fits_defined (DefinedType.future_of v) = true
fits_defined (DefinedType.map_of k v) = true

-- whether the parameters of a function type fit
abbrev pub fits_function : FunctionType → Bool
fits_function f = fits_labels f.parameters

-- whether the name in an alias fits
abbrev pub fits_alias : Alias → Bool
fits_alias (Alias.of_export n name) = fits_length name
fits_alias (Alias.of_outer scopes n) = true

-- whether a text that may be left out fits
abbrev pub fits_given : Option (List ℕ) → Bool
fits_given None = true
fits_given (Some text) = fits_length text

-- whether the attributes of a name fit
abbrev pub fits_attributes : ExternName → Bool
fits_attributes name = fits_given name.implements && (fits_given name.version_suffix && fits_given name.external_id)

-- whether the name of an import or an export fits, with its attributes
abbrev pub fits_name : ExternName → Bool
fits_name name = fits_length name.text && fits_attributes name

-- whether all counts and names in a declaration fit
abbrev pub fits_declaration : Declaration → Bool
fits_declaration (Declaration.defined d) = fits_defined d
fits_declaration (Declaration.function f) = fits_function f
fits_declaration (Declaration.alias_of a) = fits_alias a
fits_declaration (Declaration.imported name described) = fits_name name
fits_declaration (Declaration.exported name described) = fits_name name
