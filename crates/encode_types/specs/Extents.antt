-- How many bytes are written at most of what an encoder is asked to add (Component Model Binary.md, "Type Definitions" and "Import and Export
-- Definitions").
use Rattle.std.specs.Prelude.{ℕ, ◌+◌, ◌*◌, if◌then◌else◌, List, map, length, sum_by, Option, is_some}
use Rattle.std.specs.Option.{option_map_or}
use Rattle.wit_model.specs.{Text.Text, Text.text_of, Text.optional_text, Meaning.Signature, Meant.signature_of, Meant.type_meaning, Lookup.type_at}
use Rattle.wit_model.specs.Tree.{Tree, Form, child_list, primitive, named, node, record_of, variant_of, tuple_of, flags_of, enum_of}
use Rattle.wit_model.specs.declared.model.{Resolve.Resolve, TypeDef.TypeDef, Function.Function, InterfaceId.InterfaceId}
use Rattle.comp_bytes.specs.Raw.{ExternName}
use Rattle.encode_types.specs.declared.maps.TypeEncodingMaps.{TypeEncodingMaps}
use Rattle.encode_types.specs.{Kinds.kind_tree, Plan.foreign_owner, Room.function_name, Scope.exported_name}

-- ---- one thing

-- the bytes of labels at most, each with what stands beside it
abbrev pub labels_extent : List Text → ℕ
labels_extent labels = sum_by (λ label. 16 + length label) labels

-- the bytes of a form at most, beside its first byte and its count: its labels, or the parts of a tuple
abbrev pub form_extent : Form → List Tree → ℕ
form_extent (record_of labels) ts = labels_extent labels
form_extent (variant_of cases) ts = labels_extent (map (λ c. c.0) cases)
form_extent tuple_of ts = 16 * length ts
form_extent (flags_of names) ts = labels_extent names
form_extent (enum_of names) ts = labels_extent names
form_extent _ ts = 0

-- the bytes of a tree's definition at most, its parts by index
abbrev pub tree_extent : Tree → ℕ
tree_extent (primitive p) = 16
tree_extent (named place name) = 16
tree_extent (node form ts) = 16 + form_extent form (child_list ts)

-- the bytes of a function's type at most
abbrev pub signature_extent : Signature → ℕ
signature_extent s = 16 + labels_extent (map (λ p. p.0) s.params)

-- the length of a text, and 0 where there is none
abbrev pub given_length : Option Text → ℕ
given_length text = option_map_or length text 0

-- the bytes of an import or an export under a name at most
abbrev pub name_extent : ExternName → ℕ
name_extent name = 40 + (length name.text + (given_length name.implements + (given_length name.version_suffix + given_length name.external_id)))

-- the bytes of a type's export at most, where it has a name
abbrev pub own_name_extent : Resolve → TypeDef → ℕ
own_name_extent r def = option_map_or (λ name. name_extent (exported_name (text_of name, type_meaning r def))) def.name 0

-- the bytes at most of the aliases of a type of another interface: by its name, and from the scope around
abbrev pub import_extent : TypeDef → ℕ
import_extent def = 32 + given_length (optional_text def.name)

-- the bytes at most of a type number, in the scope of an interface or of none: a type of another interface gets aliases
abbrev pub number_extent : Resolve → Option InterfaceId → ℕ → ℕ
number_extent r own n =
    option_map_or (λ def. if is_some (foreign_owner own def.owner) then import_extent def else tree_extent (kind_tree r def.kind) + own_name_extent r def)
    (type_at r n) 0

-- a function, under its name
abbrev pub function_extent : Resolve → Text × Function → ℕ
function_extent r f = signature_extent (signature_of r f.1) + name_extent (function_name f)

-- ---- what maps know

-- the bytes at most of the type numbers that have an index
abbrev pub known_extent : Resolve → Option InterfaceId → TypeEncodingMaps → ℕ
known_extent r own m = sum_by (λ e. number_extent r own e.0) m.id_to_index.entries
