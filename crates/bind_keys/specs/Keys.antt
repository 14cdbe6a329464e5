-- The keys under which the encodings of functions are kept (documentation of wit-component's `EncodingMap`; WIT.md, "Package declaration"; Semantic
-- Versioning 2.0.0).
use Rattle.std.specs.Prelude.{Option, Some, option_map}
use Rattle.wit_model.specs.declared.model.{Resolve.Resolve, WorldKey.WorldKey}
use Rattle.wit_model.specs.{Lookup.canonical_path, Text.Text, Text.text_of}
use Rattle.wit_model.specs.declared.model.WorldKey.TheVariants as key
pub use Rattle.bind_meaning.specs.Keys.{text_under}
pub use Rattle.compat_meaning.specs.Opened.{bare_identity as unversioned, bare_path as unversioned_path}

-- what stands in front of a function: the label under which its interface, or itself, is imported or exported, or the canonical path of its interface
abbrev pub scope_of : Resolve → WorldKey → Option Text
scope_of r (key.Name name) = Some (text_of name)
scope_of r (key.Interface id) = canonical_path r id.0

-- the key of a function by its name, and none under an interface that has no path
abbrev pub function_key : Resolve → WorldKey → Text → Option Text
function_key r scope function = option_map (λ text. text_under text function) (scope_of r scope)

-- ---- keys without version, as maps of earlier tools have them

-- what the functions of a key stand under, without version: a label, or an interface's path
abbrev pub unversioned_scope_of : Resolve → WorldKey → Option Text
unversioned_scope_of r (key.Name name) = Some (text_of name)
unversioned_scope_of r (key.Interface id) = unversioned_path r id.0

-- the key of a function without version
abbrev pub unversioned_key : Resolve → WorldKey → Text → Option Text
unversioned_key r scope function = option_map (λ text. text_under text function) (unversioned_scope_of r scope)
