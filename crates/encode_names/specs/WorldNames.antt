-- The names under which the imports and exports of a world are written (Component Model Binary.md, "Import and Export Definitions"): each
-- path with its whole version, or with the canonical part of it and an attribute that completes it.
use Rattle.std.specs.Prelude.{ℕ, Bool, if◌then◌else◌, [], Option, Some, None, option_map, option_and_then, unwrap_or}
use Rattle.wit_model.specs.{Text.Text, Text.text_of, Lookup.interface_path, Lookup.canonical_path, Lookup.canonical_suffix, Meant.item_external_id}
use Rattle.wit_model.specs.Calls.{implemented}
use Rattle.wit_model.specs.declared.model.{Resolve.Resolve, WorldKey.WorldKey, WorldItem.WorldItem}
use Rattle.comp_bytes.specs.Raw.{ExternName}
use Rattle.wit_model.specs.declared.model.WorldKey.TheVariants as key

-- the path of an interface, as it is written
abbrev pub written_path : Resolve → Bool → ℕ → Text
written_path r canonical n = unwrap_or (if canonical then canonical_path r n else interface_path r n) []

-- the label of a key, or its path
abbrev pub written_key : Resolve → Bool → WorldKey → Text
written_key r canonical (key.Name name) = text_of name
written_key r canonical (key.Interface id) = written_path r canonical id.0

-- the interface whose path is written: the one that the key names, or the one that is implemented
abbrev pub pathed_interface : WorldKey → Option ℕ → Option ℕ
pathed_interface (key.Name name) target = target
pathed_interface (key.Interface id) target = Some id.0

-- what completes the version of a path that is written canonically
abbrev pub written_suffix : Resolve → Bool → Option ℕ → Option Text
written_suffix r canonical interface = if canonical then option_and_then (canonical_suffix r) interface else None

-- the name of an interface: its path
abbrev pub name_of_interface : Resolve → Bool → ℕ → ExternName
name_of_interface r canonical n = record {
  text = written_path r canonical n;
  implements = None;
  version_suffix = written_suffix r canonical (Some n);
  external_id = None;
}

-- the name of an import or an export, with its attributes
abbrev pub name_of_item : Resolve → Bool → WorldKey × WorldItem → ExternName
name_of_item r canonical e = record {
  text = written_key r canonical e.0;
  implements = option_map (written_path r canonical) (implemented r e.0 e.1);
  version_suffix = written_suffix r canonical (pathed_interface e.0 (implemented r e.0 e.1));
  external_id = item_external_id r e.1;
}
