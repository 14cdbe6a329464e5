-- The raw names that names of imports and exports stand for.
use Rattle.std.specs.Prelude.{option_map}
use Rattle.comp_bytes.specs.{Raw.ExternName as RawName, RawOf.text_of}
use Rattle.read_follow.specs.declared.names.ExternName.{ExternName}

abbrev pub raw_name : ExternName → RawName
raw_name n = record {
  text = n.text.now;
  implements = option_map text_of n.implements;
  version_suffix = option_map text_of n.version_suffix;
  external_id = option_map text_of n.external_id;
}
