-- A text that was read as a version is the text of that version.
use Rattle.std.proofs.Common.{rules as std_rules, ◌≡◌, true, Ok}
use Rattle.semver.specs.declared.Version.{Version}
use Rattle.semver.specs.{Identifiers.parts_of, Identifiers.version_text, Parse.version_parts, Grammar.IsValid}
use Rattle.semver.proofs.Grammar.{version_parts-sound}
use Rattle.wit_model.specs.{Text.Text, Names.is_version}

valid_version : (v : Version) → IsValid (parts_of v) → is_version v ≡ true
valid_version v valid = search std_rules

pub version_read : (text : Text) (v : Version) → version_parts text ≡ Ok (parts_of v) → (is_version v ≡ true) × (version_text v ≡ text)
version_read text v h = let sound = version_parts-sound text (parts_of v) h in (valid_version v sound.1, sound.0)
