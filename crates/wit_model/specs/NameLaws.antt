-- Laws on paths and versions.
use Rattle.std.specs.Prelude.{◌≡◌, ◌↔◌, true, Some, None, is_some}
use Rattle.semver.specs.declared.Version.{Version}
use Rattle.semver.specs.Identifiers.{parts_of, version_text}
use Rattle.wit_model.specs.declared.model.PackageName.{PackageName}
use Rattle.wit_model.specs.{Text.Text, Lookup.identity_of, Rules.passes, Rules.same_package_name}
use Rattle.wit_model.specs.Names.{PackageIdentity, path_in, is_identity, is_label, is_version, IsPath, read_path, without_version}

-- A path that is spelled reads back.
abbrev pub SpelledPathReads : Type 0
SpelledPathReads = (p : PackageIdentity) (name : Text) → is_identity p ≡ true → is_label name ≡ true → read_path (path_in p name) ≡ Some (p, name)

-- What reads as a path is spelled as one.
pub record IsSpelled (text : Text) (p : PackageIdentity) (name : Text) : Type 0 where
  pub spelled : text ≡ path_in p name
  pub identity : is_identity p ≡ true
  pub label : is_label name ≡ true

abbrev pub ReadPathIsSpelled : Type 0
ReadPathIsSpelled = (text : Text) (p : PackageIdentity) (name : Text) → read_path text ≡ Some (p, name) → IsSpelled text p name

-- The grammar of a path, and the function that reads one, say the same.
abbrev pub PathGrammar : Type 0
PathGrammar = (text : Text) → IsPath text ↔ (is_some (read_path text) ≡ true)

-- A path is that of one name in one package.
abbrev pub OnePath : Type 0
OnePath = (p q : PackageIdentity) (a b : Text) → is_identity p ≡ true → is_label a ≡ true → is_identity q ≡ true → is_label b ≡ true → path_in p a ≡ path_in q b
    → (p ≡ q) × (a ≡ b)

-- Versions with the same text have the same parts.
abbrev pub OneVersion : Type 0
OneVersion = (v w : Version) → is_version v ≡ true → is_version w ≡ true → version_text v ≡ version_text w → parts_of v ≡ parts_of w

-- A path without its version is the path of the same name in the package without its version.
abbrev pub PathWithoutVersion : Type 0
PathWithoutVersion = (p : PackageIdentity) (name : Text) → is_identity p ≡ true → is_label name ≡ true
    → without_version (path_in p name) ≡ path_in (record p { version = None }) name

-- Two packages have the same name exactly where they are named alike in paths.
abbrev pub SameName : Type 0
SameName = (a b : PackageName) → passes is_version a.version ≡ true → passes is_version b.version ≡ true → (same_package_name a b ≡ true)
    ↔ (identity_of a ≡ identity_of b)
