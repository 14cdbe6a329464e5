-- Versions are the same exactly where they have one text.
use Rattle.std.proofs.Common.{◌≡◌, ap, true}
use Rattle.semver.specs.declared.Version.{Version}
use Rattle.semver.specs.Identifiers.{parts_text, version_text}
use Rattle.wit_model.specs.{Names.is_version, Rules.same_version, Text.text_eq}
use Rattle.wit_model.proofs.VersionLaws.{one_version, same_text, same_versions as parts_same, versions_same as same_parts}
use Rattle.wit_model.proofs.TextLemmas.{text_same}
use Rattle.base_lemmas.proofs.Bools.{both_ways}

pub version_by_text : (a b : Version) → is_version a ≡ true → is_version b ≡ true → same_version a b ≡ text_eq (version_text a) (version_text b)
version_by_text a b h k = both_ways (same_version a b) (text_eq (version_text a) (version_text b)) (λ same. same_text (version_text a) (version_text b) (ap parts_text (parts_same a b same)))
    (λ same. same_parts a b (one_version a b h k (text_same (version_text a) (version_text b) same)))
