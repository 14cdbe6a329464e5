use Rattle.std.proofs.Common.{◌∙◌}
use Rattle.semver.specs.Identifiers.{parts_of}
use Rattle.semver.proofs.Grammar.{version_parts-sound}
use Rattle.text_types.proofs.texts.version_of.Goals as goal

pub returns-in-Ok : goal.returns-in-Ok
returns-in-Ok c = record { text = (version_parts-sound _ (parts_of c.in-Ok.version) c.in-Ok.ensures.ok).0 ∙ c.in_ok-part.ensures.bytes }
