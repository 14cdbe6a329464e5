use Rattle.semver.specs.Identifiers.{version_text}
use Rattle.wit_model.specs.{Names.is_label, Names.is_version_text, Text.text_of}
use Rattle.print_items.proofs.Driven.{driven}
use Rattle.base_lemmas.proofs.Bools.{right_of}
use Rattle.print_items.proofs.gates.write_gates.Goals as goal

pub write_deprecated-requires : goal.write_deprecated-requires
write_deprecated-requires g c = record { version = right_of (is_version_text (version_text c.in-Stable.since)) _ (rw c.in-Stable.is at c.requires.well) }

pub write_deprecated-requires-in-Unstable : goal.write_deprecated-requires-in-Unstable
write_deprecated-requires-in-Unstable g c = record { version = right_of (is_label (text_of c.in-Unstable.feature)) _ (rw c.in-Unstable.is at c.requires.well) }

pub returns-in-Stable : goal.returns-in-Stable
returns-in-Stable g c = record { calls = rw c.in-Stable.is (driven c.write_version_attribute.ensures.calls c.write_deprecated.ensures.calls) }
