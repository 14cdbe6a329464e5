-- Lemmas on what stands under a number.
use Rattle.semver.specs.declared.Version.{Version}
use Rattle.std.proofs.Common.{rules as std_rules, None, Option, true, ◌≡◌}
use Rattle.std.specs.Prelude.{is_none}
use Rattle.wit_model.specs.Lookup.{optional_version_text}

pub versionless : (v : Option Version) → optional_version_text v ≡ None → is_none v ≡ true
versionless x e = search std_rules
