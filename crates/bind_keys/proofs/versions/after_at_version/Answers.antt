use Rattle.std.proofs.Common.{rules, ◌≡◌, ap, ◌∙◌, subst, Option, Some, ◌∷◌, [], option_map}
use Rattle.std.specs.Option.{option_copied}
use Rattle.semver.specs.declared.Version.{Version}
use Rattle.semver.specs.Identifiers.{parts_of}
use Rattle.wit_model.specs.{Names.at_version, Names.canonical_version, Rules.after_prefix}
use Rattle.bind_keys.specs.Versions.{canonical_text}
use Rattle.bind_keys.proofs.{KeyTexts.then_some, VersionTexts.canonical_is}
use Rattle.bind_keys.proofs.versions.after_at_version.Goals as goal

pub returns-in_ok-rest-in-Some : goal.returns-in_ok-rest-in-Some
returns-in_ok-rest-in-Some c =
    let version = c.in-Some.version in
    let given : Some version ≡ c.args.version.now = search rules in
    subst (λ (o : Option Version). option_copied c.after_canonical.result ≡ after_prefix (at_version (option_map (λ v. canonical_version (parts_of v)) o)) c.args.text.now) given
    (then_some (64 ∷ []) (canonical_text version) c.args.text.now c.in_ok-rest-in-Some.rest.now (option_copied c.after_canonical.result) (search rules) c.after_canonical.ensures
    ∙ ap (λ t. after_prefix (64 ∷ t) c.args.text.now) (canonical_is version))
