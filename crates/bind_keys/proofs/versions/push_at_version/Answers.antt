use Rattle.std.proofs.Common.{rules, ◌≡◌, subst, IfSome, ◌∷◌, [], ◌++◌, Option, Some, option_map}
use Rattle.semver.specs.declared.Version.{Version}
use Rattle.semver.specs.Identifiers.{parts_of}
use Rattle.wit_model.specs.Names.{at_version, canonical_version}
use Rattle.bind_keys.proofs.VersionTexts.{pushed}
use Rattle.bind_keys.proofs.versions.push_at_version.Goals as goal

pub returns-in_ok-push-in-Some : goal.returns-in_ok-push-in-Some
returns-in_ok-push-in-Some c =
    let first : c.push.new.text.bytes ≡ c.args.text.now.bytes ++ (64 ∷ []) = search rules in
    let given : Some c.in-Some.version ≡ c.args.version.now = search rules in
    subst (λ (o : Option Version). IfSome c.push_canonical.result (λ _. c.push_canonical.new.text.bytes ≡ c.args.text.now.bytes ++ at_version (option_map (λ v. canonical_version (parts_of v)) o)))
    given (pushed c.args.text.now.bytes c.push.new.text.bytes c.push_canonical.new.text.bytes c.in-Some.version c.push_canonical.result first c.push_canonical.ensures)
