use Rattle.std.proofs.Common.{◌≡◌, ap, ◌∙◌, Some, rules}
use Rattle.semver.specs.Identifiers.{parts_of, parts_text}
use Rattle.wit_model.specs.{Names.canonical_version, Paths.suffix_after}
use Rattle.wit_model.proofs.PathParts.{suffix_follows}
use Rattle.wit_model.proofs.paths.version_suffix.Goals as goal

pub returns-in-Some-clause-ok : goal.returns-in-Some-clause-ok
returns-in-Some-clause-ok c =
    let v = c.args.version.now in
    let text : c.deref.result.now ≡ parts_text (parts_of v) = search rules in
    let canonical : c.deref-2.result.now ≡ canonical_version (parts_of v) = search rules in
    ap Some c.in_ok-from_str-in-Some.ensures.ok ∙ (c.in-Some.ensures ∙ ((λ i. suffix_after (canonical i) (text i)) ∙ suffix_follows (parts_of v)))

pub returns-clause-ok : goal.returns-clause-ok
returns-clause-ok c =
    let v = c.args.version.now in
    let text : c.deref.result.now ≡ parts_text (parts_of v) = search rules in
    let canonical : c.deref-2.result.now ≡ canonical_version (parts_of v) = search rules in
    c.in-None.ensures ∙ ((λ i. suffix_after (canonical i) (text i)) ∙ suffix_follows (parts_of v))
