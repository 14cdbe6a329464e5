use Rattle.std.proofs.Common.{rules, ◌∷◌, []}
use Rattle.std.specs.Option.{option_copied}
use Rattle.semver.specs.Identifiers.{build_text, pre_text}
use Rattle.bind_keys.specs.Versions.{marked_by}
use Rattle.bind_keys.proofs.KeyTexts.{then_none, then_some}
use Rattle.bind_keys.proofs.versions.after_identifiers.Goals as goal

pub returns-in_err-rest : goal.returns-in_err-rest
returns-in_err-rest c =
    then_none (marked_by (45 ∷ []) (pre_text c.args.version.now.pre)) (marked_by (43 ∷ []) (build_text c.args.version.now.build))
    c.args.text.now (option_copied c.from_residual.result) (search rules) (search rules)

pub returns : goal.returns
returns c = then_some (marked_by (45 ∷ []) (pre_text c.args.version.now.pre)) (marked_by (43 ∷ []) (build_text c.args.version.now.build)) c.args.text.now c.in_ok-rest.rest.now
    (option_copied c.after_identifier-2.result) (search rules) (search rules)
