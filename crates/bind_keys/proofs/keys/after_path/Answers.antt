use Rattle.std.proofs.Common.{rules, ap, ◌∙◌, ◌∷◌, [], ◌++◌}
use Rattle.std.specs.Option.{option_copied}
use Rattle.wit_model.specs.{Lookup.canonical_identity_of, Names.at_version, Rules.after_prefix, Text.Text, Text.text_of}
use Rattle.bind_keys.proofs.KeyTexts.{path_parts, then_none, then_some}
use Rattle.bind_keys.proofs.keys.after_path.Goals as goal

pub returns-in_err-rest : goal.returns-in_err-rest
returns-in_err-rest c =
    let own = c.args.own.now in
    let end : Text = at_version (canonical_identity_of own).version in
    then_none ((text_of own.namespace ++ (58 ∷ [])) ++ (text_of own.name ++ (47 ∷ []))) (c.args.name.now ++ end) c.args.text.now (option_copied c.from_residual.result) (search rules) (search rules)
    ∙ ap (λ p. after_prefix p c.args.text.now) (path_parts (text_of own.namespace) (text_of own.name) c.args.name.now end)

pub returns : goal.returns
returns c =
    let own = c.args.own.now in
    let end : Text = at_version (canonical_identity_of own).version in
    then_some ((text_of own.namespace ++ (58 ∷ [])) ++ (text_of own.name ++ (47 ∷ []))) (c.args.name.now ++ end) c.args.text.now c.in_ok-rest.rest.now (option_copied c.after_interface.result)
    (search rules) (search rules) ∙ ap (λ p. after_prefix p c.args.text.now) (path_parts (text_of own.namespace) (text_of own.name) c.args.name.now end)
