use Rattle.std.proofs.Common.{rules, ◌∷◌, [], ◌++◌}
use Rattle.std.specs.Option.{option_copied}
use Rattle.wit_model.specs.Text.{text_of}
use Rattle.bind_keys.proofs.KeyTexts.{then_none, then_some}
use Rattle.bind_keys.proofs.keys.after_names.Goals as goal

pub returns-in_err-rest : goal.returns-in_err-rest
returns-in_err-rest c =
    let own = c.args.own.now in
    then_none (text_of own.namespace ++ (58 ∷ [])) (text_of own.name ++ (47 ∷ [])) c.args.text.now (option_copied c.from_residual.result) (search rules) (search rules)

pub returns : goal.returns
returns c =
    let own = c.args.own.now in
    then_some (text_of own.namespace ++ (58 ∷ [])) (text_of own.name ++ (47 ∷ [])) c.args.text.now c.in_ok-rest.rest.now (option_copied c.after_marked-2.result) (search rules) (search rules)
