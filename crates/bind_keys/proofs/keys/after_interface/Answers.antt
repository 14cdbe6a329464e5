use Rattle.std.proofs.Common.{rules}
use Rattle.std.specs.Option.{option_copied}
use Rattle.wit_model.specs.{Lookup.canonical_identity_of, Names.at_version, Text.Text}
use Rattle.bind_keys.proofs.KeyTexts.{then_none, then_some}
use Rattle.bind_keys.proofs.keys.after_interface.Goals as goal

pub returns-in_err-rest : goal.returns-in_err-rest
returns-in_err-rest c =
    let end : Text = at_version (canonical_identity_of c.args.own.now).version in
    then_none c.args.name.now end c.args.text.now (option_copied c.from_residual.result) (search rules) (search rules)

pub returns : goal.returns
returns c =
    let end : Text = at_version (canonical_identity_of c.args.own.now).version in
    then_some c.args.name.now end c.args.text.now c.in_ok-rest.rest.now (option_copied c.after_at_version.result) (search rules) (search rules)
