use Rattle.std.proofs.Common.{rules}
use Rattle.std.specs.Option.{option_copied}
use Rattle.bind_keys.specs.Versions.{identifiers_of, numbers_of}
use Rattle.bind_keys.proofs.KeyTexts.{then_none, then_some}
use Rattle.bind_keys.proofs.versions.after_whole.Goals as goal

pub returns-in_err-rest : goal.returns-in_err-rest
returns-in_err-rest c = then_none (numbers_of c.args.version.now) (identifiers_of c.args.version.now) c.args.text.now (option_copied c.from_residual.result) (search rules) (search rules)

pub returns : goal.returns
returns c = then_some (numbers_of c.args.version.now) (identifiers_of c.args.version.now) c.args.text.now c.in_ok-rest.rest.now (option_copied c.after_identifiers.result) (search rules)
    c.after_identifiers.ensures
