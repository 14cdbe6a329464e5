use Rattle.std.proofs.Common.{rules, ◌∷◌, [], ◌++◌}
use Rattle.std.specs.{Prelude.decimal, Option.option_copied}
use Rattle.bind_keys.proofs.KeyTexts.{then_none, then_some}
use Rattle.bind_keys.proofs.versions.after_numbers.Goals as goal

pub returns-in_err-rest : goal.returns-in_err-rest
returns-in_err-rest c =
    then_none ((decimal c.args.version.now.major ++ (46 ∷ [])) ++ (decimal c.args.version.now.minor ++ (46 ∷ []))) (decimal c.args.version.now.patch)
    c.args.text.now (option_copied c.from_residual.result) (search rules) (search rules)

pub returns : goal.returns
returns c = then_some ((decimal c.args.version.now.major ++ (46 ∷ [])) ++ (decimal c.args.version.now.minor ++ (46 ∷ []))) (decimal c.args.version.now.patch) c.args.text.now c.in_ok-rest.rest.now
    (option_copied c.after_number.result) (search rules) c.after_number.ensures
