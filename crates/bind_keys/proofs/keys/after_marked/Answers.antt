use Rattle.std.proofs.Common.{rules, ◌≡◌, sym, ap, ◌∙◌, Some, None, option_and_then}
use Rattle.std.specs.Option.{option_copied}
use Rattle.wit_model.specs.Rules.{after_prefix}
use Rattle.bind_keys.proofs.keys.after_marked.Goals as goal
use Rattle.wit_model.proofs.RulesLemmas.{after_both}

pub returns-in_err-rest : goal.returns-in_err-rest
returns-in_err-rest c =
    let given : option_copied c.from_residual.result ≡ None = search rules in
    let none : None ≡ after_prefix c.args.front.now c.args.text.now = search rules in
    given ∙ ap (option_and_then (after_prefix c.args.mark.now)) none ∙ sym (after_both c.args.front.now c.args.mark.now c.args.text.now)

pub returns : goal.returns
returns c =
    let found : Some c.in_ok-rest.rest.now ≡ after_prefix c.args.front.now c.args.text.now = search rules in
    c.after_prefix-2.ensures ∙ ap (option_and_then (after_prefix c.args.mark.now)) found ∙ sym (after_both c.args.front.now c.args.mark.now c.args.text.now)
