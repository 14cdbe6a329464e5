use Rattle.std.proofs.Common.{◌≡◌, sym, ap, ◌∙◌, Some, None, option_and_then}
use Rattle.wit_model.specs.Rules.{after_prefix}
use Rattle.wit_model.proofs.RulesLemmas.{after_both as both_prefixes}
use Rattle.check_rules.proofs.members.after_both.Goals as goal

pub returns-in-Some : goal.returns-in-Some
returns-in-Some c =
    let found : Some c.in-Some.rest.now ≡ after_prefix c.args.first.now c.args.text.now = c.in-Some.ensures in
    c.after_prefix-in-Some.ensures ∙ (ap (option_and_then (after_prefix c.args.second.now)) found ∙ sym (both_prefixes c.args.first.now c.args.second.now c.args.text.now))

pub returns-in-None : goal.returns-in-None
returns-in-None c =
    let found : None ≡ after_prefix c.args.first.now c.args.text.now = c.in-None.ensures in
    ap (option_and_then (after_prefix c.args.second.now)) found ∙ sym (both_prefixes c.args.first.now c.args.second.now c.args.text.now)
