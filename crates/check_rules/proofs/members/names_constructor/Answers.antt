use Rattle.std.proofs.Common.{◌≡◌, sym, ap, ◌∙◌, false, Some, None}
use Rattle.std.specs.Option.{option_map_or}
use Rattle.wit_model.specs.{Text.text_eq, Rules.after_prefix}
use Rattle.wit_model.proofs.TextLemmas.{is_joined}
use Rattle.check_rules.proofs.members.names_constructor.Goals as goal

pub returns-in-Some : goal.returns-in-Some
returns-in-Some c =
    let found : Some c.in-Some.rest.now ≡ after_prefix c.args.mark.now c.args.name.now = c.in-Some.ensures in
    c.eq.ensures ∙ (ap (λ o. option_map_or (λ rest. text_eq rest c.args.resource.now) o false) found ∙ sym (is_joined c.args.mark.now c.args.resource.now c.args.name.now))

pub returns-in-None : goal.returns-in-None
returns-in-None c =
    let found : None ≡ after_prefix c.args.mark.now c.args.name.now = c.in-None.ensures in
    ap (λ o. option_map_or (λ rest. text_eq rest c.args.resource.now) o false) found ∙ sym (is_joined c.args.mark.now c.args.resource.now c.args.name.now)
