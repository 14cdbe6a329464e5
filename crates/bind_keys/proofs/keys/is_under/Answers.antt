use Rattle.std.proofs.Common.{rules, ◌≡◌, sym, ap, ◌∙◌, Some, None, false}
use Rattle.std.specs.Option.{option_map_or}
use Rattle.wit_model.specs.Text.{text_eq}
use Rattle.bind_keys.specs.KeyTests.{after_slash}
use Rattle.bind_keys.proofs.KeyTexts.{under_is}
use Rattle.bind_keys.proofs.keys.is_under.Goals as goal

pub returns-in-Some : goal.returns-in-Some
returns-in-Some c =
    let found : Some c.in-Some.rest.now ≡ after_slash c.args.front.now c.args.text.now = search rules in
    c.eq.ensures ∙ ap (λ o. option_map_or (text_eq c.args.name.now) o false) found ∙ sym (under_is c.args.front.now c.args.name.now c.args.text.now)

pub returns-in-None : goal.returns-in-None
returns-in-None c =
    let none : None ≡ after_slash c.args.front.now c.args.text.now = search rules in
    ap (λ o. option_map_or (text_eq c.args.name.now) o false) none ∙ sym (under_is c.args.front.now c.args.name.now c.args.text.now)
