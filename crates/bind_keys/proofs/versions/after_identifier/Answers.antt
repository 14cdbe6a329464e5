use Rattle.std.proofs.Common.{rules, sym, ap, ◌∙◌}
use Rattle.std.specs.Option.{option_copied}
use Rattle.wit_model.specs.Rules.{after_prefix}
use Rattle.bind_keys.proofs.{KeyTexts.then_none, KeyTexts.then_some, VersionTexts.marked_filled}
use Rattle.bind_keys.proofs.versions.after_identifier.Goals as goal

pub returns-in_err-rest : goal.returns-in_err-rest
returns-in_err-rest c =
    then_none c.args.mark.now c.args.identifier.now c.args.text.now (option_copied c.from_residual.result) (search rules) (search rules)
    ∙ ap (λ t. after_prefix t c.args.text.now) (sym (marked_filled c.args.mark.now c.args.identifier.now c.if-is_empty.ensures))

pub returns : goal.returns
returns c = then_some c.args.mark.now c.args.identifier.now c.args.text.now c.in_ok-rest.rest.now (option_copied c.after_prefix-2.result) (search rules) c.after_prefix-2.ensures
    ∙ ap (λ t. after_prefix t c.args.text.now) (sym (marked_filled c.args.mark.now c.args.identifier.now c.if-is_empty.ensures))
