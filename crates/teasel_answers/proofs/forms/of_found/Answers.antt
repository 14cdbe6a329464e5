use Rattle.std.proofs.Common.{◌≡◌, false, sym, ◌∙◌}
use Rattle.base_lemmas.proofs.Options.{err_said as err-said, if_ok as if-ok}
use Rattle.wit_component.specs.Decoded.{MeansNothing}
use Rattle.wit_model.specs.declared.error.Error.{Error}
use Rattle.teasel_answers.specs.Forms.{MakesFound, MakesWorld, RefusesBound, RefusesComponent, RefusesFound, as_component, as_module, of_world}
use Rattle.teasel_messages.specs.Reasons.{is_memory}
use Rattle.witc_within.specs.declared.texts.Within.{Within}
use Rattle.teasel_answers.proofs.forms.of_found.Goals as goal

pub returns-then-is_module-clause-refused : goal.returns-then-is_module-clause-refused
returns-then-is_module-clause-refused c = err-said (RefusesBound c.args.form c.args.bytes.now) (λ (e : Error). is_memory e ≡ false → RefusesFound c.args.form c.args.bytes.now e)
    (λ e is _. as_module (sym c.is_module.ensures ∙ c.if-is_module.true) is) c.of_module.result c.of_module.ensures.refused

pub returns-in-Err-clause-makes : goal.returns-in-Err-clause-makes
returns-in-Err-clause-makes c = if-ok (λ (made : Within). MeansNothing c.args.bytes.now × MakesWorld c.args.form c.args.bytes.now made) (MakesFound c.args.form c.args.bytes.now)
    (λ made is. of_world (sym c.is_module.ensures ∙ c.if-is_module.false) is.0 is.1) c.of_world_or_refused.result c.of_world_or_refused.ensures.makes

pub returns-in-Err-clause-refused : goal.returns-in-Err-clause-refused
returns-in-Err-clause-refused c = err-said (λ (e : Error). is_memory e ≡ false → RefusesComponent c.args.form c.args.bytes.now e)
    (λ (e : Error). is_memory e ≡ false → RefusesFound c.args.form c.args.bytes.now e)
    (λ e is other. as_component (sym c.is_module.ensures ∙ c.if-is_module.false) (is other)) c.of_world_or_refused.result c.of_world_or_refused.ensures.refused
