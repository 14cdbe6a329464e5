use Rattle.std.proofs.Common.{◌≡◌, ◌∙◌, sym, subst, true, false, Bool}
use Rattle.base_lemmas.proofs.Options.{err_said as err-said, if_ok as if-ok}
use Rattle.wit_component.specs.Decoded.{MeansNothing}
use Rattle.wit_model.specs.declared.error.Error.{Error}
use Rattle.teasel_answers.specs.Forms.{DecidesPackage, MakesWorld, RefusesComponent, RefusesWorldFor, as_package, as_world}
use Rattle.teasel_messages.specs.Reasons.{is_memory}
use Rattle.witc_within.specs.declared.texts.Within.{Within}
use Rattle.teasel_answers.proofs.forms.of_world_or_refused.Goals as goal

pub returns-then-none-clause-makes : goal.returns-then-none-clause-makes
returns-then-none-clause-makes c =
    let nothing = subst (λ (b : Bool). DecidesPackage c.args.bytes.now b) c.if-none.true c.in-Ok.ensures.decides in
    if-ok (MakesWorld c.args.form c.args.bytes.now) (λ (made : Within). MeansNothing c.args.bytes.now × MakesWorld c.args.form c.args.bytes.now made)
    (λ made is. (nothing, is)) c.of_world_instead.result c.of_world_instead.ensures.makes

pub returns-then-none-clause-refused : goal.returns-then-none-clause-refused
returns-then-none-clause-refused c =
    let nothing = subst (λ (b : Bool). DecidesPackage c.args.bytes.now b) c.if-none.true c.in-Ok.ensures.decides in
    err-said (RefusesWorldFor c.args.form c.args.bytes.now) (λ (e : Error). is_memory e ≡ false → RefusesComponent c.args.form c.args.bytes.now e)
    (λ e is _. as_world nothing is) c.of_world_instead.result c.of_world_instead.ensures.refused

pub returns-else-none-clause-refused : goal.returns-else-none-clause-refused
returns-else-none-clause-refused c = λ _. as_package (subst (λ (b : Bool). DecidesPackage c.args.bytes.now b) c.if-none.false c.in-Ok.ensures.decides) c.requires

pub returns-in-Err-clause-refused : goal.returns-in-Err-clause-refused
returns-in-Err-clause-refused c = λ other. let wrong : true ≡ false = sym c.in-Err.ensures.memory ∙ other in absurd cc
