use Rattle.std.proofs.Common.{◌≡◌, subst}
use Rattle.wit_model.specs.declared.error.Error.{Error}
use Rattle.wit_metadata.specs.Modules.{IsFrontData}
use Rattle.bind_sections.specs.{Blamed.Blames, Bound.RefusesBindings}
use Rattle.bind_modules.specs.Reached.{OutgrowsLists}
use Rattle.bind_modules.proofs.BoundTo.{data-in-front, passed}
use Rattle.encode_names.proofs.Paths.{passed as passed_on}
use Rattle.wit_model.specs.declared.error.Error.TheVariants as errors
use Rattle.bind_modules.proofs.modules.bind_carried.Goals as goal

pub returns-in_err-bind_section-in-Some-clause-refuses : goal.returns-in_err-bind_section-in-Some-clause-refuses
returns-in_err-bind_section-in-Some-clause-refuses c input bytes rest h x = passed_on (RefusesBindings input) c.in_err-bind_section-in-Some.field-0.0 c.from_residual.result
    (c.in_err-bind_section-in-Some.ensures.refuses input bytes rest c.args.count.now h
    (data-in-front bytes rest c.in-Some.section (subst (λ carried. IsFrontData bytes carried rest) c.in-Some.is x))) c.from_residual.ensures.1

pub returns-in_err-bind_section-in-Some-clause-blames : goal.returns-in_err-bind_section-in-Some-clause-blames
returns-in_err-bind_section-in-Some-clause-blames c input bytes rest h x = passed_on (Blames input c.args.count.now) c.in_err-bind_section-in-Some.field-0.0 c.from_residual.result
    (c.in_err-bind_section-in-Some.ensures.blames input bytes rest c.args.count.now h
    (data-in-front bytes rest c.in-Some.section (subst (λ carried. IsFrontData bytes carried rest) c.in-Some.is x))) c.from_residual.ensures.1

pub returns-in_err-bind_section-in-Some-clause-size : goal.returns-in_err-bind_section-in-Some-clause-size
returns-in_err-bind_section-in-Some-clause-size c input bytes rest h x = passed_on (λ (d : Error). d ≡ errors.Size → OutgrowsLists input) c.in_err-bind_section-in-Some.field-0.0 c.from_residual.result
    (c.in_err-bind_section-in-Some.ensures.size input bytes rest c.args.count.now h
    (data-in-front bytes rest c.in-Some.section (subst (λ carried. IsFrontData bytes carried rest) c.in-Some.is x))) c.from_residual.ensures.1

pub returns-in_ok-bind_section-in-Some-clause-ok : goal.returns-in_ok-bind_section-in-Some-clause-ok
returns-in_ok-bind_section-in-Some-clause-ok c input bytes rest h x = c.in_ok-bind_section-in-Some.ensures.ok input bytes rest c.args.count.now h
    (data-in-front bytes rest c.in-Some.section (subst (λ carried. IsFrontData bytes carried rest) c.in-Some.is x))

pub returns-in-None-clause-ok : goal.returns-in-None-clause-ok
returns-in-None-clause-ok c input bytes rest h x = passed input bytes rest c.args.count.now c.args.bound.now h (subst (λ carried. IsFrontData bytes carried rest) c.in-None.is x)
