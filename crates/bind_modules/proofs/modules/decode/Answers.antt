use Rattle.std.proofs.Common.{◌≡◌, []}
use Rattle.wit_model.specs.declared.error.Error.{Error}
use Rattle.wit_bind.specs.Bindings.{binding_of}
use Rattle.bind_sections.specs.Bound.{RefusesBindings}
use Rattle.bind_modules.specs.Reached.{OutgrowsLists}
use Rattle.bind_modules.proofs.{Bare.reached-bare, BoundTo.strip-refused, Reached.strip-otherwise}
use Rattle.encode_names.proofs.Paths.{passed as passed_on}
use Rattle.wit_model.specs.declared.error.Error.TheVariants as errors
use Rattle.bind_modules.proofs.modules.decode.Goals as goal

pub returns-in_err-module-clause-refuses : goal.returns-in_err-module-clause-refuses
returns-in_err-module-clause-refuses c =
    let e = c.in_err-module.field-0.0 in
    passed_on (RefusesBindings c.args.bytes.now) e c.from_residual-in_err-module.result
    (strip-refused c.args.bytes.now (binding_of c.in_ok-bound.bound) e c.in_ok-bound.ensures.bound c.in_err-module.ensures.refuses) c.from_residual-in_err-module.ensures.1

pub returns-in_err-module-clause-size : goal.returns-in_err-module-clause-size
returns-in_err-module-clause-size c =
    let e = c.in_err-module.field-0.0 in
    passed_on (λ (d : Error). d ≡ errors.Size → OutgrowsLists c.args.bytes.now) e c.from_residual-in_err-module.result
    (λ so. absurd (strip-otherwise c.args.bytes.now e c.in_err-module.ensures.refuses so)) c.from_residual-in_err-module.ensures.1

pub returns-clause-bare : goal.returns-clause-bare
returns-clause-bare c = reached-bare c.args.bytes.now c.in_ok-bound.bound [] c.in_ok-bound.ensures.reached
