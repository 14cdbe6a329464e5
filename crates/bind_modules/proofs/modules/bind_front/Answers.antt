use Rattle.std.proofs.Common.{◌≡◌, ◌∙◌, sym}
use Rattle.wit_model.specs.declared.error.Error.{Error}
use Rattle.bind_sections.specs.{Blamed.Blames, Bound.RefusesBindings}
use Rattle.bind_modules.specs.Reached.{OutgrowsLists}
use Rattle.bind_modules.proofs.BoundTo.{left-over, left-over-blamed}
use Rattle.encode_names.proofs.Paths.{passed as passed_on}
use Rattle.wit_model.specs.declared.error.Error.TheVariants as errors
use Rattle.bind_modules.proofs.modules.bind_front.Goals as goal

pub returns-in_err-carried-clause-refuses : goal.returns-in_err-carried-clause-refuses
returns-in_err-carried-clause-refuses c input at h =
    let e = c.in_err-carried.field-0.0 in
    passed_on (RefusesBindings input) e c.from_residual.result
    (left-over input c.args.bytes.now c.args.count.now c.args.bound.now c.args.offset e h c.requires.some c.in_err-carried.ensures.none at c.in_err-carried.ensures.refuses) c.from_residual.ensures.1

pub returns-in_err-bind_carried-clause-refuses : goal.returns-in_err-bind_carried-clause-refuses
returns-in_err-bind_carried-clause-refuses c input at h = passed_on (RefusesBindings input) c.in_err-bind_carried.field-0.0 c.from_residual-in_err-bind_carried.result
    (c.in_err-bind_carried.ensures.refuses input c.args.bytes.now c.in_ok-carried.behind.now h c.in_ok-carried.ensures.ok) c.from_residual-in_err-bind_carried.ensures.1

pub returns-in_err-carried-clause-blames : goal.returns-in_err-carried-clause-blames
returns-in_err-carried-clause-blames c input h =
    let e = c.in_err-carried.field-0.0 in
    passed_on (Blames input c.args.count.now) e c.from_residual.result
    (left-over-blamed input c.args.bytes.now c.args.count.now c.args.bound.now c.args.offset e h c.in_err-carried.ensures.none c.in_err-carried.ensures.refuses) c.from_residual.ensures.1

pub returns-in_err-bind_carried-clause-blames : goal.returns-in_err-bind_carried-clause-blames
returns-in_err-bind_carried-clause-blames c input h = passed_on (Blames input c.bind_carried.new.count) c.in_err-bind_carried.field-0.0 c.from_residual-in_err-bind_carried.result
    (c.in_err-bind_carried.ensures.blames input c.args.bytes.now c.in_ok-carried.behind.now h c.in_ok-carried.ensures.ok) c.from_residual-in_err-bind_carried.ensures.1

pub returns-in_err-carried-clause-size : goal.returns-in_err-carried-clause-size
returns-in_err-carried-clause-size c input h =
    let e = c.in_err-carried.field-0.0 in
    passed_on (λ (d : Error). d ≡ errors.Size → OutgrowsLists input) e c.from_residual.result
    (λ so. let is : errors.BadModule c.args.offset ≡ errors.Size = sym c.in_err-carried.ensures.refuses ∙ so in let no : ⊥ = cc in absurd no) c.from_residual.ensures.1

pub returns-in_err-bind_carried-clause-size : goal.returns-in_err-bind_carried-clause-size
returns-in_err-bind_carried-clause-size c input h = passed_on (λ (d : Error). d ≡ errors.Size → OutgrowsLists input) c.in_err-bind_carried.field-0.0 c.from_residual-in_err-bind_carried.result
    (c.in_err-bind_carried.ensures.size input c.args.bytes.now c.in_ok-carried.behind.now h c.in_ok-carried.ensures.ok) c.from_residual-in_err-bind_carried.ensures.1

pub returns-clause-ok : goal.returns-clause-ok
returns-clause-ok c input h = c.in_ok-bind_carried.ensures.ok input c.args.bytes.now c.in_ok-carried.behind.now h c.in_ok-carried.ensures.ok
