use Rattle.std.proofs.Common.{◌≡◌}
use Rattle.wit_model.specs.declared.error.Error.{Error}
use Rattle.bind_sections.specs.{Blamed.Blames, Bound.RefusesBindings}
use Rattle.bind_sections.proofs.DecodeSteps.{merge-blamed, merge-refused, section-blamed, section-refused}
use Rattle.bind_modules.specs.Reached.{OutgrowsLists}
use Rattle.bind_modules.proofs.{BoundTo.merged, Reached.outgrown, Reached.section-otherwise}
use Rattle.encode_names.proofs.Paths.{passed as passed_on}
use Rattle.wit_model.specs.declared.error.Error.TheVariants as errors
use Rattle.bind_modules.proofs.modules.bind_section.Goals as goal

pub returns-in_err-other-clause-refuses : goal.returns-in_err-other-clause-refuses
returns-in_err-other-clause-refuses c input bytes rest n h x =
    let e = c.in_err-other.field-0.0 in
    passed_on (RefusesBindings input) e c.from_residual.result
    (section-refused input bytes rest c.args.section.now c.args.bound.now h.read.0 x e c.in_err-other.ensures.refuses) c.from_residual.ensures.1

pub returns-in_err-other-clause-size : goal.returns-in_err-other-clause-size
returns-in_err-other-clause-size c input bytes rest n h x =
    let e = c.in_err-other.field-0.0 in
    passed_on (λ (d : Error). d ≡ errors.Size → OutgrowsLists input) e c.from_residual.result
    (λ so. absurd (section-otherwise c.args.section.now e c.in_err-other.ensures.refuses so)) c.from_residual.ensures.1

pub returns-in_err-other-clause-blames : goal.returns-in_err-other-clause-blames
returns-in_err-other-clause-blames c input bytes rest n h x =
    let e = c.in_err-other.field-0.0 in
    passed_on (Blames input n) e c.from_residual.result
    (section-blamed input bytes rest c.args.section.now c.args.bound.now h.read.0 x n h.read.1 e c.in_err-other.ensures.refuses) c.from_residual.ensures.1

pub returns-in_err-merge_named-clause-blames : goal.returns-in_err-merge_named-clause-blames
returns-in_err-merge_named-clause-blames c input bytes rest n h x =
    let e = c.in_err-merge_named.field-0.0 in
    passed_on (Blames input n) e c.from_residual-in_err-merge_named.result
    (merge-blamed input bytes rest c.args.section.now c.args.bound.now h.read.0 x c.in_ok-other.other c.in_ok-other.ensures.binds n h.read.1 e c.in_err-merge_named.ensures.refusal)
    c.from_residual-in_err-merge_named.ensures.1

pub returns-in_err-merge_named-clause-refuses : goal.returns-in_err-merge_named-clause-refuses
returns-in_err-merge_named-clause-refuses c input bytes rest n h x =
    let e = c.in_err-merge_named.field-0.0 in
    passed_on (RefusesBindings input) e c.from_residual-in_err-merge_named.result
    (merge-refused input bytes rest c.args.section.now c.args.bound.now h.read.0 x c.in_ok-other.other c.in_ok-other.ensures.binds e c.in_err-merge_named.ensures.refusal)
    c.from_residual-in_err-merge_named.ensures.1

pub returns-in_err-merge_named-clause-size : goal.returns-in_err-merge_named-clause-size
returns-in_err-merge_named-clause-size c input bytes rest n h x =
    let e = c.in_err-merge_named.field-0.0 in
    passed_on (λ (d : Error). d ≡ errors.Size → OutgrowsLists input) e c.from_residual-in_err-merge_named.result
    (outgrown input bytes rest c.args.section.now n c.args.bound.now c.in_ok-other.other h x c.in_ok-other.ensures.binds e c.in_err-merge_named.ensures.refusal)
    c.from_residual-in_err-merge_named.ensures.1

pub returns-clause-ok : goal.returns-clause-ok
returns-clause-ok c input bytes rest n h x =
    let is = c.in_ok-merge_named.ensures.merged in
    merged input bytes rest c.args.section.now n c.args.bound.now c.in_ok-other.other c.merge_named.new.bound is.0 h x c.in_ok-other.ensures.binds is.1
