use Rattle.std.proofs.Common.{◌≡◌, ◌∙◌, rules, length, subst, sym}
use Rattle.wit_model.specs.declared.error.Error.{Error}
use Rattle.wit_bind.proofs.RootBindings.{roots_are_roots}
use Rattle.bind_sections.specs.{Blamed.Blames, Bound.RefusesBindings}
use Rattle.bind_modules.specs.Reached.{OutgrowsLists}
use Rattle.bind_modules.proofs.BoundTo.{begins, begins-at, behind-preamble, counted-on, ends, ends-reached, no-module-blamed}
use Rattle.encode_names.proofs.Paths.{passed as passed_on}
use Rattle.wit_model.specs.declared.error.Error.TheVariants as errors
use Rattle.bind_modules.proofs.modules.bindings.Goals as goal

pub named_by_bytes-requires : goal.named_by_bytes-requires
named_by_bytes-requires c = (roots_are_roots c.in_ok-bound.bound c.in_ok-bound.ensures.root).0

pub returns-in_err-named-clause-refuses : goal.returns-in_err-named-clause-refuses
returns-in_err-named-clause-refuses c = passed_on (RefusesBindings c.args.bytes.now) c.in_err-named.field-0.0 c.from_residual-in_err-named.result
    (subst (RefusesBindings c.args.bytes.now) (sym c.in_err-named.ensures.refuses) tt) c.from_residual-in_err-named.ensures.1

pub returns-in_err-named-clause-size : goal.returns-in_err-named-clause-size
returns-in_err-named-clause-size c = passed_on (λ (d : Error). d ≡ errors.Size → OutgrowsLists c.args.bytes.now) c.in_err-named.field-0.0 c.from_residual-in_err-named.result
    (λ so. let is : errors.Memory ≡ errors.Size = sym c.in_err-named.ensures.refuses ∙ so in let no : ⊥ = cc in absurd no) c.from_residual-in_err-named.ensures.1

pub returns-in_err-rest-clause-blames : goal.returns-in_err-rest-clause-blames
returns-in_err-rest-clause-blames c =
    let e = c.in_err-rest.field-0.0 in
    passed_on (Blames c.args.bytes.now 0) e c.from_residual.result (no-module-blamed c.args.bytes.now 0 e c.in_err-rest.ensures.refuses c.in_err-rest.ensures.none) c.from_residual.ensures.1

pub returns-in_err-bound-clause-blames : goal.returns-in_err-bound-clause-blames
returns-in_err-bound-clause-blames c = passed_on (Blames c.args.bytes.now 0) c.in_err-bound.field-0.0 c.from_residual-in_err-bound.result
    (subst (Blames c.args.bytes.now 0) (sym c.in_err-bound.ensures.refuses) tt) c.from_residual-in_err-bound.ensures.1

pub returns-in_err-named-clause-blames : goal.returns-in_err-named-clause-blames
returns-in_err-named-clause-blames c = passed_on (Blames c.args.bytes.now 0) c.in_err-named.field-0.0 c.from_residual-in_err-named.result
    (subst (Blames c.args.bytes.now 0) (sym c.in_err-named.ensures.refuses) tt) c.from_residual-in_err-named.ensures.1

pub loop-rest-init : goal.loop-rest-init
loop-rest-init c = (
  begins c.args.bytes.now c.in_ok-rest.rest.now c.in_ok-bound.bound c.in_ok-rest.ensures.ok c.in_ok-bound.ensures.root,
  c.in_ok-named.ensures.named,
  behind-preamble c.args.bytes.now c.in_ok-rest.rest.now c.in_ok-rest.ensures.ok,
)

pub loop-rest-preserved : goal.loop-rest-preserved
loop-rest-preserved c = (
  c.in_ok-rest-2.ensures.ok c.args.bytes.now c.loop-rest.invariant.0,
  c.in_ok-rest-2.ensures.named,
  counted-on c.loop-rest.count c.bind_front.new.count (length c.loop-rest.rest.now) (length c.in_ok-rest-2.rest.now) (length c.args.bytes.now) c.loop-rest.invariant.2
      c.in_ok-rest-2.ensures.counts c.in_ok-rest-2.ensures.shorter,
)

pub returns-in_err-rest-2-clause-refuses : goal.returns-in_err-rest-2-clause-refuses
returns-in_err-rest-2-clause-refuses c = passed_on (RefusesBindings c.args.bytes.now) c.in_err-rest-2.field-0.0 c.from_residual-in_err-rest-2.result
    (c.in_err-rest-2.ensures.refuses c.args.bytes.now (begins-at c.args.bytes.now c.loop-rest.rest.now c.loop-rest.count c.loop-rest.bound c.loop-rest.invariant.0) c.loop-rest.invariant.0)
    c.from_residual-in_err-rest-2.ensures.1

pub returns-in_err-rest-2-clause-blames : goal.returns-in_err-rest-2-clause-blames
returns-in_err-rest-2-clause-blames c = passed_on (Blames c.args.bytes.now c.bind_front.new.count) c.in_err-rest-2.field-0.0 c.from_residual-in_err-rest-2.result
    (c.in_err-rest-2.ensures.blames c.args.bytes.now c.loop-rest.invariant.0) c.from_residual-in_err-rest-2.ensures.1

pub returns-in_err-rest-2-clause-size : goal.returns-in_err-rest-2-clause-size
returns-in_err-rest-2-clause-size c = passed_on (λ (d : Error). d ≡ errors.Size → OutgrowsLists c.args.bytes.now) c.in_err-rest-2.field-0.0 c.from_residual-in_err-rest-2.result
    (c.in_err-rest-2.ensures.size c.args.bytes.now c.loop-rest.invariant.0) c.from_residual-in_err-rest-2.ensures.1

pub returns-clause-bound : goal.returns-clause-bound
returns-clause-bound c =
    let none : length c.loop-rest.rest.now ≡ 0 = search rules in
    ends c.args.bytes.now c.loop-rest.rest.now c.loop-rest.count c.loop-rest.bound c.loop-rest.invariant.0 none

pub returns-clause-reached : goal.returns-clause-reached
returns-clause-reached c =
    let none : length c.loop-rest.rest.now ≡ 0 = search rules in
    ends-reached c.args.bytes.now c.loop-rest.rest.now c.loop-rest.count c.loop-rest.bound c.loop-rest.invariant.0 none
